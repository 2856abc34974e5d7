-- `map_sizes` meets its contract: each turn puts the next size's image in its place.
use Rattle.functions.specs.Families.{family_image}
use Rattle.functions.proofs.Mapped.{Mapped}
use Rattle.functions.proofs.steps.map_sizes.Given as goal

abbrev pub invariant-loop-size : goal.invariant-loop-size
invariant-loop-size l = Mapped (family_image l.prepared.step.capacity l.prepared.step.family l.prepared.step.p l.prepared.step.q) l.initial.sizes l.sizes l.size-index
