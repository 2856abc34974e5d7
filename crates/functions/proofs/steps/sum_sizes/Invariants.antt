-- `sum_sizes` meets its contract: each turn adds the next size's count times its image.
use lib.ListN.{length}
use Rattle.functions.specs.Words.{limit}
use Rattle.functions.specs.Families.{family_image}
use Rattle.functions.specs.Summed.{Summed}
use Rattle.functions.proofs.steps.sum_sizes.Given as goal

abbrev pub invariant-loop-size : goal.invariant-loop-size
invariant-loop-size l = Summed (family_image l.prepared.step.capacity l.prepared.step.family l.prepared.step.p l.prepared.step.q) limit l.counts l.sizes l.sum (length l.yielded)
