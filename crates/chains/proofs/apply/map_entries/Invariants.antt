-- `map_entries` meets its contract: each turn puts the next size's entry in its place.
use Rattle.functions.proofs.Mapped.{Mapped}
use Rattle.tables.specs.Table.{entry}
use Rattle.fields.specs.Bytes.{words}
use Rattle.chains.proofs.apply.map_entries.Given as goal

abbrev pub invariant-loop-image : goal.invariant-loop-image
invariant-loop-image l = Mapped (entry (words l.entries)) l.initial.images l.images l.image-index
