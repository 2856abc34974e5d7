-- `place_over` meets its contract: no sum behind s, up to the middle, is over the scale.
use Rattle.shortest.proofs.Splitting.{OverFrom}
use Rattle.shortest.proofs.rows.place_over.Given as goal

abbrev pub invariant-loop-s : goal.invariant-loop-s
invariant-loop-s l = OverFrom l.first l.rest l.scale l.s
