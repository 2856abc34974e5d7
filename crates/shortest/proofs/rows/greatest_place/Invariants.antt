-- `greatest_place` meets its contract: the loop's invariant is `Splitting`.
use Rattle.shortest.proofs.Splitting.{Splitting}
use Rattle.shortest.proofs.rows.greatest_place.Given as goal

abbrev pub invariant-loop-s : goal.invariant-loop-s
invariant-loop-s l = Splitting l.first l.rest l.s l.most l.place
