-- `offer` meets its contract: the loop's invariant is `OfferedTo`.
use Rattle.shortest.proofs.Filling.{OfferedTo}
use Rattle.shortest.proofs.rows.offer.Given as goal

abbrev pub invariant-loop-c : goal.invariant-loop-c
invariant-loop-c l = OfferedTo l.size l.image l.k l.c l.fewer l.initial.row l.row
