-- `next_row` meets its contract: the loop's invariant is `Stepped`.
use Rattle.shortest.proofs.Filling.{Stepped}
use Rattle.shortest.proofs.rows.next_row.Given as goal

abbrev pub invariant-loop-size : goal.invariant-loop-size
invariant-loop-size l = Stepped l.table l.k l.fewer l.row l.size l.top
