-- `first_rows` meets its contract: the loop's invariant is `FirstRow`.
use Rattle.shortest.proofs.Filling.{FirstRow}
use Rattle.shortest.proofs.rows.first_rows.Given as goal

abbrev pub invariant-loop-c : goal.invariant-loop-c
invariant-loop-c l = FirstRow l.table l.row l.c l.top
