-- `halves` meets its contract: row k - 1 is known before a turn.
use Prim.Native.Nat.{◌-◌}
use Rattle.shortest.specs.Rows.{Rows}
use Rattle.shortest.proofs.rows.halves.Given as goal

abbrev pub invariant-loop-k : goal.invariant-loop-k
invariant-loop-k l = Rows l.table (l.k - 1) l.fewer l.row
