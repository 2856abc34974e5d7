-- `fewest` meets its contract: the loop's invariant is `Seeking`.
use Prim.Native.Nat.{◌-◌}
use Rattle.tables.specs.Table.{table_capacity}
use Rattle.shortest.proofs.Seeking.{Seeking}
use Rattle.shortest.proofs.seek.fewest.Given as goal

abbrev pub invariant-loop-split : goal.invariant-loop-split
invariant-loop-split l = Seeking l.table l.fewer l.row l.k

abbrev pub decreases-loop-split : goal.decreases-loop-split
decreases-loop-split l = table_capacity l.table - l.k
