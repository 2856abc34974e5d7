-- `greatest` meets its contract: of the sizes before y the greatest entry is known.
use Rattle.shortest.specs.Rows.{GreatestEntry}
use Rattle.shortest.proofs.put.greatest.Given as goal

abbrev pub invariant-loop-y : goal.invariant-loop-y
invariant-loop-y l = GreatestEntry l.table l.y l.size
