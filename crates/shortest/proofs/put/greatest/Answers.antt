-- `greatest` meets its contract: of the sizes before y the greatest entry is known.
use mathlib.Core.Path.{◌≡◌}
use native.Mathlib.Omega.{arith}
use Rattle.tables.specs.Table.{entry}
use Rattle.shortest.proofs.Writing.{greatest_start, greatest_kept, greatest_taken}
use Rattle.shortest.proofs.put.greatest.Goals as goal
use Rattle.shortest.proofs.put.greatest.Goals.{then-table-size, else-table-size}

pub loop-y-init : goal.loop-y-init
loop-y-init c = greatest_start _

pub loop-y-preserved : goal.loop-y-preserved
unfolding entry
loop-y-preserved c =
    elim c.if-table-size.branch [
      | then-table-size w ↦ rw w.size-is (greatest_taken c.loop-y.invariant w.if-table-size.true)
      | else-table-size w ↦ rw w.size-is (greatest_kept c.loop-y.invariant w.if-table-size.false)
    ]

pub returns : goal.returns
returns c =
    let all : c.loop-y.y ≡ c.args.places = omega arith in
    rw all at c.loop-y.invariant
