-- `fill_bests` meets its contract: the loop's invariant is `Filled`.
use native.Mathlib.Omega.{arith}
use lib.Seq.{length-take-le}
use Rattle.tables.proofs.Filled.{filled_first, filled_next, filled_end}
use Rattle.tables.proofs.fill.fill_bests.Goals as goal

pub loop-c-init : goal.loop-c-init
loop-c-init c = filled_first _ _ c.requires.table_form c.requires.table_in_bounds

pub loop-c-preserved : goal.loop-c-preserved
loop-c-preserved c =
    let count = length-take-le c.loop-c.c c.loop-c.working (omega arith) in
    filled_next _ _ _ _ c.loop-c.invariant _ (omega arith) (rw count at c.next_best.ensures)

pub returns : goal.returns
returns c = filled_end _ c.args.working.now _ _ c.loop-c.invariant (omega arith)
