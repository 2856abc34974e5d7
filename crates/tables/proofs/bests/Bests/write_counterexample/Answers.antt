-- `write_counterexample` meets its contract: the loop's invariant is `Written`.
use native.Mathlib.Omega.{arith}
use Rattle.tables.specs.Table.{table_capacity}
use Rattle.tables.proofs.Written.{written_start, written_next, written_end, in_totals, total_is, turn}
use Rattle.tables.proofs.bests.Bests.write_counterexample.Goals as goal

pub loop-c-init : goal.loop-c-init
unfolding table_capacity
loop-c-init c = written_start _ _ c.requires.room

pub bounds-self-c : goal.bounds-self-c
bounds-self-c c = in_totals c.args.self.known c.requires.all_known c.loop-c.invariant

pub loop-c-preserved : goal.loop-c-preserved
loop-c-preserved c =
    written_next _ _ _ _ _ c.loop-c.invariant (turn c.args.self.known c.requires.all_known c.loop-c.invariant c.loop-c-test.true).some _ c.least_size-y.ensures

pub returns : goal.returns
returns c =
    let done = written_end _ _ _ _ _ c.loop-c.invariant (omega (arith, total_is c.args.self.known c.requires.all_known c.loop-c.invariant, c.loop-c-test.false)) in record { length = done.0; written = done.1 }
