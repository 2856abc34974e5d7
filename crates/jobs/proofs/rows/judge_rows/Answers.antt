-- `judge_rows` meets its contract: the loop's invariant is `RowsSoFar`, with the list buffer as it was.
use mathlib.Core.Path.{refl, sym, ◌∙◌}
use Prim.Native.Nat.{◌<◌}
use native.Mathlib.Numerals.{add-one}
use native.Mathlib.Omega.{arith}
use lib.ListN.{length}
use Rattle.fields.specs.Parts.{job_rows}
use Rattle.fields.specs.Record.{RowFound}
use Rattle.fields.proofs.Walking.{all_left}
use Rattle.jobs.specs.Job.{fields_in}
use Rattle.chains.proofs.Present.{plain_passes}
use Rattle.jobs.proofs.Taken.{parts_are, standing}
use Rattle.refusals.proofs.Stopped.{stopped}
use Rattle.jobs.proofs.Judged.{rows_start, rows_refused, rows_next, rows_done}
use Rattle.jobs.proofs.rows.judge_rows.Goals.{After-next_row-row}
use Rattle.jobs.proofs.rows.judge_rows.Goals as goal

-- the row that a turn judges, and that it is one of the rows
more : (c : After-next_row-row) → c.loop-k.k < length (job_rows (fields_in c.args.job.bytes.now))
more c = omega (arith, (parts_are c.args.job).rows_count, c.loop-k-test.true)

found : (c : After-next_row-row) → RowFound (fields_in c.args.job.bytes.now) c.loop-k.k c.next_row-row.result
found c = c.next_row-row.ensures.found _ _ c.loop-k.invariant.0 (more c)

pub loop-k-init : goal.loop-k-init
loop-k-init c = (all_left _ _ (standing c.args.job), rows_start _ _, refl)

pub judge_row-requires : goal.judge_row-requires
judge_row-requires c =
    let h = parts_are c.args.job in
    (rw (sym h.steps_are) at c.loop-k.invariant.1.tables, omega (arith, c.requires, c.loop-k-test.true))

pub returns-in_err-judge_row : goal.returns-in_err-judge_row
returns-in_err-judge_row c =
    let at = (goal.at.returns-in_err-judge_row c).After-next_row-row in
    rw (stopped _ c.from_residual.ensures.1)
    (rows_refused _ _ _ c.loop-k.invariant.1 (more at) _ (found at).row_is _ _ _ (rw ((parts_are c.args.job).steps_are, c.loop-k.invariant.2) at c.in_err-judge_row.ensures))

pub loop-k-preserved : goal.loop-k-preserved
loop-k-preserved c =
    let at = (goal.at.loop-k-preserved c).After-next_row-row in
    let next = rows_next _ _ _ c.loop-k.invariant.1 (more at) _ (found at).row_is _ _ _ (rw (parts_are c.args.job).steps_are at c.in_ok-judge_row.ensures) in
    (rw (add-one c.loop-k.k) (found at).behind, next.0, next.1 ∙ c.loop-k.invariant.2)

pub returns : goal.returns
returns c =
    let over = rows_done _ _ _ c.loop-k.invariant.1 (omega (arith, (parts_are c.args.job).rows_count, c.loop-k-test.false)) in
    rw (c.loop-k.invariant.2, over) (plain_passes _ _)
