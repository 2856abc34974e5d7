-- `judge_rows` meets its contract: the loop's invariant is `RowsSoFar`, with the list buffer as it was.
use mathlib.Core.Path.{◌≡◌}
use Rattle.fields.specs.Parts.{job_steps, job_rows}
use Rattle.fields.specs.Record.{RowsLeft}
use Rattle.jobs.specs.Job.{fields_in}
use Rattle.jobs.proofs.Judged.{RowsSoFar}
use Rattle.jobs.proofs.rows.judge_rows.Given as goal

abbrev pub invariant-loop-k : goal.invariant-loop-k
invariant-loop-k l = RowsLeft (fields_in l.job.bytes.now) l.k l.rest
    × RowsSoFar (job_steps (fields_in l.job.bytes.now)) (job_rows (fields_in l.job.bytes.now)) l.k
    × (l.list ≡ l.initial.list)
