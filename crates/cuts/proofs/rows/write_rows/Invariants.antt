-- `write_rows` meets its contract: the loop's invariant is `RowsWritten`.
use Rattle.fields.specs.Parts.{job_steps}
use Rattle.jobs.specs.Job.{fields_in}
use Rattle.cuts.proofs.Writing.{RowsWritten}
use Rattle.cuts.proofs.rows.write_rows.Given as goal

abbrev pub invariant-loop-k : goal.invariant-loop-k
invariant-loop-k l = RowsWritten (fields_in l.job.bytes.now) (job_steps (fields_in l.job.bytes.now)) l.initial.images l.initial.scales l.k l.rest l.place l.images l.scales
