-- `put_rows` meets its contract: each turn puts the next row's cut.
use mathlib.Core.Path.{◌≡◌}
use lib.ListN.{take, drop}
use Rattle.fields.specs.Parts.{job_steps, job_rows, coefficient_count}
use Rattle.fields.specs.Record.{RowsLeft}
use Rattle.jobs.specs.Job.{fields_in}
use Rattle.report.specs.Text.{rows_text}
use Rattle.report.specs.Put.{Put}
use Rattle.report.proofs.lines.put_rows.Given as goal

abbrev pub invariant-loop-scale : goal.invariant-loop-scale
invariant-loop-scale l = RowsLeft (fields_in l.job) l.scale-index l.rest
    × (l.left ≡ drop (coefficient_count (take l.scale-index (job_rows (fields_in l.job)))) l.images)
    × Put l.initial.out 0 (rows_text (job_steps (fields_in l.job)) (take l.scale-index (job_rows (fields_in l.job)))) l.out l.next
