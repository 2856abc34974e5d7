-- `read` meets its contract: the fields, and then the kind.
use mathlib.Core.Path.{sym, ap, ◌∙◌}
use Rattle.jobs.specs.Kinds.{takes}
use Rattle.jobs.specs.Job.{judge_reading}
use Rattle.refusals.proofs.Stopped.{stopped}
use Rattle.jobs.proofs.Judged.{kind_refused}
use Rattle.jobs.proofs.read.ReadJob.read.Goals as goal

pub returns-in_err-parts : goal.returns-in_err-parts
unfolding judge_reading
returns-in_err-parts c =
    rw (stopped _ c.from_residual.ensures.1, c.in_err-parts.ensures)

pub returns-in_err-kind : goal.returns-in_err-kind
unfolding judge_reading
returns-in_err-kind c =
    let read = c.in_ok-parts.ensures in
    let unknown = c.in_err-kind.ensures in
    rw (stopped _ c.from_residual-in_err-kind.ensures.1, unknown.1)
    (ap (judge_reading c.args.operation) read.complete_as ∙ kind_refused _ c.args.operation (ap (takes c.args.operation) (sym read.parts_are.kind_is) ∙ unknown.0))
