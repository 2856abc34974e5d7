-- `judge_steps` meets its contract: the loop's invariant is `Present`, with the list buffer as it was.
use mathlib.Core.Path.{refl, ◌∙◌}
use Rattle.std.proofs.Common.{rules}
use Rattle.refusals.proofs.Stopped.{stopped}
use Rattle.chains.proofs.Present.{steps_at, step_within, steps_past, present_start, loop_fails, loop_passes, present_end, plain_passes}
use Rattle.chains.proofs.Judged.{table_passes}
use Rattle.chains.proofs.judge.judge_steps.Goals as goal

pub loop-i-init : goal.loop-i-init
loop-i-init c = (present_start _ _, refl)

pub judge_step-requires : goal.judge_step-requires
judge_step-requires c =
    let more = c.loop-i-test.true in
    (step_within c.args.steps _ _ more, λ checked. table_passes _ c.loop-i.i-counter _ _ (c.requires checked) (steps_at _ _ _ more))

pub returns-in_err-present-clause-judged : goal.returns-in_err-present-clause-judged
returns-in_err-present-clause-judged c =
    let loop = c.loop-i in
    rw (stopped _ c.from_residual.ensures.1, ← loop.invariant.1) (loop_fails _ _ _ _ loop.invariant.0 _ (steps_at _ _ _ c.loop-i-test.true) _ _ _ _ (search rules) c.judge_step.ensures)

pub loop-i-preserved : goal.loop-i-preserved
loop-i-preserved c =
    let loop = c.loop-i in
    let next = loop_passes _ _ _ _ loop.invariant.0 _ (steps_at _ _ _ c.loop-i-test.true) _ _ _ _ (search rules) c.judge_step.ensures in
    (next.0, next.1 ∙ loop.invariant.1)

pub returns-clause-judged : goal.returns-clause-judged
returns-clause-judged c =
    let loop = c.loop-i in
    rw (← loop.invariant.1, present_end _ _ _ _ loop.invariant.0 (steps_past c.args.steps _ c.loop-i-test.false)) (plain_passes _ _)
