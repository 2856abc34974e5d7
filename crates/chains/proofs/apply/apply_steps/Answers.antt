-- `apply_steps` meets its contract: the loop's invariant is `Through`.
use Rattle.chains.proofs.Present.{steps_at, step_within, steps_past}
use Rattle.chains.proofs.Applying.{through_next, through_end, appliable}
use Rattle.chains.proofs.apply.apply_steps.Goals as goal

pub apply_step-present-requires : goal.apply_step-present-requires
apply_step-present-requires c =
    let more = c.loop-step-test.true in
    (step_within c.args.steps _ _ more, appliable _ _ _ _ _ _ c.loop-step.invariant _ (steps_at _ _ _ more))

pub loop-step-preserved : goal.loop-step-preserved
loop-step-preserved c = through_next _ _ _ _ _ _ c.loop-step.invariant _ (steps_at _ _ _ c.loop-step-test.true) _ _ c.apply_step-present.ensures

pub returns : goal.returns
returns c = through_end _ _ _ _ _ _ c.loop-step.invariant (steps_past c.args.steps _ c.loop-step-test.false)
