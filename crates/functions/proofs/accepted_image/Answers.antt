-- `accepted_image` meets its contract: the judgement, then refusal 5, then the formula.
use mathlib.Core.Path.{sym}
use Rattle.refusals.proofs.Stopped.{stopped}
use native.Mathlib.Omega.{arith}
use Rattle.refusals.proofs.Numbers.{number_positive}
use Rattle.functions.proofs.Answers.{step_refused, image_over, image_passes, image_accepted}
use Rattle.functions.proofs.accepted_image.Goals as goal

pub returns-in_err-step-clause-number : goal.returns-in_err-step-clause-number
returns-in_err-step-clause-number c =
    rw (stopped _ c.from_residual.ensures.1) (step_refused _ _ _ _ _ _ c.in_err-step.ensures.number (λ none. omega (arith, none, number_positive c.in_err-step.field-0.0)))

pub returns-then-capacity-x-clause-number : goal.returns-then-capacity-x-clause-number
returns-then-capacity-x-clause-number c = image_over _ _ _ _ _ (sym c.in_ok-step.ensures.number) c.if-capacity-x.true

pub returns-clause-number : goal.returns-clause-number
returns-clause-number c = image_passes _ _ _ _ _ (sym c.in_ok-step.ensures.number) c.if-capacity-x.false

pub returns-clause-answer : goal.returns-clause-answer
returns-clause-answer c =
    let same = c.in_ok-step.ensures.step in
    rw (c.image.ensures, c.of.ensures, c.in_ok-step.step.scaled, same.0, same.1, same.2, same.3) (image_accepted _ _ _ _ _ (sym c.in_ok-step.ensures.number) c.if-capacity-x.false)
