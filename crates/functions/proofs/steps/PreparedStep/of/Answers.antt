-- A step is prepared: only family 1 takes p = 0, and the tests before the scale are passed.
use borrow.Author.Rules.{rules}
use Rattle.functions.proofs.Legal.{accepted, p_positive}
use Rattle.functions.proofs.steps.PreparedStep.of.Goals as goal

pub nonzero_rem-result : goal.nonzero_rem-result
nonzero_rem-result c = p_positive _ c.args.step.p _ c.args.step.family (search rules) c.args.step.accepted

pub top-requires : goal.top-requires
top-requires c =
    let a = accepted _ _ _ _ c.args.step.accepted in
    (a.capacity_in_range, a.is_legal)
