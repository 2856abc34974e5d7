-- `turn` meets its contract: where p passes, its sum gives its floor, and the better of both stays.
use Rattle.std.proofs.Common.{sym, ◌∙◌, arith}
use Rattle.refusals.proofs.Numbers.{number_positive}
use Rattle.functions.proofs.Promise.{family_promise}
use Rattle.sweeps.proofs.Sweeps.{floor_is, turn_fails, turn_passes}
use Rattle.sweeps.proofs.sweep.Sweep.turn.Goals as goal

pub round_up-floor-requires : goal.round_up-floor-requires
round_up-floor-requires c =
    let step = c.in-Ok.step in
    let promise = family_promise _ _ _ _ step.accepted in
    (omega (arith, step.scaled, promise.scale_positive), omega (arith, step.scaled, promise.scale_within_limit, c.sum_of-sum.ensures.sum_most, c.args.self.list.accepted.few))

pub returns-in-Ok : goal.returns-in-Ok
returns-in-Ok c =
    let same = c.in-Ok.ensures.step in
    let summed = rw same.2 at c.sum_of-sum.ensures in
    let scaled = rw (same.0, same.1, same.2, same.3) at c.in-Ok.step.scaled in
    turn_passes _ _ _ c.requires.0 _ _ _ (sym c.in-Ok.ensures.number) summed (floor_is _ _ _ _ _ summed scaled c.round_up-floor.ensures) c.better.ensures

pub returns-in-Err : goal.returns-in-Err
returns-in-Err c = turn_fails _ _ _ c.requires.0 (λ none. omega (arith, c.in-Err.ensures.number ∙ none, number_positive c.in-Err.field-0))
