-- `accepted` meets its contract: an accepted step passed the tests that come before the scale.
use Rattle.functions.proofs.Legal.{accepted}
use Rattle.functions.proofs.step.FamilyStep.accepted.Goals as goal

pub scale-requires : goal.scale-requires
scale-requires c =
    let a = accepted _ _ _ _ c.requires in
    (a.capacity_in_range, a.family_known, a.is_legal)
