-- In each arm of `map` the family byte is known: in the last one it is 7.
use native.Mathlib.Omega.{arith}
use Rattle.functions.proofs.Legal.{accepted}
use Rattle.functions.proofs.step.FamilyStep.map.Goals as goal

pub of_family-requires-in_default : goal.of_family-requires-in_default
of_family-requires-in_default c =
    let a = accepted _ _ _ _ c.args.self.accepted in
    omega arith
