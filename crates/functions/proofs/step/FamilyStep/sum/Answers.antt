-- In each arm of `sum` the family byte is known: in the last one it is 5.
use native.Mathlib.Omega.{arith}
use Rattle.functions.proofs.Legal.{accepted, single_most}
use Rattle.functions.proofs.step.FamilyStep.sum.Goals as goal

pub of_family-requires-in_default : goal.of_family-requires-in_default
of_family-requires-in_default c =
    let a = accepted _ _ _ _ c.args.self.accepted in
    omega (arith, single_most _ _ _ (rw c.requires.0 at c.args.self.accepted))
