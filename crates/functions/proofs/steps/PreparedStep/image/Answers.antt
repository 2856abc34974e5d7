-- `image` meets its contract. In each arm the family byte is known, and the definition computes to the arm's formula.
use mathlib.Core.Path.{◌≡◌}
use Prim.Native.Nat.{◌%◌}
use native.Mathlib.Omega.{arith}
use Rattle.functions.specs.Families.{family_image}
use Rattle.functions.proofs.Legal.{accepted}
use Rattle.functions.proofs.Ready.{ready_1, ready_2, ready_3, ready_4, ready_5, ready_6, ready_7}
use Rattle.functions.proofs.steps.PreparedStep.image.Goals.{In_default}
use Rattle.functions.proofs.steps.PreparedStep.image.Goals as goal

last : (c : In_default) → c.args.self.step.family ≡ 7
last c =
    let a = accepted _ _ _ _ c.args.self.step.accepted in
    omega arith

pub threshold-requires : goal.threshold-requires
threshold-requires c = ready_1 _ _ _ _ c.requires (rw c.in-1.is at c.args.self.step.accepted)

pub rounding-requires : goal.rounding-requires
rounding-requires c = ready_2 _ _ _ _ c.requires (rw c.in-2.is at c.args.self.step.accepted)

pub mirrored_quotient-requires : goal.mirrored_quotient-requires
mirrored_quotient-requires c = ready_3 _ _ _ _ c.requires _ (rw c.in-3.is at c.args.self.step.accepted) (rw c.in-3.is at c.args.self.at_top)

pub mirrored_vanderbeck-requires : goal.mirrored_vanderbeck-requires
mirrored_vanderbeck-requires c = ready_4 _ _ _ _ c.requires _ (rw c.in-4.is at c.args.self.step.accepted) (rw c.in-4.is at c.args.self.at_top)

pub burdett_johnson-requires : goal.burdett_johnson-requires
burdett_johnson-requires c = ready_5 _ _ _ _ c.requires _ (rw c.in-5.is at c.args.self.remains) (rw c.in-5.is at c.args.self.step.accepted)

pub mirrored_letchford_lodi-requires : goal.mirrored_letchford_lodi-requires
mirrored_letchford_lodi-requires c = ready_6 _ _ _ _ c.requires _ (rw c.in-6.is at c.args.self.step.accepted) (rw c.in-6.is at c.args.self.at_top) _ (rw c.in-6.is at c.args.self.remains)

pub dash_gunluk-requires : goal.dash_gunluk-requires
dash_gunluk-requires c =
    let seventh = last (goal.at.dash_gunluk-requires c).In_default in
    ready_7 _ _ _ _ c.requires _ (rw seventh at c.args.self.remains) (rw seventh at c.args.self.step.accepted)

pub returns-in-1 : goal.returns-in-1
unfolding family_image
returns-in-1 c = rw c.in-1.is c.threshold.ensures

pub returns-in-2 : goal.returns-in-2
unfolding family_image
returns-in-2 c = rw c.in-2.is c.rounding.ensures

pub returns-in-3 : goal.returns-in-3
unfolding family_image
returns-in-3 c = rw c.in-3.is c.mirrored_quotient.ensures

pub returns-in-4 : goal.returns-in-4
unfolding family_image
returns-in-4 c = rw c.in-4.is c.mirrored_vanderbeck.ensures

pub returns-in-5 : goal.returns-in-5
unfolding family_image
returns-in-5 c =
    let r : c.args.self.remainder ≡ c.args.self.step.capacity % c.args.self.step.p = rw c.in-5.is at c.args.self.remains in
    rw (c.in-5.is, ← r) c.burdett_johnson.ensures

pub returns-in-6 : goal.returns-in-6
unfolding family_image
returns-in-6 c =
    let r : c.args.self.remainder ≡ c.args.self.step.capacity % c.args.self.step.p = rw c.in-6.is at c.args.self.remains in
    rw (c.in-6.is, ← r) c.mirrored_letchford_lodi.ensures

pub returns-in_default : goal.returns-in_default
unfolding family_image
returns-in_default c =
    let seventh = last (goal.at.returns-in_default c).In_default in
    let r : c.args.self.remainder ≡ c.args.self.step.capacity % c.args.self.step.p = rw seventh at c.args.self.remains in
    rw (seventh, ← r) c.dash_gunluk.ensures
