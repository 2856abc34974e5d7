-- `scale` meets its contract. In each arm the family byte is known, so its line of the legal parameters bounds the factors.
use mathlib.Core.Path.{ap}
use Prim.Native.Nat.{ℕ, ◌+◌, ◌*◌, ◌%◌}
use native.Mathlib.Omega.{arith}
use Rattle.functions.specs.Families.{family_scale}
use Rattle.functions.proofs.Bounds.{product_most, whole_most}
use Rattle.functions.proofs.Legal.{Within, within, legal_5, legal_7}
use Rattle.functions.proofs.Ready.{twice_top}
use Rattle.functions.proofs.judge.scale.Goals.{Start}
use Rattle.functions.proofs.judge.scale.Goals as goal

limits : (c : Start) → Within c.args.capacity c.args.p c.args.q
limits c = within _ _ _ _ c.requires.0 c.requires.2

pub overflow_mul-result : goal.overflow_mul-result
overflow_mul-result c =
    let w = limits (goal.at.overflow_mul-result c).Start in
    omega (arith, product_most c.args.capacity c.args.p (omega arith) (omega arith))

pub gaps-requires : goal.gaps-requires
gaps-requires c = (legal_5 _ _ _ (rw c.in-5.is at c.requires.2)).0

pub gaps-requires-in-7 : goal.gaps-requires-in-7
gaps-requires-in-7 c = (legal_7 _ _ _ (rw c.in-7.is at c.requires.2)).least

pub overflow_add-result : goal.overflow_add-result
overflow_add-result c = omega (arith, limits (goal.at.overflow_add-result c).Start)

pub overflow_mul-result-in-7 : goal.overflow_mul-result-in-7
overflow_mul-result-in-7 c =
    let a = c.args in
    let w = limits (goal.at.overflow_mul-result-in-7 c).Start in
    omega (arith, product_most c.gaps-in-7.result (a.q + 1) (omega (arith, c.gaps-in-7.ensures, whole_most a.p (a.capacity % a.p) a.capacity)) (omega arith))

pub overflow_mul-result-in_default : goal.overflow_mul-result-in_default
overflow_mul-result-in_default c = omega (arith, c.top.ensures)

pub returns-in-1 : goal.returns-in-1
unfolding family_scale
returns-in-1 c = rw c.in-1.is

pub returns-in-2 : goal.returns-in-2
unfolding family_scale
returns-in-2 c = rw c.in-2.is

pub returns-in-5 : goal.returns-in-5
unfolding family_scale
returns-in-5 c = rw c.in-5.is c.gaps.ensures

pub returns-in-7 : goal.returns-in-7
unfolding family_scale
returns-in-7 c =
    let a = c.args in
    rw c.in-7.is (omega (arith, ap (λ (n : ℕ). n * (a.q + 1)) c.gaps-in-7.ensures))

pub returns-in_default : goal.returns-in_default
returns-in_default c = rw c.top.ensures.0 (twice_top _ _ _ _ c.requires.1 (λ e. omega arith) (λ e. omega arith) (λ e. omega arith) (λ e. omega arith))
