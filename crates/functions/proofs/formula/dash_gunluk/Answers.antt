-- `dash_gunluk` meets its contract: the gap divides n where the multiple of it that reaches n is n. No product has more than two unbounded factors, and base and rest are bounded together.
use mathlib.Core.Path.{◌≡◌, sym, ap, ◌∙◌}
use Prim.Native.Nat.{ℕ, ◌+◌, ◌-◌, ◌*◌, ◌/◌, ◌%◌, ◌≤◌, ◌<◌}
use native.Mathlib.Nat.{mod-le, mod-lt}
use native.Mathlib.Omega.{arith}
use Rattle.functions.specs.Words.{limit}
use Rattle.functions.specs.Families.{dash_gunluk, theta}
use Rattle.functions.proofs.Bounds.{product_most, whole_most, whole_times_most}
use Rattle.functions.proofs.Quotient.{up_below}
use Rattle.functions.proofs.Remainder.{theta_of}
use Rattle.functions.proofs.DashGunluk.{rest_divisible, rest_indivisible}
use Rattle.functions.proofs.formula.dash_gunluk.Goals.{After-saturating_sub-b, After-round_up}
use Rattle.functions.proofs.formula.dash_gunluk.Goals as goal

excess_most : (c : After-saturating_sub-b) → c.saturating_sub-b.result ≤ limit
excess_most c = omega (arith, mod-le c.args.x c.args.p)

n_most : (c : After-saturating_sub-b) → c.saturating_sub-b.result * c.args.q ≤ (limit + 1) * (limit + 1)
n_most c = product_most c.saturating_sub-b.result c.args.q (omega (arith, excess_most c)) (omega arith)

whole_below : (c : After-round_up) → c.round_up.result * (c.args.p - c.args.r) < c.saturating_sub-b.result * c.args.q + (c.args.p - c.args.r)
whole_below c = rw c.round_up.ensures (up_below (c.args.p - c.args.r) (omega arith) (c.saturating_sub-b.result * c.args.q))

-- of base and rest together
sum_most : (c : After-round_up) → c.args.x / c.args.p * (c.args.p - c.args.r) * (c.args.q + 1) + c.saturating_sub-b.result * (c.args.q + 1) ≤ (limit + 1) * (limit + 1)
sum_most c =
    let a = c.args in
    whole_times_most a.p a.q a.r a.x c.saturating_sub-b.result (omega arith) (omega arith) (omega (arith, c.saturating_sub-b.ensures))

n_is : (c : After-round_up) → c.saturating_sub-b.result * c.args.q ≡ (c.args.x % c.args.p - c.args.r) * c.args.q
n_is c = ap (λ (b : ℕ). b * c.args.q) c.saturating_sub-b.ensures

whole_is : (c : After-round_up) → c.round_up.result * (c.args.p - c.args.r) ≡ theta c.args.p c.args.q c.args.r (c.args.x % c.args.p) * (c.args.p - c.args.r)
whole_is c =
    let a = c.args in
    ap (λ (t : ℕ). t * (a.p - a.r))
    (c.round_up.ensures ∙ sym (theta_of a.p a.q a.r c.requires.0 (a.x % a.p) c.saturating_sub-b.result (sym c.saturating_sub-b.ensures)))

pub overflow_mul-n : goal.overflow_mul-n
overflow_mul-n c = omega (arith, n_most (goal.at.overflow_mul-n c).After-saturating_sub-b)

pub round_up-requires : goal.round_up-requires
round_up-requires c = omega (arith, n_most (goal.at.round_up-requires c).After-saturating_sub-b)

pub overflow_mul-whole : goal.overflow_mul-whole
overflow_mul-whole c = omega (arith, n_most (goal.at.overflow_mul-whole c).After-saturating_sub-b, whole_below (goal.at.overflow_mul-whole c).After-round_up)

pub overflow_mul-base : goal.overflow_mul-base
overflow_mul-base c = omega (arith, whole_most c.args.p c.args.r c.args.x)

pub overflow_mul-base-2 : goal.overflow_mul-base-2
overflow_mul-base-2 c = omega (arith, sum_most (goal.at.overflow_mul-base-2 c).After-round_up)

pub overflow_add-result : goal.overflow_add-result
overflow_add-result c = omega (arith, n_most (goal.at.overflow_add-result c).After-saturating_sub-b, excess_most (goal.at.overflow_add-result c).After-saturating_sub-b)

pub overflow_add-result-then-whole-n : goal.overflow_add-result-then-whole-n
overflow_add-result-then-whole-n c = omega (arith, sum_most (goal.at.overflow_add-result-then-whole-n c).After-round_up)

pub overflow_add-result-else-whole-n : goal.overflow_add-result-else-whole-n
overflow_add-result-else-whole-n c = omega (arith, sum_most (goal.at.overflow_add-result-else-whole-n c).After-round_up, whole_below (goal.at.overflow_add-result-else-whole-n c).After-round_up)

pub returns-then-whole-n : goal.returns-then-whole-n
unfolding dash_gunluk
returns-then-whole-n c =
    let a = c.args in
    let less = c.requires.0 in
    let rest = rest_divisible a.p a.q a.r less (a.x % a.p) (mod-lt a.x (omega arith)) (omega (arith, c.if-whole-n.true, n_is (goal.at.returns-then-whole-n c).After-round_up, whole_is (goal.at.returns-then-whole-n c).After-round_up)) in
    omega (arith, rest, n_is (goal.at.returns-then-whole-n c).After-round_up, c.saturating_sub-b.ensures)

pub returns-else-whole-n : goal.returns-else-whole-n
unfolding dash_gunluk
returns-else-whole-n c =
    let a = c.args in
    let less = c.requires.0 in
    let rest = rest_indivisible a.p a.q a.r less (a.x % a.p) (mod-lt a.x (omega arith)) (λ e. c.if-whole-n.false (omega (arith, e, n_is (goal.at.returns-else-whole-n c).After-round_up, whole_is (goal.at.returns-else-whole-n c).After-round_up))) in
    omega (arith, rest, whole_is (goal.at.returns-else-whole-n c).After-round_up)
