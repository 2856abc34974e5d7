-- `letchford_lodi` meets its contract. Each factor is within the limit, so no product passes 64 bits, and θ adds at most q.
use mathlib.Core.Path.{◌≡◌, sym}
use Prim.Native.Nat.{◌+◌, ◌*◌, ◌/◌, ◌%◌}
use native.Mathlib.Nat.{div-le_self, mod-le}
use native.Mathlib.Omega.{arith}
use Rattle.functions.specs.Families.{letchford_lodi}
use Rattle.functions.proofs.Bounds.{product_most}
use Rattle.functions.proofs.Remainder.{letchford_lodi_is, letchford_lodi_most, theta_of}
use Rattle.functions.proofs.formula.letchford_lodi.Goals.{After-round_up}
use Rattle.functions.proofs.formula.letchford_lodi.Goals as goal

value_is : (c : After-round_up) → (c.args.q + 1) * (c.args.x / c.args.p) + c.round_up.result ≡ letchford_lodi c.args.p c.args.q c.args.r c.args.x
value_is c =
    let a = c.args in
    let less = c.requires.0 in
    let rest = theta_of a.p a.q a.r less (a.x % a.p) c.saturating_sub.result (sym c.saturating_sub.ensures) in
    omega (arith, rest, letchford_lodi_is a.p a.q a.r less a.x)

pub overflow_mul-result : goal.overflow_mul-result
overflow_mul-result c = omega (arith, product_most (c.args.q + 1) (c.args.x / c.args.p) (omega arith) (omega (arith, div-le_self c.args.x c.args.p)))

pub overflow_mul-saturating_sub : goal.overflow_mul-saturating_sub
overflow_mul-saturating_sub c =
    let a = c.args in
    omega (arith, product_most c.saturating_sub.result a.q (omega (arith, mod-le a.x a.p)) (omega arith))

pub round_up-requires : goal.round_up-requires
round_up-requires c =
    let a = c.args in
    omega (arith, product_most c.saturating_sub.result a.q (omega (arith, mod-le a.x a.p)) (omega arith))

pub overflow_add-result-2 : goal.overflow_add-result-2
overflow_add-result-2 c =
    let a = c.args in
    omega (arith, value_is (goal.at.overflow_add-result-2 c).After-round_up, letchford_lodi_most a.p a.q a.r c.requires.0 a.x (omega arith) (omega arith))

pub returns : goal.returns
returns c = omega (arith, value_is (goal.at.returns c).After-round_up)
