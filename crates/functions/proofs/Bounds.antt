-- Bounds by which the formulas' products stay within 64 bits.
use Prim.Native.Nat.{ℕ, ◌+◌, ◌-◌, ◌*◌, ◌/◌, ◌%◌, ◌≤◌}
use native.Mathlib.Nat.{mul-le-mul, mul-le-mul_left, div-add-mod'}
use native.Mathlib.Omega.{arith}
use Rattle.functions.specs.Words.{limit}

-- two numbers that are at most one over the limit
pub product_most : (a b : ℕ) → a ≤ limit + 1 → b ≤ limit + 1 → a * b ≤ (limit + 1) * (limit + 1)
product_most a b ha hb = mul-le-mul ha hb

-- a part of each whole p of x, and the remainder, are within x
pub whole_most : (p r x : ℕ) → x / p * (p - r) + x % p ≤ x
whole_most p r x =
    let gap : p - r ≤ p = omega arith in
    omega (arith, mul-le-mul_left (x / p) gap, div-add-mod' x p)

-- the same q + 1 times, for b up to the remainder
pub whole_times_most : (p q r x b : ℕ) → x ≤ limit → q ≤ limit → b ≤ x % p → x / p * (p - r) * (q + 1) + b * (q + 1) ≤ (limit + 1) * (limit + 1)
whole_times_most p q r x b hx hq hb =
    omega (arith, product_most (x / p * (p - r) + b) (q + 1) (omega (arith, whole_most p r x)) (omega arith))

-- twice q + 1 for each whole p of x: where p is over 1 that is within q + 1 times x
pub twice_most : (p q x : ℕ) → 2 ≤ p → x ≤ limit → q ≤ limit → 2 * ((q + 1) * (x / p)) ≤ (limit + 1) * (limit + 1)
twice_most p q x hp hx hq =
    omega (arith, product_most (q + 1) (2 * (x / p)) (omega arith) (omega (arith, mul-le-mul_left (x / p) hp, div-add-mod' x p)))
