-- Families 5 and 6, or what family 6 mirrors, are superadditive: Lemma 1 at what they add for a remainder.
use Rattle.std.proofs.lemmas.Bool.{cases_lt}
use mathlib.Core.Path.{◌≡◌, ap, ◌∙◌}
use mathlib.Core.Logic.{⊎_elim}
use Prim.Native.Nat.{ℕ, ◌+◌, ◌-◌, ◌*◌, ◌/◌, ◌%◌, ◌≤◌, ◌<◌}
use native.Mathlib.Nat.{mul-le-mul_right, mod-lt, div-le_self, le_refl, eq-zero-or-pos}
use native.Mathlib.Omega.{arith}
use borrow.Author.Tests.{lt-ltb, le-ltb}
use Rattle.functions.specs.Words.{limit}
use Rattle.functions.specs.Families.{burdett_johnson, letchford_lodi, theta, ◌up◌}
use Rattle.functions.proofs.Bounds.{product_most, twice_most}
use Rattle.functions.proofs.Superadditive.{Superadditive}
use Rattle.functions.proofs.Quotient.{by_quotient_and_remainder, up_least, up_monotone, up_zero, up_sum, up_whole}

module _ (p r : ℕ) where
  -- a difference of natural numbers is 0 where a is at most r
  pub burdett_johnson_is : (x : ℕ) → burdett_johnson p r x ≡ (p - r) * (x / p) + (x % p - r)
  unfolding burdett_johnson
  burdett_johnson_is x =
      ⊎_elim
      (λ l. simp (lt-ltb r (x % p) l) (omega arith))
      (λ l. simp (le-ltb r (x % p) l) (omega arith))
      (cases_lt r (x % p))

  pub burdett_johnson_superadditive : (c : ℕ) → r < p → Superadditive (burdett_johnson p r) c
  burdett_johnson_superadditive c less =
      by_quotient_and_remainder p (omega arith) (p - r) r (λ a. a - r)
      (λ a l. omega arith)
      (λ a b l m. omega arith)
      (λ a l. omega arith)
      (λ a b ha hb l. omega arith)
      (λ a b s ha hb la lb e. omega arith)
      (burdett_johnson p r)
      burdett_johnson_is
      c

module _ (p q r : ℕ) (less : r < p) where
  gap_positive : 0 < p - r
  gap_positive = omega arith

  pub theta_of : (a b : ℕ) → a - r ≡ b → theta p q r a ≡ ((b * q) up (p - r))
  unfolding theta
  theta_of a b e = ap (λ (n : ℕ). (n * q) up (p - r)) e

  pub theta_small : (a : ℕ) → a ≤ r → theta p q r a ≡ 0
  theta_small a l = theta_of a 0 (omega arith) ∙ ap (λ (n : ℕ). n up (p - r)) (omega arith) ∙ up_zero (p - r)

  pub theta_monotone : (a b : ℕ) → a ≤ b → theta p q r a ≤ theta p q r b
  unfolding theta
  theta_monotone a b l = up_monotone (p - r) gap_positive ((a - r) * q) ((b - r) * q) (mul-le-mul_right q (omega arith))

  pub theta_most : (a : ℕ) → a < p → theta p q r a ≤ q
  unfolding theta
  theta_most a l = up_least (p - r) gap_positive ((a - r) * q) q (omega (arith, mul-le-mul_right q (less_than_gap)))
    where
      less_than_gap : a - r ≤ p - r
      less_than_gap = omega arith

  pub letchford_lodi_is : (x : ℕ) → letchford_lodi p q r x ≡ (q + 1) * (x / p) + theta p q r (x % p)
  unfolding letchford_lodi
  letchford_lodi_is x =
      ⊎_elim
      (λ l. simp (lt-ltb r (x % p) l))
      (λ l. simp (le-ltb r (x % p) l) (omega (arith, theta_small (x % p) l)))
      (cases_lt r (x % p))

  pub letchford_lodi_most : (x : ℕ) → x ≤ limit → q ≤ limit → letchford_lodi p q r x ≤ (limit + 1) * (limit + 1) + limit
  letchford_lodi_most x hx hq =
      omega (arith, letchford_lodi_is x, product_most (q + 1) (x / p) (omega arith) (omega (arith, div-le_self x p)), theta_most (x % p) (mod-lt x (omega arith)))

  module _ (enough : p - r ≤ q * r) where
    -- some remainder is left, so p is over 1
    p_least : 2 ≤ p
    p_least = ⊎_elim (λ none. absurd (omega (arith, ap (λ (n : ℕ). q * n) none))) (λ some. omega arith) (eq-zero-or-pos r)

    pub letchford_lodi_twice : (x : ℕ) → x ≤ limit → q ≤ limit → 2 * letchford_lodi p q r x ≤ (limit + 1) * (limit + 1) + 2 * limit
    letchford_lodi_twice x hx hq =
        omega (arith, letchford_lodi_is x, twice_most p q x p_least hx hq, theta_most (x % p) (mod-lt x (omega arith)))

    -- rounding two parts up is paid for by q * r
    pub theta_within : (a b : ℕ) → r < a → r < b → a + b < p → theta p q r a + theta p q r b ≤ theta p q r (a + b)
    unfolding theta
    theta_within a b ha hb l =
        let m : ℕ = (a - r) * q in
        let n : ℕ = (b - r) * q in
        let sum : (a + b - r) * q ≡ m + n + r * q = ap (λ (k : ℕ). k * q) split ∙ omega arith in
        let whole : ((1 * (p - r) + (m + n)) up (p - r)) ≡ 1 + ((m + n) up (p - r)) = up_whole (p - r) gap_positive (m + n) 1 in
        omega (arith, up_sum (p - r) gap_positive m n, whole, up_monotone (p - r) gap_positive (1 * (p - r) + (m + n)) ((a + b - r) * q) (omega arith))
      where
        split : a + b - r ≡ (a - r) + (b - r) + r
        split = omega arith

    pub theta_beyond : (a b s : ℕ) → r < a → r < b → a + b ≡ s + p → theta p q r a + theta p q r b ≤ q + 1 + theta p q r s
    unfolding theta
    theta_beyond a b s ha hb e =
        let m : ℕ = (a - r) * q in
        let n : ℕ = (b - r) * q in
        let k : ℕ = (s - r) * q in
        let reach : m + n ≤ q * (p - r) + k = omega (arith, mul-le-mul_right q parts) in
        omega (arith, up_sum (p - r) gap_positive m n, up_whole (p - r) gap_positive k q, up_monotone (p - r) gap_positive (m + n) (q * (p - r) + k) reach)
      where
        parts : (a - r) + (b - r) ≤ (p - r) + (s - r)
        parts = omega arith

    pub letchford_lodi_superadditive : (c : ℕ) → Superadditive (letchford_lodi p q r) c
    letchford_lodi_superadditive c =
        by_quotient_and_remainder p (omega arith) (q + 1) r (theta p q r)
        theta_small
        (λ a b l m. theta_monotone a b l)
        (λ a l. omega (arith, theta_most a l))
        theta_within
        (λ a b s ha hb la lb e. theta_beyond a b s ha hb e)
        (letchford_lodi p q r)
        letchford_lodi_is
        c

-- at the capacity the remainder is r, which adds nothing
pub letchford_lodi_top : (c p q : ℕ) → 1 ≤ p → letchford_lodi p q (c % p) c ≡ (q + 1) * (c / p)
letchford_lodi_top c p q l =
    let less : c % p < p = mod-lt c l in
    omega (arith, letchford_lodi_is p q (c % p) less c, theta_small p q (c % p) less (c % p) (le_refl (c % p)))
