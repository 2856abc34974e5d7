-- Quotients and remainders of sums, the survey's Lemma 1 in whole numbers, and the quotient rounded up.
use Rattle.std.proofs.lemmas.Bool.{cases_lt}
use mathlib.Core.Path.{◌≡◌, ap, sym, ◌∙◌}
use mathlib.Core.Logic.{⊎_elim}
use Prim.Native.Nat.{ℕ, ◌+◌, ◌-◌, ◌*◌, ◌/◌, ◌%◌, ◌≤◌, ◌<◌}
use native.Mathlib.Nat.{div-add-mod', div-zero, div-eq_of_lt, mod-lt, mul-le-mul_left, mul-le-mul_right, zero-div, zero-mod, eq-zero-or-pos}
use native.Mathlib.Omega.{arith}
use borrow.Author.Tests.{le-leb, lt-leb}
use lib.Dec.{leb}
use lib.Arith.{digits_div, digits_mod}
use Rattle.functions.specs.Families.{◌up◌}
use Rattle.functions.proofs.Superadditive.{Superadditive}

-- the sum's quotient is that of the parts, or one more
pub data Carry (p x y : ℕ) : Type 0 where
  none : (x + y) / p ≡ x / p + y / p → (x + y) % p ≡ x % p + y % p → x % p + y % p < p → Carry p x y
  one : (x + y) / p ≡ x / p + y / p + 1 → (x + y) % p + p ≡ x % p + y % p → Carry p x y

-- x, by a quotient and a remainder that are given
pub div_of : (p k a x : ℕ) → x ≡ k * p + a → a < p → x / p ≡ k
div_of p k a x e l = rw e (digits_div k l)

pub mod_of : (p k a x : ℕ) → x ≡ k * p + a → a < p → x % p ≡ a
mod_of p k a x e l = rw e (digits_mod k l)

module _ (p : ℕ) (pos : 0 < p) where
  pub carry : (x y : ℕ) → Carry p x y
  carry x y = ⊎_elim without over (cases_lt (x % p + y % p) p)
    where
      without : x % p + y % p < p → Carry p x y
      without l =
          let parts : x + y ≡ (x / p + y / p) * p + (x % p + y % p) = omega (arith, div-add-mod' x p, div-add-mod' y p) in
          none (div_of p _ _ _ parts l) (mod_of p _ _ _ parts l) l

      over : p ≤ x % p + y % p → Carry p x y
      over l =
          let parts : x + y ≡ (x / p + y / p + 1) * p + (x % p + y % p - p) = omega (arith, div-add-mod' x p, div-add-mod' y p) in
          let small : x % p + y % p - p < p = omega (arith, mod-lt x pos, mod-lt y pos) in
          one (div_of p _ _ _ parts small) (omega (arith, mod_of p _ _ _ parts small))

  -- Lemma 1: F for each whole p, and g of the remainder, which is 0 up to r
  module _ (F r : ℕ) (g : ℕ → ℕ)
      (small : (a : ℕ) → a ≤ r → g a ≡ 0)
      (rises : (a b : ℕ) → a ≤ b → b < p → g a ≤ g b)
      (most : (a : ℕ) → a < p → g a ≤ F)
      (within : (a b : ℕ) → r < a → r < b → a + b < p → g a + g b ≤ g (a + b))
      (beyond : (a b s : ℕ) → r < a → r < b → a < p → b < p → a + b ≡ s + p → g a + g b ≤ F + g s) where
    no_carry : (a b : ℕ) → a + b < p → g a + g b ≤ g (a + b)
    no_carry a b l =
        ⊎_elim
        (λ ha. ⊎_elim
        (λ hb. within a b ha hb l)
        (λ hb. omega (arith, small b hb, rises a (a + b) (omega arith) l))
        (cases_lt r b))
        (λ ha. omega (arith, small a ha, rises b (a + b) (omega arith) l))
        (cases_lt r a)

    carried : (a b s : ℕ) → a < p → b < p → a + b ≡ s + p → g a + g b ≤ F + g s
    carried a b s la lb e =
        ⊎_elim
        (λ ha. ⊎_elim (λ hb. beyond a b s ha hb la lb e) (λ hb. omega (arith, small b hb, most a la)) (cases_lt r b))
        (λ ha. omega (arith, small a ha, most b lb))
        (cases_lt r a)

    pub by_quotient_and_remainder : (f : ℕ → ℕ) → ((x : ℕ) → f x ≡ F * (x / p) + g (x % p)) → (c : ℕ) → Superadditive f c
    by_quotient_and_remainder f is c =
        record {
          at_zero = is 0 ∙ rw (zero-div p, zero-mod p) (omega (arith, small 0 (omega arith)));
          sums = λ x y l. go x y (carry x y);
        }
      where
        go : (x y : ℕ) → Carry p x y → f x + f y ≤ f (x + y)
        go x y (none d m l) =
            omega (arith, is x, is y, is (x + y), ap (λ (k : ℕ). F * k) d, ap g m, no_carry (x % p) (y % p) l)
        go x y (one d m) =
            omega (arith, is x, is y, is (x + y), ap (λ (k : ℕ). F * k) d, carried (x % p) (y % p) ((x + y) % p) (mod-lt x pos) (mod-lt y pos) (sym m))

-- nothing is rounded up to nothing, whatever the divisor
pub up_zero : (d : ℕ) → (0 up d) ≡ 0
unfolding ◌up◌
up_zero d = ⊎_elim (λ none. rw none (div-zero (0 + (0 - 1)))) (λ pos. div-eq_of_lt (omega arith)) (eq-zero-or-pos d)

-- the quotient rounded up is the least number whose multiple reaches a
module _ (d : ℕ) (pos : 0 < d) where
  pub up_reaches : (a : ℕ) → a ≤ (a up d) * d
  unfolding ◌up◌
  up_reaches a = omega (arith, div-add-mod' (a + (d - 1)) d, mod-lt (a + (d - 1)) pos)

  pub up_below : (a : ℕ) → (a up d) * d < a + d
  unfolding ◌up◌
  up_below a = omega (arith, div-add-mod' (a + (d - 1)) d)

  pub up_least : (a k : ℕ) → a ≤ k * d → (a up d) ≤ k
  up_least a k l = ⊎_elim (λ less. absurd (omega (arith, up_below a, mul-le-mul_right d less))) (λ h. h) (cases_lt k (a up d))

  -- the other way round: a number whose multiple reaches a is at least the quotient rounded up
  pub up_greatest : (a k : ℕ) → k * d < a + d → k ≤ (a up d)
  up_greatest a k l = ⊎_elim (λ less. absurd (omega (arith, up_reaches a, mul-le-mul_right d less))) (λ h. h) (cases_lt (a up d) k)

  pub up_most : (a : ℕ) → (a up d) ≤ a
  up_most a = up_least a a (omega (arith, mul-le-mul_left a pos))

  pub up_monotone : (a b : ℕ) → a ≤ b → (a up d) ≤ (b up d)
  up_monotone a b l = up_least a (b up d) (omega (arith, up_reaches b))

  pub up_exact : (k : ℕ) → ((k * d) up d) ≡ k
  up_exact k = omega (arith, up_least (k * d) k (omega arith), up_greatest (k * d) k (omega arith))

  -- rounding two parts up costs at most one more than rounding their sum up
  pub up_sum : (a b : ℕ) → (a up d) + (b up d) ≤ ((a + b) up d) + 1
  up_sum a b =
      ⊎_elim
      (λ less. absurd (omega (arith, up_below a, up_below b, up_reaches (a + b), mul-le-mul_right d less)))
      (λ h. h)
      (cases_lt (((a + b) up d) + 1) ((a up d) + (b up d)))

  -- a whole part is not rounded
  pub up_whole : (a k : ℕ) → ((k * d + a) up d) ≡ k + (a up d)
  up_whole a k = omega (arith, up_least (k * d + a) (k + (a up d)) (omega (arith, up_reaches a)), up_greatest (k * d + a) (k + (a up d)) (omega (arith, up_below a)))

  -- q is at least the quotient rounded up less 1 where q + 1 divisors reach a
  pub up_test : (a q : ℕ) → leb ((a up d) - 1) q ≡ leb a ((q + 1) * d)
  up_test a q = ⊎_elim below reached (cases_lt ((q + 1) * d) a)
    where
      below : (q + 1) * d < a → leb ((a up d) - 1) q ≡ leb a ((q + 1) * d)
      below l =
          let more : q + 1 < (a up d) = ⊎_elim (λ h. h) (λ h. absurd (omega (arith, up_reaches a, mul-le-mul_right d h))) (cases_lt (q + 1) (a up d)) in
          lt-leb ((a up d) - 1) q (omega arith) ∙ sym (lt-leb a ((q + 1) * d) l)

      reached : a ≤ (q + 1) * d → leb ((a up d) - 1) q ≡ leb a ((q + 1) * d)
      reached l = le-leb ((a up d) - 1) q (omega (arith, up_least a (q + 1) l)) ∙ sym (le-leb a ((q + 1) * d) l)
