-- Families 1 to 4, or what they mirror, are superadditive.
use Rattle.std.proofs.lemmas.Bool.{cases_lt}
use mathlib.Core.Path.{◌≡◌, ap, ◌∙◌, refl}
use mathlib.Core.Logic.{◌⊎◌, inl, inr, ⊎_elim}
use Prim.Native.Nat.{ℕ, ◌+◌, ◌-◌, ◌*◌, ◌/◌, ◌%◌, ◌≤◌, ◌<◌}
use native.Mathlib.Nat.{div-add-mod', eq-zero-or-pos, zero-mod, mul-le-mul}
use native.Mathlib.Omega.{arith}
use borrow.Author.Tests.{lt-ltb, le-ltb, eq-eqb, ne_eqb}
use Rattle.functions.specs.Families.{threshold, rounding, quotient, vanderbeck, ◌up◌}
use Rattle.functions.proofs.Superadditive.{Superadditive}
use Rattle.functions.proofs.Quotient.{Carry, none, one, carry, by_quotient_and_remainder, up_zero, up_sum, up_exact, up_greatest}

module _ (c p : ℕ) where
  pub threshold_top : (x : ℕ) → c - p < x → threshold c p x ≡ c
  unfolding threshold
  threshold_top x h = simp (lt-ltb (c - p) x h)

  pub threshold_low : (x : ℕ) → x ≤ c - p → x < p → threshold c p x ≡ 0
  unfolding threshold
  threshold_low x h l = simp (le-ltb (c - p) x h, lt-ltb x p l)

  pub threshold_middle : (x : ℕ) → x ≤ c - p → p ≤ x → threshold c p x ≡ x
  unfolding threshold
  threshold_middle x h l = simp (le-ltb (c - p) x h, le-ltb x p l)

  module _ (half : 2 * p ≤ c + 1) where
    -- at p or more the image is at least the size
    threshold_up : (x : ℕ) → p ≤ x → x ≤ c → x ≤ threshold c p x
    threshold_up x h l =
        ⊎_elim (λ top. omega (arith, threshold_top x top)) (λ mid. omega (arith, threshold_middle x mid h)) (cases_lt (c - p) x)

    -- a size below p adds nothing, and the image does not fall
    threshold_small : (x y : ℕ) → x < p → x + y ≤ c → threshold c p x + threshold c p y ≤ threshold c p (x + y)
    threshold_small x y h l = ⊎_elim low (λ k. ⊎_elim top (middle k) (cases_lt (c - p) y)) (cases_lt y p)
      where
        nothing : threshold c p x ≡ 0
        nothing = threshold_low x (omega arith) h

        low : y < p → threshold c p x + threshold c p y ≤ threshold c p (x + y)
        low k = omega (arith, nothing, threshold_low y (omega arith) k)

        top : c - p < y → threshold c p x + threshold c p y ≤ threshold c p (x + y)
        top k = omega (arith, nothing, threshold_top y k, threshold_top (x + y) (omega arith))

        middle : p ≤ y → y ≤ c - p → threshold c p x + threshold c p y ≤ threshold c p (x + y)
        middle k m = omega (arith, nothing, threshold_middle y m k, threshold_up (x + y) (omega arith) l)

    threshold_sums : (x y : ℕ) → x + y ≤ c → threshold c p x + threshold c p y ≤ threshold c p (x + y)
    threshold_sums x y l = ⊎_elim (λ h. threshold_small x y h l) (λ h. ⊎_elim (swapped h) (both h) (cases_lt y p)) (cases_lt x p)
      where
        swapped : p ≤ x → y < p → threshold c p x + threshold c p y ≤ threshold c p (x + y)
        swapped h k =
            let swap : y + x ≡ x + y = omega arith in
            omega (arith, threshold_small y x k (omega arith), ap (threshold c p) swap)

        both : p ≤ x → p ≤ y → threshold c p x + threshold c p y ≤ threshold c p (x + y)
        both h k =
            omega (arith, threshold_middle x (omega arith) h, threshold_middle y (omega arith) k, threshold_up (x + y) (omega arith) l)

    pub threshold_superadditive : Superadditive (threshold c p) c
    threshold_superadditive = record { at_zero = nothing (eq-zero-or-pos p); sums = threshold_sums }
      where
        nothing : (p ≡ 0) ⊎ (0 < p) → threshold c p 0 ≡ 0
        nothing (inl e) = threshold_middle 0 (omega arith) (omega arith)
        nothing (inr l) = threshold_low 0 (omega arith) l

module _ (c p : ℕ) where
  pub rounding_whole : (x : ℕ) → x * (p + 1) % c ≡ 0 → rounding c p x ≡ x * p
  unfolding rounding
  rounding_whole x e = simp (eq-eqb (x * (p + 1) % c) 0 e)

  pub rounding_broken : (x : ℕ) → 0 < x * (p + 1) % c → rounding c p x ≡ x * (p + 1) / c * c
  unfolding rounding
  rounding_broken x l = simp (ne_eqb (x * (p + 1) % c) 0 (omega arith))

  -- the image and the remainder of x * (p + 1) are no more than x * (p + 1), and where there is a remainder they are all of it
  pub rounding_with_rest : (x : ℕ) → 0 < x * (p + 1) % c → rounding c p x + x * (p + 1) % c ≡ x * (p + 1)
  rounding_with_rest x l = omega (arith, rounding_broken x l, div-add-mod' (x * (p + 1)) c)

  pub rounding_most : (x : ℕ) → rounding c p x + x * (p + 1) % c ≤ x * (p + 1)
  rounding_most x =
      ⊎_elim (λ e. omega (arith, rounding_whole x e)) (λ l. omega (arith, rounding_with_rest x l)) (eq-zero-or-pos (x * (p + 1) % c))

  module _ (pos : 0 < c) where
    rounding_sums : (x y : ℕ) → x + y ≤ c → rounding c p x + rounding c p y ≤ rounding c p (x + y)
    rounding_sums x y l = go (eq-zero-or-pos ((x + y) * (p + 1) % c)) (carry c pos (x * (p + 1)) (y * (p + 1)))
      where
        parts : (x + y) * (p + 1) % c ≡ (x * (p + 1) + y * (p + 1)) % c
        parts = ap (λ (u : ℕ). u % c) (omega arith)

        go : ((x + y) * (p + 1) % c ≡ 0) ⊎ (0 < (x + y) * (p + 1) % c) → Carry c (x * (p + 1)) (y * (p + 1)) → rounding c p x + rounding c p y ≤ rounding c p (x + y)
        go (inl e) (none d m b) =
            omega (arith, rounding_whole x (omega (arith, parts)), rounding_whole y (omega (arith, parts)), rounding_whole (x + y) e)
        go (inl e) (one d m) = omega (arith, rounding_whole (x + y) e, rounding_most x, rounding_most y, parts)
        go (inr r) (none d m b) = omega (arith, rounding_with_rest (x + y) r, rounding_most x, rounding_most y, parts)
        go (inr r) (one d m) = omega (arith, rounding_with_rest (x + y) r, rounding_most x, rounding_most y, parts)

    pub rounding_superadditive : Superadditive (rounding c p) c
    rounding_superadditive = record { at_zero = rounding_whole 0 (ap (λ (u : ℕ). u % c) (omega arith) ∙ zero-mod c) ∙ omega arith; sums = rounding_sums }

-- Lemma 1 with nothing added for a remainder
pub quotient_superadditive : (c p : ℕ) → 0 < p → Superadditive (quotient p) c
unfolding quotient
quotient_superadditive c p pos =
    by_quotient_and_remainder p pos 1 p (λ _. 0)
    (λ a l. refl)
    (λ a b l m. omega arith)
    (λ a l. omega arith)
    (λ a b ha hb l. omega arith)
    (λ a b s ha hb la lb e. omega arith)
    (quotient p)
    (λ x. omega arith)
    c

module _ (c p : ℕ) (pos : 0 < c) (least : 1 ≤ p) where
  pub vanderbeck_zero : vanderbeck c p 0 ≡ 0
  unfolding vanderbeck
  vanderbeck_zero = refl

  pub vanderbeck_positive : (x : ℕ) → 0 < x → vanderbeck c p x + 1 ≡ (p * x) up c
  unfolding vanderbeck
  vanderbeck_positive x l =
      let one_up : 1 ≤ ((p * x) up c) = up_greatest c pos (p * x) 1 (omega (arith, mul-le-mul least l)) in
      simp (ne_eqb x 0 (omega arith)) (omega arith)

  -- without a test: the quotient rounded up is 0 at 0, and the difference stops there
  pub vanderbeck_is : (x : ℕ) → vanderbeck c p x ≡ ((p * x) up c) - 1
  vanderbeck_is x = ⊎_elim none some (eq-zero-or-pos x)
    where
      none : x ≡ 0 → vanderbeck c p x ≡ ((p * x) up c) - 1
      none e =
          let nothing : ((p * x) up c) ≡ (0 up c) = ap (λ (n : ℕ). n up c) (omega (arith, ap (λ (n : ℕ). p * n) e)) in
          omega (arith, ap (vanderbeck c p) e, vanderbeck_zero, nothing, up_zero c)

      some : 0 < x → vanderbeck c p x ≡ ((p * x) up c) - 1
      some l = omega (arith, vanderbeck_positive x l)

  pub vanderbeck_superadditive : Superadditive (vanderbeck c p) c
  vanderbeck_superadditive = record { at_zero = vanderbeck_zero; sums = λ x y l. go x y (eq-zero-or-pos x) (eq-zero-or-pos y) }
    where
      go : (x y : ℕ) → (x ≡ 0) ⊎ (0 < x) → (y ≡ 0) ⊎ (0 < y) → vanderbeck c p x + vanderbeck c p y ≤ vanderbeck c p (x + y)
      go x y (inl e) k =
          let same : x + y ≡ y = omega arith in
          omega (arith, ap (vanderbeck c p) e, vanderbeck_zero, ap (vanderbeck c p) same)
      go x y (inr h) (inl e) =
          let same : x + y ≡ x = omega arith in
          omega (arith, ap (vanderbeck c p) e, vanderbeck_zero, ap (vanderbeck c p) same)
      go x y (inr h) (inr k) =
          let parts : ((p * (x + y)) up c) ≡ ((p * x + p * y) up c) = ap (λ (n : ℕ). n up c) (omega arith) in
          omega (arith, vanderbeck_positive x h, vanderbeck_positive y k, vanderbeck_positive (x + y) (omega arith), up_sum c pos (p * x) (p * y), parts)

  pub vanderbeck_top : vanderbeck c p c + 1 ≡ p
  vanderbeck_top = omega (arith, vanderbeck_positive c pos, up_exact c pos p)
