-- The steps that change nothing: family 1 with p = 0, and family 5 with a p that divides the capacity.
use Rattle.std.proofs.lemmas.Bool.{cases_lt}
use mathlib.Core.Path.{◌≡◌, refl, ap, ◌∙◌}
use mathlib.Core.Bool.{true}
use mathlib.Core.Logic.{inr, ⊎_elim}
use Prim.Native.Nat.{ℕ, ◌+◌, ◌-◌, ◌*◌, ◌%◌, ◌≤◌}
use native.Mathlib.Nat.{div-add-mod', mod-zero, mod-eq_of_lt, eq-zero-or-pos}
use native.Mathlib.Omega.{arith}
use borrow.Author.Tests.{le-leb, le-ltb}
use Rattle.functions.specs.Words.{limit, capacity_fits}
use Rattle.functions.specs.Families.{is_family, legal, legal_for, family_image, family_scale, burdett_johnson}
use Rattle.functions.specs.Image.{family_refusal}
use Rattle.functions.specs.Promise.{Identity}
use Rattle.functions.proofs.FirstFour.{threshold_middle}
use Rattle.functions.proofs.Remainder.{burdett_johnson_is}
use Rattle.functions.proofs.Legal.{capacity_bounds, legal_within}

module _ (c : ℕ) (fits : capacity_fits c ≡ true) where
  -- a scale that is the capacity is within the limit
  unchanged : (family p : ℕ) → is_family family ≡ true → p ≤ limit → legal_for c family p 0 ≡ true → family_scale c family p 0 ≡ c → ((x : ℕ) → x ≤ c → family_image c family p 0 x ≡ x) → Identity c family p 0
  unfolding family_refusal
  unchanged family p known small own scale image =
      let right : legal c family p 0 ≡ true = legal_within c p 0 family small (omega arith) (inr refl) ∙ own in
      record {
        accepted = rw (fits, known, right, scale, le-ltb limit c (capacity_bounds c fits).1);
        scale_is = scale;
        image_is = image;
      }

  pub threshold_identity : Identity c 1 0 0
  unfolding is_family legal_for family_scale family_image
  threshold_identity =
      unchanged 1 0 refl (omega arith) (le-leb (2 * 0) (c + 1) (omega arith)) refl (λ x l. threshold_middle c 0 x (omega arith) (omega arith))

  module _ (p : ℕ) (divides : c % p ≡ 0) where
    positive : 1 ≤ p
    positive =
        ⊎_elim
        (λ none. absurd (omega (arith, capacity_bounds c fits, ap (λ (n : ℕ). c % n) none, mod-zero c)))
        (λ some. some)
        (eq-zero-or-pos p)

    within : p ≤ c
    within =
        ⊎_elim (λ less. absurd (omega (arith, capacity_bounds c fits, mod-eq_of_lt less))) (λ some. some) (cases_lt c p)

    whole : p - c % p ≡ p
    whole = omega arith

    image : (x : ℕ) → burdett_johnson p (c % p) x ≡ x
    image x = burdett_johnson_is p (c % p) x ∙ rw whole (omega (arith, div-add-mod' x p))

    pub divisor_identity : Identity c 5 p 0
    unfolding is_family legal_for family_scale family_image
    divisor_identity =
        unchanged 5 p refl
        (omega (arith, within, capacity_bounds c fits))
        (rw (le-leb 1 p positive, le-leb p c within))
        (rw whole (omega (arith, div-add-mod' c p)))
        (λ x l. image x)
