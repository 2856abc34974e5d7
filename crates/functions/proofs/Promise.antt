-- P1: each family step that refusals 1 to 4 leave is dual_feasible from its capacity to its scale.
use mathlib.Core.Path.{◌≡◌, refl, ap, sym, ◌∙◌}
use Prim.Native.Nat.{ℕ, ◌+◌, ◌-◌, ◌*◌, ◌/◌, ◌%◌, ◌≤◌, ◌<◌}
use native.Mathlib.Nat.{le_refl, le_trans, mul-le-mul, le-div_iff_mul-le, mul-mod_right, eq-zero-or-pos, mod-lt}
use native.Mathlib.Omega.{arith}
use mathlib.Core.Logic.{⊎_elim}
use Rattle.functions.specs.Words.{limit}
use Rattle.functions.specs.Families.{threshold, rounding, quotient, vanderbeck, mirror, burdett_johnson, letchford_lodi, dash_gunluk, family_image, family_scale}
use Rattle.functions.specs.Image.{family_refusal}
use Rattle.functions.specs.Promise.{FamilyPromise}
use Rattle.functions.proofs.Superadditive.{Superadditive, monotone, dual_feasible}
use Rattle.functions.proofs.Mirror.{mirror_superadditive, mirror_high}
use Rattle.functions.proofs.FirstFour.{threshold_superadditive, threshold_top, threshold_middle, rounding_superadditive, rounding_whole, quotient_superadditive, vanderbeck_superadditive, vanderbeck_top}
use Rattle.functions.proofs.Remainder.{burdett_johnson_superadditive, burdett_johnson_is, letchford_lodi_superadditive, letchford_lodi_top}
use Rattle.functions.proofs.DashGunluk.{dash_gunluk_superadditive, rest_small}
use Rattle.functions.proofs.Legal.{seven, Accepted, accepted, legal_1, legal_2, legal_3, legal_4, legal_5, legal_6, legal_7}

-- p goes into c at least k times
div_least : (c p k : ℕ) → 0 < p → k * p ≤ c → k ≤ c / p
div_least c p k pos l = (le-div_iff_mul-le pos).1 l

gap_least : {r p : ℕ} → r < p → 1 ≤ p - r
gap_least l = omega arith

-- the image of the capacity: the mirror's, and each family's
mirror_scale : (c : ℕ) (g : ℕ → ℕ) → 1 ≤ c → Superadditive g c → mirror c g c ≡ 2 * g c
mirror_scale c g l h =
    let rest : c - c ≡ 0 = omega arith in
    omega (arith, mirror_high c g c (omega arith), ap g rest, h.at_zero)

threshold_scale : (c p : ℕ) → 1 ≤ c → threshold c p c ≡ c
threshold_scale c p k =
    ⊎_elim
    (λ e. threshold_middle c p c (omega arith) (omega arith))
    (λ l. threshold_top c p c (omega arith))
    (eq-zero-or-pos p)

rounding_scale : (c p : ℕ) → rounding c p c ≡ c * p
rounding_scale c p = rounding_whole c p c (mul-mod_right c (p + 1))

burdett_johnson_scale : (c p : ℕ) → burdett_johnson p (c % p) c ≡ c / p * (p - c % p)
burdett_johnson_scale c p = omega (arith, burdett_johnson_is p (c % p) c)

dash_gunluk_scale : (c p q : ℕ) → dash_gunluk p q (c % p) c ≡ (p - c % p) * (q + 1) * (c / p)
unfolding dash_gunluk
dash_gunluk_scale c p q = omega (arith, rest_small p q (c % p) (c % p) (le_refl (c % p)))

module _ (c p q : ℕ) where
  -- the parts of the promise, from superadditivity and the scale
  promise_from : (family : ℕ) → Accepted c family p q → Superadditive (family_image c family p q) c → family_image c family p q c ≡ family_scale c family p q → 1 ≤ family_scale c family p q → FamilyPromise c family p q
  promise_from family a h e l =
      record {
        dual_feasible = rw (← e) (dual_feasible (family_image c family p q) c h);
        scale_is_image = e;
        scale_positive = l;
        scale_within_limit = a.scale_within_limit;
        image_within_scale = λ x m. rw (← e) (monotone (family_image c family p q) c h x c m (le_refl c));
      }

  family_1 : Accepted c 1 p q → FamilyPromise c 1 p q
  unfolding family_image family_scale
  family_1 a =
      promise_from 1 a (threshold_superadditive c p (legal_1 c p q a.is_legal)) (threshold_scale c p a.capacity_positive) a.capacity_positive

  family_2 : Accepted c 2 p q → FamilyPromise c 2 p q
  unfolding family_image family_scale
  family_2 a =
      promise_from 2 a (rounding_superadditive c p a.capacity_positive) (rounding_scale c p) (omega (arith, mul-le-mul a.capacity_positive (legal_2 c p q a.is_legal)))

  -- a family that is a mirror
  mirrored : (family : ℕ) (g : ℕ → ℕ) → Accepted c family p q → Superadditive g c → family_image c family p q ≡ mirror c g → family_scale c family p q ≡ 2 * g c → 1 ≤ g c → FamilyPromise c family p q
  mirrored family g a h image scale l =
      promise_from family a
      (rw image (mirror_superadditive c g h))
      (ap (λ (f : ℕ → ℕ). f c) image ∙ mirror_scale c g a.capacity_positive h ∙ sym scale)
      (omega (arith, scale))

  family_3 : Accepted c 3 p q → FamilyPromise c 3 p q
  unfolding family_image family_scale quotient
  family_3 a =
      let l = legal_3 c p q a.is_legal in
      mirrored 3 (quotient p) a (quotient_superadditive c p l.0) refl refl (div_least c p 1 l.0 (omega arith))

  family_4 : Accepted c 4 p q → FamilyPromise c 4 p q
  unfolding family_image family_scale
  family_4 a =
      let l = legal_4 c p q a.is_legal in
      mirrored 4 (vanderbeck c p) a (vanderbeck_superadditive c p a.capacity_positive (omega arith)) refl refl (omega (arith, vanderbeck_top c p a.capacity_positive (omega arith)))

  family_5 : Accepted c 5 p q → FamilyPromise c 5 p q
  unfolding family_image family_scale
  family_5 a =
      let l = legal_5 c p q a.is_legal in
      let less : c % p < p = mod-lt c l.0 in
      promise_from 5 a (burdett_johnson_superadditive p (c % p) c less) (burdett_johnson_scale c p) (omega (arith, mul-le-mul (div_least c p 1 l.0 (omega arith)) (gap_least less)))

  family_6 : Accepted c 6 p q → FamilyPromise c 6 p q
  unfolding family_image family_scale
  family_6 a =
      let l = legal_6 c p q a.is_legal in
      mirrored 6 (letchford_lodi p q (c % p)) a
      (letchford_lodi_superadditive p q (c % p) l.below l.enough c)
      refl
      refl
      (omega (arith, letchford_lodi_top c p q l.least, div_least c p 1 l.least (omega arith)))

  family_7 : Accepted c 7 p q → FamilyPromise c 7 p q
  unfolding family_image family_scale
  family_7 a =
      let l = legal_7 c p q a.is_legal in
      let whole : 1 * 1 ≤ (p - c % p) * (c / p) = mul-le-mul (gap_least l.below) (div_least c p 1 l.least (omega arith)) in
      promise_from 7 a (dash_gunluk_superadditive p q (c % p) l.below l.enough c) (dash_gunluk_scale c p q) (omega arith)

pub family_promise : (c family p q : ℕ) → family_refusal c family p q ≡ 0 → FamilyPromise c family p q
family_promise c family p q e =
    let a : Accepted c family p q = accepted c family p q e in
    seven (λ n. Accepted c n p q → FamilyPromise c n p q)
    (family_1 c p q) (family_2 c p q) (family_3 c p q) (family_4 c p q) (family_5 c p q) (family_6 c p q) (family_7 c p q)
    family a.family_least a.family_most a

pub image_small : (c family p q x : ℕ) → family_refusal c family p q ≡ 0 → x ≤ c → family_image c family p q x ≤ limit
image_small c family p q x e l =
    let promise = family_promise c family p q e in
    le_trans (promise.image_within_scale x l) promise.scale_within_limit
