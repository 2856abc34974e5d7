-- What each formula asks of an accepted step and of a size: the `requires` of the functions in `src/formula.rt`.
use mathlib.Core.Path.{◌≡◌, refl}
use mathlib.Core.Bool.{true}
use Prim.Native.Nat.{ℕ, ◌+◌, ◌-◌, ◌*◌, ◌%◌, ◌^◌, ◌≤◌, ◌<◌}
use native.Mathlib.Nat.{mod-lt}
use native.Mathlib.Omega.{arith}
use Rattle.functions.specs.Words.{limit}
use Rattle.functions.specs.Families.{quotient, vanderbeck, letchford_lodi, is_family, family_scale}
use Rattle.functions.specs.Image.{family_refusal}
use Rattle.functions.specs.Prepared.{top_of}
use Rattle.functions.proofs.Legal.{seven, family_bounds, limits, legal_of, legal_1, legal_3, legal_4, legal_5, legal_6, legal_7}

-- the families that are mirrors
pub twice_top : (c family p q : ℕ) → is_family family ≡ true → (family ≡ 1 → ⊥) → (family ≡ 2 → ⊥) → (family ≡ 5 → ⊥) → (family ≡ 7 → ⊥) → 2 * top_of c family p q ≡ family_scale c family p q
unfolding top_of family_scale
twice_top c family p q is a b d e =
    let bounds = family_bounds family is in
    seven (λ n. (n ≡ 1 → ⊥) → (n ≡ 2 → ⊥) → (n ≡ 5 → ⊥) → (n ≡ 7 → ⊥) → 2 * top_of c n p q ≡ family_scale c n p q)
    (λ a _ _ _. absurd (a refl))
    (λ _ b _ _. absurd (b refl))
    (λ _ _ _ _. refl)
    (λ _ _ _ _. refl)
    (λ _ _ d _. absurd (d refl))
    (λ _ _ _ _. refl)
    (λ _ _ _ e. absurd (e refl))
    family bounds.0 bounds.1 a b d e

module _ (c p q x : ℕ) (l : x ≤ c) where
  pub ready_1 : family_refusal c 1 p q ≡ 0 → 2 * p ≤ c + 1
  ready_1 e = legal_1 _ _ _ (legal_of _ _ _ 1 e)

  pub ready_2 : family_refusal c 2 p q ≡ 0 → (0 < c) × (p ≤ limit) × (x < 2 ^ 32)
  ready_2 e = omega (arith, limits c p q 2 e)

  -- families 3, 4 and 6: the mirror's value at the capacity is `top`
  module _ (top : ℕ) where
    pub ready_3 : family_refusal c 3 p q ≡ 0 → top ≡ top_of c 3 p q → (x ≤ c) × (c ≤ limit) × (0 < p) × (top ≡ quotient p c)
    unfolding top_of
    ready_3 e top_is =
        let w = limits c p q 3 e in
        (l, w.capacity_within_limit, (legal_3 _ _ _ (legal_of _ _ _ 3 e)).0, top_is)

    pub ready_4 : family_refusal c 4 p q ≡ 0 → top ≡ top_of c 4 p q → (x ≤ c) × (0 < c) × (c ≤ limit) × (1 ≤ p) × (p ≤ limit) × (top ≡ vanderbeck c p c)
    unfolding top_of
    ready_4 e top_is =
        let w = limits c p q 4 e in
        (l, w.capacity_positive, w.capacity_within_limit, omega (arith, legal_4 _ _ _ (legal_of _ _ _ 4 e)), w.p_within_limit, top_is)

    pub ready_6 : family_refusal c 6 p q ≡ 0 → top ≡ top_of c 6 p q → (r : ℕ) → r ≡ c % p → (x ≤ c) × (c ≤ limit) × (p ≤ c) × (q ≤ limit) × (r < p) × (p - r ≤ q * r) × (top ≡ letchford_lodi p q r c)
    unfolding top_of
    ready_6 e top_is r r_is =
        let w = limits c p q 6 e in
        let pair = legal_6 _ _ _ (legal_of _ _ _ 6 e) in
        rw r_is (l, w.capacity_within_limit, pair.most, w.q_within_limit, pair.below, pair.enough, top_is)

  -- families 5 and 7
  module _ (r : ℕ) (r_is : r ≡ c % p) where
    pub ready_5 : family_refusal c 5 p q ≡ 0 → r < p
    ready_5 e = rw r_is (mod-lt c (legal_5 _ _ _ (legal_of _ _ _ 5 e)).0)

    pub ready_7 : family_refusal c 7 p q ≡ 0 → (r < p) × (p ≤ limit) × (q ≤ limit) × (x ≤ limit)
    ready_7 e =
        let w = limits c p q 7 e in
        let pair = legal_7 _ _ _ (legal_of _ _ _ 7 e) in
        omega (arith, r_is)
