-- From p to p + 1 the images of family 1 change for the sizes p and c - p alone, so that a sum over a list is carried on.
use mathlib.Core.Path.{◌≡◌, refl, ap}
use mathlib.Core.List.{List, [], ◌∷◌, map}
use mathlib.Core.Logic.{inr}
use Prim.Native.Nat.{ℕ, suc, ◌+◌, ◌-◌, ◌*◌, ◌≤◌, ◌<◌, zero-le}
use native.Mathlib.Nat.{mul-le-mul}
use native.Mathlib.Omega.{arith}
use borrow.Author.Tests.{eq-eqb, ne_eqb, le-leb, le-ltb}
use lib.Dec.{eqb}
use lib.ListN.{length, get_or}
use Rattle.functions.specs.Words.{limit, most_count, weighted, EachWithin}
use Rattle.functions.specs.Families.{threshold, is_family, family_image, family_scale, legal_for}
use Rattle.functions.specs.Image.{family_refusal}
use Rattle.functions.specs.Summed.{same_as}
use Rattle.functions.proofs.Cases.{Order, below, equal, above, order, of_both}
use Rattle.functions.proofs.FirstFour.{threshold_top, threshold_low, threshold_middle}
use Rattle.functions.proofs.Legal.{accepted, parameters, legal_of, legal_within, legal_1}
use Rattle.functions.proofs.Promise.{image_small}

pub same_is : (v x : ℕ) → x ≡ v → same_as v x ≡ 1
unfolding same_as
same_is v x e = rw (eq-eqb x v e)

pub same_not : (v x : ℕ) → (x ≡ v → ⊥) → same_as v x ≡ 0
unfolding same_as
same_not v x e = rw (ne_eqb x v e)

pub same_most : (v x : ℕ) → same_as v x ≤ 1
unfolding same_as
same_most v x = of_both (λ n. n ≤ 1) (eqb x v) 1 0 (omega arith) (omega arith)

-- one size
module _ (c p : ℕ) (l : 2 * p + 1 ≤ c) (x : ℕ) (m : x ≤ c) where
  pub threshold_moved : threshold c (p + 1) x + p * same_as p x ≡ threshold c p x + p * same_as (c - p) x
  threshold_moved = go (order x p) (order x (c - p))
    where
      go : Order x p → Order x (c - p) → threshold c (p + 1) x + p * same_as p x ≡ threshold c p x + p * same_as (c - p) x
      go (below h) k = rw (threshold_low c (p + 1) x (omega arith) (omega arith), threshold_low c p x (omega arith) h, same_not p x (omega arith), same_not (c - p) x (omega arith))
      go (equal h) k = rw (threshold_low c (p + 1) x (omega arith) (omega arith), threshold_middle c p x (omega arith) (omega arith), same_is p x h, same_not (c - p) x (omega arith)) (omega arith)
      go (above h) (below k) = rw (threshold_middle c (p + 1) x (omega arith) (omega arith), threshold_middle c p x (omega arith) (omega arith), same_not p x (omega arith), same_not (c - p) x (omega arith))
      go (above h) (equal k) = rw (threshold_top c (p + 1) x (omega arith), threshold_middle c p x (omega arith) (omega arith), same_not p x (omega arith), same_is (c - p) x k) (omega arith)
      go (above h) (above k) = rw (threshold_top c (p + 1) x (omega arith), threshold_top c p x k, same_not p x (omega arith), same_not (c - p) x (omega arith))

-- a list: what holds of each size, with p times what is taken and what is given, holds of the weighted sums
weighted_moved : (f g h k : ℕ → ℕ) (p : ℕ) (counts xs : List ℕ) → ((i : ℕ) → i < length xs → f (get_or xs i 0) + p * h (get_or xs i 0) ≡ g (get_or xs i 0) + p * k (get_or xs i 0)) → weighted counts (map f xs) + p * weighted counts (map h xs) ≡ weighted counts (map g xs) + p * weighted counts (map k xs)
unfolding weighted
weighted_moved f g h k p [] xs each = refl
weighted_moved f g h k p (n ∷ counts) [] each = refl
weighted_moved f g h k p (n ∷ counts) (x ∷ xs) each =
    omega (arith, ap (λ (t : ℕ). n * t) (each 0 (omega arith)), weighted_moved f g h k p counts xs (λ i l. each (suc i) (omega arith)))

-- where no count and no image is greater than its bound, the weighted sum is at most that for each place
weighted_most : (f : ℕ → ℕ) (d : ℕ) (counts xs : List ℕ) → ((i : ℕ) → get_or counts i 0 ≤ most_count) → ((i : ℕ) → i < length xs → f (get_or xs i 0) ≤ d) → weighted counts (map f xs) ≤ length xs * (most_count * d)
unfolding weighted
weighted_most f d [] xs few small = zero-le
weighted_most f d (n ∷ counts) [] few small = zero-le
weighted_most f d (n ∷ counts) (x ∷ xs) few small =
    omega (arith, mul-le-mul (few 0) (small 0 (omega arith)), weighted_most f d counts xs (λ i. few (suc i)) (λ i l. small (suc i) (omega arith)))

-- family 1 at p + 1, and so at p
module _ (c p : ℕ) (e : family_refusal c 1 (p + 1) 0 ≡ 0) where
  pub room : 2 * p + 1 ≤ c
  room = omega (arith, legal_1 c (p + 1) 0 (legal_of c (p + 1) 0 1 e))

  pub p_small : p + 1 ≤ limit
  p_small = (parameters c (p + 1) 0 1 (legal_of c (p + 1) 0 1 e)).0

  pub accepted_before : family_refusal c 1 p 0 ≡ 0
  unfolding family_refusal is_family family_scale legal_for
  accepted_before =
      let a = accepted c 1 (p + 1) 0 e in
      rw (a.capacity_in_range, legal_within c p 0 1 (omega (arith, p_small)) (omega arith) (inr refl), le-leb (2 * p) (c + 1) (omega (arith, room)), le-ltb limit c a.capacity_within_limit)

  module _ (counts xs : List ℕ) (within : EachWithin c xs) where
    pub carried : weighted counts (map (family_image c 1 (p + 1) 0) xs) + p * weighted counts (map (same_as p) xs) ≡ weighted counts (map (family_image c 1 p 0) xs) + p * weighted counts (map (same_as (c - p)) xs)
    unfolding family_image
    carried = weighted_moved (threshold c (p + 1)) (threshold c p) (same_as p) (same_as (c - p)) p counts xs (λ i l. threshold_moved c p room _ (within i l))

    pub sum_small : ((i : ℕ) → get_or counts i 0 ≤ most_count) → (q : ℕ) → family_refusal c 1 q 0 ≡ 0 → weighted counts (map (family_image c 1 q 0) xs) ≤ length xs * (most_count * limit)
    sum_small few q a = weighted_most (family_image c 1 q 0) limit counts xs few (λ i l. image_small c 1 q 0 _ a (within i l))
