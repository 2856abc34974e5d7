-- Count times image summed over a list: the invariant of the loop, what a turn does to it, and how great a sum can be.
use mathlib.Core.Path.{◌≡◌, refl, ◌∙◌}
use mathlib.Core.List.{List, [], ◌∷◌, map}
use Prim.Native.Nat.{ℕ, zero, suc, ◌+◌, ◌*◌, ◌≤◌, ◌<◌}
use native.Mathlib.Nat.{mul-le-mul}
use native.Mathlib.Numerals.{add-one}
use native.Mathlib.Omega.{arith}
use lib.ListN.{length, get_or, take}
use lib.Seq.{take_all}
use Rattle.functions.specs.Words.{total, most_count, weighted}
use Rattle.functions.specs.Summed.{Summed}

-- count times number over one place more
pub weighted_next : (f : ℕ → ℕ) (counts xs : List ℕ) (i : ℕ) → i < length counts → i < length xs → weighted (take (suc i) counts) (map f (take (suc i) xs)) ≡ weighted (take i counts) (map f (take i xs)) + get_or counts i 0 * f (get_or xs i 0)
unfolding weighted
weighted_next f [] xs i l m = absurd (omega arith)
weighted_next f (n ∷ counts) [] i l m = absurd (omega arith)
weighted_next f (n ∷ counts) (x ∷ xs) zero l m = omega arith
weighted_next f (n ∷ counts) (x ∷ xs) (suc i) l m = omega (arith, weighted_next f counts xs i (omega arith) (omega arith))

module _ (f : ℕ → ℕ) (d : ℕ) (counts sizes : List ℕ) (each : length counts ≡ length sizes) where
  pub summed_start : Summed f d counts sizes 0 0
  unfolding weighted
  summed_start = record { passed = omega arith; sum_is = refl; sum_most = omega arith }

  module _ (sum i : ℕ) (s : Summed f d counts sizes sum i) where
    pub summed_next : (count image : ℕ) → i < length sizes → count ≡ get_or counts i 0 → image ≡ f (get_or sizes i 0) → count ≤ most_count → image ≤ d → Summed f d counts sizes (sum + count * image) (i + 1)
    summed_next count image l count_is image_is few small =
        let more : sum + count * image ≡ weighted (take (suc i) counts) (map f (take (suc i) sizes)) = rw (count_is, image_is) (omega (arith, s.sum_is, weighted_next f counts sizes i (omega arith) l)) in
        record { passed = omega arith; sum_is = rw add-one more; sum_most = omega (arith, s.sum_most, mul-le-mul few small) }

    pub summed_end : length sizes ≤ i → sum ≡ weighted counts (map f sizes)
    summed_end l = s.sum_is ∙ rw (take_all i counts (omega arith), take_all i sizes l)

-- where no image is over d, the images of a list total at most d for each
pub total_most : (f : ℕ → ℕ) (d : ℕ) (xs : List ℕ) → ((i : ℕ) → i < length xs → f (get_or xs i 0) ≤ d) → total (map f xs) ≤ length xs * d
unfolding total
total_most f d [] most = omega arith
total_most f d (x ∷ xs) most = omega (arith, most 0 (omega arith), total_most f d xs (λ i l. most (suc i) (omega arith)))
