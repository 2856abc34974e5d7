-- Sizes in two halves: the places where two rows are looked at, and what lists of both halves reach.
use Rattle.std.proofs.lemmas.Bool.{cases_lt}
use Rattle.std.proofs.lemmas.List.{length-take}
use mathlib.Core.Path.{◌≡◌, refl, ap}
use mathlib.Core.List.{List, ◌++◌}
use mathlib.Core.Logic.{◌⊎◌, inl, inr, ⊎_elim}
use Prim.Native.Nat.{ℕ, suc, ◌+◌, ◌-◌, ◌*◌, ◌/◌, ◌≤◌, ◌<◌}
use native.Mathlib.Nat.{eq-or-lt_of_le}
use native.Mathlib.Omega.{arith}
use lib.ListN.{length, get_or, take, drop, length-drop, length-append}
use Rattle.functions.specs.Words.{total}
use Rattle.functions.proofs.Superadditive.{total_append}
use Rattle.shortest.specs.Rows.{image_total, Bounding, Row}
use Rattle.shortest.specs.Halves.{pair_sum, PairsWithin, GreatestPair, Parts, PartsWritten, Halves, GreatestList}
use Rattle.shortest.proofs.Sizes.{image_total_append, cut_total, cut_image_total}
use Rattle.shortest.proofs.Greatest.{reached_bounded}

-- the greatest sum before s, at `place`
pub record Splitting (first rest : List ℕ) (s most place : ℕ) : Type 0 where
  pub before : place < s
  pub in_half : 2 * place < length first
  pub most_is : most ≡ pair_sum first rest place
  pub bounds : (i : ℕ) → i < s → pair_sum first rest i ≤ most

module _ (first rest : List ℕ) where
  pub splitting_start : 1 ≤ length first → Splitting first rest 1 (get_or first 0 0 + get_or rest (length first - 1) 0) 0
  splitting_start some =
      record { before = omega arith; in_half = omega arith; most_is = same; bounds = λ i l. let here : i ≡ 0 = omega arith in rw here (omega (arith, same)) }
    where
      same : get_or first 0 0 + get_or rest (length first - 1) 0 ≡ pair_sum first rest 0
      same = let all : length first - 1 ≡ length first - 1 - 0 = omega arith in ap (λ (n : ℕ). get_or first 0 0 + get_or rest n 0) all

  module _ {s most place : ℕ} (p : Splitting first rest s most place) where
    at : (m i : ℕ) → pair_sum first rest s ≤ m → suc i ≡ s + 1 → pair_sum first rest i ≤ m
    at m i l e = let here : s ≡ i = omega arith in omega (arith, ap (λ (n : ℕ). pair_sum first rest n) here)

    pub splitting_taken : 2 * s < length first → most ≤ pair_sum first rest s → Splitting first rest (s + 1) (pair_sum first rest s) s
    splitting_taken half more =
        record { before = omega arith; in_half = half; most_is = refl; bounds = λ i l. ⊎_elim (at (pair_sum first rest s) i (omega arith)) (λ less. omega (arith, p.bounds i (omega arith))) (eq-or-lt_of_le l) }

    pub splitting_left : pair_sum first rest s ≤ most → Splitting first rest (s + 1) most place
    splitting_left less =
        record { before = omega (arith, p.before); in_half = p.in_half; most_is = p.most_is; bounds = λ i l. ⊎_elim (at most i less) (λ m. p.bounds i (omega arith)) (eq-or-lt_of_le l) }

    pub splitting_end : (length first - 1) / 2 + 1 ≤ s → GreatestPair first rest place
    splitting_end all =
        record { in_half = p.in_half; most = record { within = λ i l. omega (arith, p.most_is, p.bounds i (omega arith)) } }

  -- no sum from s on, up to the middle, is over v
  pub record OverFrom (v s : ℕ) : Type 0 where
    pub within : (i : ℕ) → s ≤ i → 2 * i < length first → pair_sum first rest i ≤ v

-- what is left of a row for the others, when its front was written
pub rest_length : (s : ℕ) (front row : List ℕ) → length front ≡ s + 1 → s + 1 ≤ length row → length (take (length row - s) (front ++ drop (s + 1) row)) - 1 ≡ length row - 1 - s
rest_length s front row count l =
    omega (arith, length-take (length row - s) (front ++ drop (s + 1) row), length-append front (drop (s + 1) row), length-drop (s + 1) row)

module _ {t : List ℕ} where
  -- of at most j + k sizes, at most j have at most half of the total: where j is not over k these are the first j of them, or the first of the others
  pub bounding_both : (j k c v : ℕ) (first rest : ℕ → ℕ) → j ≤ k → ((b : ℕ) → b ≤ c → Bounding t j b (first b)) → ((b : ℕ) → b ≤ c → Bounding t k b (rest b)) → ((b : ℕ) → 2 * b ≤ c → first b + rest (c - b) ≤ v) → Bounding t (j + k) c v
  bounding_both j k c v first rest fewer bounds_first bounds_rest sums = record { bounds = most }
    where
      both : (xs ys : List ℕ) → length xs ≤ j → length ys ≤ k → total xs + total ys ≤ c → total xs ≤ total ys → image_total t xs + image_total t ys ≤ v
      both xs ys few others fits less =
          omega (
            arith,
            (bounds_first (total xs) (omega arith)).bounds xs few (omega arith),
            (bounds_rest (c - total xs) (omega arith)).bounds ys others (omega arith),
            sums (total xs) (omega arith),
          )

      most : (xs : List ℕ) → length xs ≤ j + k → total xs ≤ c → image_total t xs ≤ v
      most xs few fits = by (cases_lt (total others) (total half))
        where
          half : List ℕ
          half = take j xs

          others : List ℕ
          others = drop j xs

          low : List ℕ
          low = take j others

          high : List ℕ
          high = drop j others

          totals : total half + total others ≡ total xs
          totals = cut_total t j xs

          images : image_total t half + image_total t others ≡ image_total t xs
          images = cut_image_total t j xs

          other_totals : total low + total high ≡ total others
          other_totals = cut_total t j others

          other_images : image_total t low + image_total t high ≡ image_total t others
          other_images = cut_image_total t j others

          by : (total others < total half) ⊎ (total half ≤ total others) → image_total t xs ≤ v
          by (inr less) = omega (arith, images, both half others (omega (arith, length-take j xs)) (omega (arith, length-drop j xs)) (omega (arith, totals)) less)
          by (inl more) =
              omega (
                arith,
                images,
                other_images,
                image_total_append t high half,
                both low (high ++ half) (omega (arith, length-take j others)) (omega (arith, length-append high half, length-drop j others, length-drop j xs, length-take j xs)) (omega (arith, totals, other_totals, total_append high half)) (omega (arith, other_totals, total_append high half)),
              )

  -- two rows of the same length, the first of no more sizes: sums up to the middle bound the sizes of both
  module _ {j k : ℕ} {first rest : List ℕ} (first_is : Row t j first) (rest_is : Row t k rest) (same : length first ≡ length rest) (some : 1 ≤ length first) where
    pub pairs_bound : (c v : ℕ) → c ≡ length first - 1 → j ≤ k → PairsWithin first rest v → Bounding t (j + k) c v
    pairs_bound c v last fewer p =
        bounding_both j k c v (λ b. get_or first b 0) (λ b. get_or rest b 0) fewer
        (λ b l. (first_is.holds b (omega arith)).most)
        (λ b l. (rest_is.holds b (omega arith)).most)
        (λ b l. rw last (p.within b (omega arith)))

    pub parts_at : (n c s : ℕ) → c ≡ length first - 1 → s ≤ c → n / 2 ≡ j → n - n / 2 ≡ k → Parts t n c s (get_or first s 0) (get_or rest (c - s) 0)
    parts_at n c s last within half others =
        record { half_is = rw half (first_is.holds s (omega arith)); others_is = rw others (rest_is.holds (c - s) (omega arith)) }

    pub halves_at : (n c s : ℕ) → GreatestPair first rest s → c ≡ length first - 1 → j ≤ k → n / 2 ≡ j → n - n / 2 ≡ k → Halves t n c s
    halves_at n c s p last fewer half others =
        record {
          within = omega (arith, p.in_half);
          half = get_or first s 0;
          others = get_or rest (c - s) 0;
          parts = parts_at n c s last (omega (arith, p.in_half)) half others;
          most = rw (last, ← sizes) (pairs_bound (length first - 1) (pair_sum first rest s) refl fewer p.most);
        }
      where
        sizes : j + k ≡ n
        sizes = omega arith

  -- lists with the greatest totals of both parts
  pub parts_written : (n c s b d : ℕ) (xs ys : List ℕ) → s ≤ c → GreatestList t b xs → GreatestList t d ys → b ≡ s → d ≡ c - s → length xs ≡ n / 2 → length ys ≡ n - n / 2 → PartsWritten t n c s (xs ++ ys)
  parts_written n c s b d xs ys within g k here there half others =
      record { fits = omega (arith, total_append xs ys, g.fits, k.fits); reaches = λ v w p. omega (arith, image_total_append t xs ys, first v w p, rest v w p) }
    where
      first : (v w : ℕ) → Parts t n c s v w → v ≤ image_total t xs
      first v w p = reached_bounded p.half_is.reached (rw (half, here) at g.most)

      rest : (v w : ℕ) → Parts t n c s v w → w ≤ image_total t ys
      rest v w p = reached_bounded p.others_is.reached (rw (others, there) at k.most)

  -- a list of both parts, where together they reach the most
  pub whole_written : (n c s : ℕ) (xs : List ℕ) → Halves t n c s → PartsWritten t n c s xs → length xs ≡ n → GreatestList t c xs
  whole_written n c s xs h p count =
      record { fits = p.fits; most = record { bounds = λ ys few fits. omega (arith, p.reaches h.half h.others h.parts, h.most.bounds ys (omega arith) fits) } }
