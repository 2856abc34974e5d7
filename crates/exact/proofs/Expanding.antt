-- The copies of a list: how many there are, each within the capacity, and written one size after the other.
use mathlib.Core.Path.{◌≡◌, refl, ap, sym, ◌∙◌}
use mathlib.Core.List.{List, [], ◌∷◌, ◌++◌, append_assoc, append-nil}
use mathlib.Core.Logic.{◌⊎◌, inl, inr}
use Prim.Native.Nat.{ℕ, zero, suc, ◌+◌, ◌-◌, ◌≤◌, ◌<◌}
use native.Mathlib.Numerals.{add-one}
use native.Mathlib.Omega.{arith}
use borrow.Rule.Slice.PartMut.{put_mid, same_len_mid}
use lib.ListN.{length, get_or, take, drop, replicate, length-append, length-replicate, length-take, length-drop, get_or-replicate, get_or-append}
use lib.Seq.{take_all, take_at, length-take-le, get_or-append-add}
use Rattle.std.specs.List.{sum_by}
use Rattle.std.proofs.lemmas.List.Sums.{sum_by-cons, sum_by_more}
use Rattle.functions.specs.Words.{total, EachWithin}
use Rattle.std.proofs.lemmas.Bool.{cases_lt}
use Rattle.functions.proofs.Totals.{total_none, total_cons, total_first}
use Rattle.jobs.specs.Packing.{copies}
use Rattle.exact.specs.Exact.{most_copies}
use Rattle.exact.specs.Expand.{Expanded}

-- the definition's sum is the library's
pub total_is_sum : (xs : List ℕ) → total xs ≡ sum_by (λ x. x) xs
total_is_sum [] = total_none
total_is_sum (x ∷ xs) = total_cons x xs ∙ ap (λ (rest : ℕ). x + rest) (total_is_sum xs) ∙ sym (sum_by-cons (λ n. n) x xs)

total_at : (xs : List ℕ) (i : ℕ) → i < length xs → total (take (i + 1) xs) ≡ total (take i xs) + get_or xs i 0
total_at xs i l = rw (total_is_sum (take (i + 1) xs), total_is_sum (take i xs)) (sum_by_more (λ n. n) xs i 0 l)

pub copies_count : (counts sizes : List ℕ) → length counts ≡ length sizes → length (copies counts sizes) ≡ total counts
unfolding copies
copies_count [] sizes e = sym total_none
copies_count (n ∷ counts) [] e = absurd (omega arith)
copies_count (n ∷ counts) (x ∷ sizes) e =
    omega (arith, length-append (replicate n x) (copies counts sizes), length-replicate n x, copies_count counts sizes (omega arith), total_cons n counts)

-- each copy is one of the sizes
pub copies_within : (c : ℕ) (counts sizes : List ℕ) → EachWithin c sizes → EachWithin c (copies counts sizes)
unfolding copies
copies_within c [] sizes h i l = absurd (omega arith)
copies_within c (n ∷ counts) [] h i l = absurd (omega arith)
copies_within c (n ∷ counts) (x ∷ sizes) h i l = go (cases_lt i n) (copies_within c counts sizes (λ j m. h (suc j) (omega arith)) (i - n))
  where
    go : (i < n) ⊎ (n ≤ i) → (i - n < length (copies counts sizes) → get_or (copies counts sizes) (i - n) 0 ≤ c) → get_or (replicate n x ++ copies counts sizes) i 0 ≤ c
    go (inl first) rest = rw (get_or-append (replicate n x) (copies counts sizes) 0 i (omega (arith, length-replicate n x)), get_or-replicate n i x 0 first) (h 0 (omega arith))
    go (inr later) rest =
        let place : length (replicate n x) + (i - n) ≡ i = omega (arith, length-replicate n x) in
        let behind : i - n < length (copies counts sizes) = omega (arith, length-append (replicate n x) (copies counts sizes), length-replicate n x) in
        let there = get_or-append-add (replicate n x) (copies counts sizes) (i - n) 0 in
        rw (ap (λ (j : ℕ). get_or (replicate n x ++ copies counts sizes) j 0) (sym place) ∙ there) (rest behind)

copies_next : (counts sizes : List ℕ) (i : ℕ) → i < length counts → i < length sizes → copies (take (suc i) counts) (take (suc i) sizes) ≡ copies (take i counts) (take i sizes) ++ replicate (get_or counts i 0) (get_or sizes i 0)
unfolding copies
copies_next [] sizes i l m = absurd (omega arith)
copies_next (n ∷ counts) [] i l m = absurd (omega arith)
copies_next (n ∷ counts) (x ∷ sizes) zero l m = append-nil (replicate n x)
copies_next (n ∷ counts) (x ∷ sizes) (suc i) l m =
    ap (λ (xs : List ℕ). replicate n x ++ xs) (copies_next counts sizes i (omega arith) (omega arith)) ∙ sym (append_assoc (replicate n x) (copies (take i counts) (take i sizes)) (replicate (get_or counts i 0) (get_or sizes i 0)))

-- the invariant of the loop over sizes: the copies of the first i are written, n of them
pub record Expanding (sizes counts places : List ℕ) (n i : ℕ) : Type 0 where
  pub sizes_done : i ≤ length sizes
  pub ten_places : length places ≡ most_copies
  pub count_is : n ≡ total (take i counts)
  pub copies_are : take n places ≡ copies (take i counts) (take i sizes)

module _ (sizes counts : List ℕ) (one_each : length counts ≡ length sizes) (few : total counts ≤ most_copies) where
  pub expanding_none : (places : List ℕ) → length places ≡ most_copies → Expanding sizes counts places 0 0
  unfolding copies
  expanding_none places ten = record { sizes_done = omega arith; ten_places = ten; count_is = sym total_none; copies_are = refl }

  module _ (places : List ℕ) (n i : ℕ) (done : Expanding sizes counts places n i) where
    -- the copies of the next size have their places
    module _ (more : i < length sizes) where
      total_more : n + get_or counts i 0 ≡ total (take (i + 1) counts)
      total_more = omega (arith, done.count_is, total_at counts i (omega arith))

      pub places_there : n + get_or counts i 0 ≤ most_copies
      places_there = omega (arith, total_more, total_first (i + 1) counts)

      pub expanding_next : (written : List ℕ) → (end : ℕ) → end ≡ n + get_or counts i 0 → written ≡ replicate (length (take (end - n) (drop n places))) (get_or sizes i 0) → Expanding sizes counts (put_mid n (end - n) places written) end (i + 1)
      expanding_next written end ends filled =
          let part : length (take (end - n) (drop n places)) ≡ get_or counts i 0 = omega (arith, length-take (end - n) (drop n places), length-drop n places, done.ten_places, places_there) in
          let is : written ≡ replicate (get_or counts i 0) (get_or sizes i 0) = filled ∙ ap (λ (k : ℕ). replicate k (get_or sizes i 0)) part in
          let many : length written ≡ get_or counts i 0 = ap length is ∙ length-replicate (get_or counts i 0) (get_or sizes i 0) in
          let before : length (take n places) ≡ n = length-take-le n places (omega (arith, done.ten_places, places_there)) in
          let both : length (take n places ++ written) ≡ end = omega (arith, length-append (take n places) written) in
          record {
            sizes_done = omega arith;
            ten_places = same_len_mid n (end - n) places written (many ∙ sym part) ∙ done.ten_places;
            count_is = ends ∙ total_more;
            copies_are =
                ap (take end) (sym (append_assoc (take n places) written (drop (end - n) (drop n places))))
                ∙ take_at (take n places ++ written) (drop (end - n) (drop n places)) end both
                ∙ rw (done.copies_are, is, add-one, copies_next counts sizes i (omega arith) more);
          }

    pub expanded : length sizes ≤ i → Expanded sizes counts n places
    expanded all =
        let counts_all : take i counts ≡ counts = take_all i counts (omega arith) in
        let sizes-all : take i sizes ≡ sizes = take_all i sizes all in
        record { count_is = done.count_is ∙ ap total counts_all; copies_are = done.copies_are ∙ rw (counts_all, sizes-all) }
