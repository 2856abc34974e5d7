-- Numbers in whole bytes, and the counts of n sizes: as many as sizes, and each where it is read.
use mathlib.Core.Path.{◌≡◌, refl, ap, sym, ◌∙◌}
use mathlib.Core.List.{List, [], ◌∷◌, map, map-id}
use mathlib.Core.Logic.{inl, inr}
use Prim.Native.Nat.{ℕ, ◌+◌, ◌*◌, ◌/◌, ◌%◌, ◌≤◌, ◌<◌}
use native.Mathlib.Nat.{mul-le-mul_left}
use native.Mathlib.Omega.{arith}
use lib.ListN.{length, get_or, replicate, length-replicate, get_or-replicate}
use Rattle.std.specs.List.{sum_by}
use Rattle.std.proofs.lemmas.List.Sums.{sum_by-cons}
use Rattle.functions.specs.Words.{total, most_count, weighted, EachWithin}
use Rattle.functions.proofs.Summed.{total_most}
use Rattle.functions.proofs.Totals.{total_none, total_cons, weighted_none, weighted_cons}
use Rattle.fields.specs.Bytes.{halfword, word, halfwords, words}
use Rattle.fields.specs.Parts.{counts_for}
use Rattle.fields.proofs.Decoding.{Numbers, halfwords_are, words_are}
use Rattle.chains.specs.Sizes.{NoneOrEach}

-- whole numbers of four bytes, as many as the bytes hold
pub whole_words : (bytes : List ℕ) → length bytes % 4 ≡ 0 → Numbers word 4 (length bytes / 4) bytes (words bytes)
whole_words bytes whole = words_are _ _ (omega (arith, whole))

for_none : (given : List ℕ) (n : ℕ) → length given ≡ 0 → counts_for given n ≡ replicate n 1
unfolding counts_for
for_none [] n e = refl
for_none (k ∷ given) n e = absurd (omega arith)

for_each : (given : List ℕ) (n : ℕ) → length given ≡ n → counts_for given n ≡ given
unfolding counts_for
for_each [] n e = ap (λ (k : ℕ). replicate k 1) (sym e)
for_each (k ∷ given) n e = refl

module _ (bytes : List ℕ) (n : ℕ) where
  ones : length bytes ≡ 0 → counts_for (halfwords bytes) n ≡ replicate n 1
  ones none = for_none (halfwords bytes) n (halfwords_are 0 bytes none).count

  given : length bytes ≡ 2 * n → counts_for (halfwords bytes) n ≡ halfwords bytes
  given whole = for_each (halfwords bytes) n (halfwords_are n bytes whole).count

  pub counts_length : NoneOrEach bytes n → length (counts_for (halfwords bytes) n) ≡ n
  counts_length (inl none) = ap length (ones none) ∙ length-replicate n 1
  counts_length (inr whole) = ap length (given whole) ∙ (halfwords_are n bytes whole).count

  -- bytes, where there are some, are those of one count for each
  pub one_each : (length bytes ≡ 0 → ⊥) → NoneOrEach bytes n → (length bytes ≡ 2 * n) × (counts_for (halfwords bytes) n ≡ halfwords bytes)
  one_each some (inl none) = absurd (some none)
  one_each some (inr whole) = (whole, given whole)

  module _ (i : ℕ) (l : i < n) where
    pub count_one : length bytes ≡ 0 → 1 ≡ get_or (counts_for (halfwords bytes) n) i 0
    count_one none = sym (ap (λ (counts : List ℕ). get_or counts i 0) (ones none) ∙ get_or-replicate n i 1 0 l)

    pub count_read : (length bytes ≡ 0 → ⊥) → NoneOrEach bytes n → halfword bytes (2 * i) ≡ get_or (counts_for (halfwords bytes) n) i 0
    count_read some (inl none) = absurd (some none)
    count_read some (inr whole) = (halfwords_are n bytes whole).at i l ∙ ap (λ (counts : List ℕ). get_or counts i 0) (sym (given whole))

-- the library's sum is the definition's
pub total_by : {A : Type 0} (read : A → ℕ) (ys : List A) → sum_by read ys ≡ total (map read ys)
total_by read [] = sym total_none
total_by read (y ∷ ys) = sum_by-cons read y ys ∙ ap (λ (rest : ℕ). read y + rest) (total_by read ys) ∙ sym (total_cons (read y) (map read ys))

-- counts that are all 1 leave the sum of the numbers, which is at most the greatest for each
module _ (xs : List ℕ) where
  pub sum_without : (bytes : List ℕ) → length bytes ≡ 0 → total xs ≡ weighted (counts_for (halfwords bytes) (length xs)) xs
  sum_without bytes none = sym (ap (λ (counts : List ℕ). weighted counts xs) (ones bytes (length xs) none) ∙ weighted_ones xs)
    where
      weighted_ones : (ys : List ℕ) → weighted (replicate (length ys) 1) ys ≡ total ys
      weighted_ones [] = weighted_none (replicate 0 1) ∙ sym total_none
      weighted_ones (y ∷ ys) = omega (arith, weighted_cons 1 (replicate (length ys) 1) y ys, weighted_ones ys, total_cons y ys)

  pub sum_most : (most : ℕ) → EachWithin most xs → total xs ≤ length xs * (most_count * most)
  sum_most most within =
      let each : most ≤ most_count * most = omega arith in
      omega (arith, ap total (map-id xs), total_most (λ x. x) most xs within, mul-le-mul_left (length xs) each)
