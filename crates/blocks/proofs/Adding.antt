-- Sums over blocks: the counts of a part, what is left behind a block, and the invariant of the loop.
use mathlib.Core.Path.{◌≡◌, refl, ap, sym, ◌∙◌}
use mathlib.Core.List.{List, [], ◌∷◌, ◌++◌, map, map-append, append_assoc}
use mathlib.Core.Logic.{inl, inr}
use Prim.Native.Nat.{ℕ, suc, ◌+◌, ◌*◌, ◌^◌, ◌≤◌, ◌<◌, min}
use native.Mathlib.Nat.{mul-le-mul_right}
use native.Mathlib.Numerals.{add-one}
use native.Mathlib.Omega.{arith}
use lib.ListN.{length, get_or, take, drop, set, length-map, length-append, length-take, length-drop, drop_of_length-le}
use lib.Seq.{take-suc, take_all, drop-cons, drop-drop, take-take, set_at, length-take-le, get_or-take, get_or-drop, ext_get_or}
use Rattle.std.proofs.lemmas.List.{drop-take}
use Rattle.functions.specs.Words.{total, most_count, weighted, EachWithin}
use Rattle.functions.specs.Families.{◌up◌}
use Rattle.functions.proofs.Superadditive.{total_append}
use Rattle.functions.proofs.Quotient.{up_least, up_most}
use Rattle.functions.proofs.Totals.{total_none, total_cons, total_first, weighted_no_counts, weighted_split}
use Rattle.fields.specs.Bytes.{halfword, halfwords}
use Rattle.fields.specs.Parts.{counts_for}
use Rattle.fields.specs.Grammar.{most_sizes}
use Rattle.chains.specs.Sizes.{NoneOrEach}
use Rattle.chains.proofs.Counts.{counts_length, count_one, count_read}
use Rattle.blocks.specs.Block.{Block, divide}
use Rattle.blocks.specs.Sums.{sum_up, Counted, counts_of}
use Rattle.blocks.proofs.Dividing.{divide_count, block_at, divide_more}

-- one number more
pub total_next : (numbers : List ℕ) (i : ℕ) → i < length numbers → total (take (suc i) numbers) ≡ total (take i numbers) + get_or numbers i 0
total_next numbers i l =
    ap total (take-suc numbers i 0 l)
    ∙ total_append (take i numbers) (get_or numbers i 0 ∷ [])
    ∙ omega (arith, total_cons (get_or numbers i 0) [], total_none)

-- n numbers of two bytes from a place on
halfword_part : (bytes : List ℕ) (at n i : ℕ) → i < n → halfword (take (2 * n) (drop (2 * at) bytes)) (2 * i) ≡ halfword bytes (2 * (at + i))
unfolding halfword
halfword_part bytes at n i l =
    let place : 2 * at + 2 * i ≡ 2 * (at + i) = omega arith in
    let next : 2 * at + (2 * i + 1) ≡ 2 * (at + i) + 1 = omega arith in
    let byte : (j : ℕ) → j < 2 * n → get_or (take (2 * n) (drop (2 * at) bytes)) j 0 ≡ get_or bytes (2 * at + j) 0 = λ j m. get_or-take (2 * n) (drop (2 * at) bytes) j 0 m ∙ get_or-drop (2 * at) bytes j 0 in
    omega (arith, byte (2 * i) (omega arith) ∙ ap (λ (j : ℕ). get_or bytes j 0) place, byte (2 * i + 1) (omega arith) ∙ ap (λ (j : ℕ). get_or bytes j 0) next)

-- the counts of a part are that part of the counts
module _ (bytes : List ℕ) (all at n : ℕ) (within : at + n ≤ all) where
  abbrev part : List ℕ
  part = take (2 * n) (drop (2 * at) bytes)

  pub none_or_part : NoneOrEach bytes all → NoneOrEach part n
  none_or_part (inl none) = inl (omega (arith, length-take (2 * n) (drop (2 * at) bytes), length-drop (2 * at) bytes))
  none_or_part (inr each) = inr (length-take-le (2 * n) (drop (2 * at) bytes) (omega (arith, length-drop (2 * at) bytes)))

  pub counts_part : NoneOrEach bytes all → counts_for (halfwords part) n ≡ take n (drop at (counts_for (halfwords bytes) all))
  counts_part given =
      let whole = counts_length bytes all given in
      let long = counts_length part n (none_or_part given) in
      let cut = length-take-le n (drop at (counts_for (halfwords bytes) all)) (omega (arith, whole, length-drop at (counts_for (halfwords bytes) all))) in
      ext_get_or 0 _ _ (long ∙ sym cut) (λ i l. same i (omega (arith, long)) given ∙ sym (here i (omega (arith, long))))
    where
      here : (i : ℕ) → i < n → get_or (take n (drop at (counts_for (halfwords bytes) all))) i 0 ≡ get_or (counts_for (halfwords bytes) all) (at + i) 0
      here i l = get_or-take n (drop at (counts_for (halfwords bytes) all)) i 0 l ∙ get_or-drop at (counts_for (halfwords bytes) all) i 0

      same : (i : ℕ) → i < n → NoneOrEach bytes all → get_or (counts_for (halfwords part) n) i 0 ≡ get_or (counts_for (halfwords bytes) all) (at + i) 0
      same i l (inl none) =
          let no_part : length part ≡ 0 = omega (arith, length-take (2 * n) (drop (2 * at) bytes), length-drop (2 * at) bytes) in
          sym (count_one part n i l no_part) ∙ count_one bytes all (at + i) (omega arith) none
      same i l (inr each) =
          let whole_part = length-take-le (2 * n) (drop (2 * at) bytes) (omega (arith, length-drop (2 * at) bytes)) in
          sym (count_read part n i l (λ none. omega arith) (inr whole_part))
          ∙ halfword_part bytes at n i l
          ∙ count_read bytes all (at + i) (omega arith) (λ none. omega arith) (inr each)

-- what is left of the images and of the bytes of their counts, behind the first `at` images
pub record Left (bytes images : List ℕ) (at : ℕ) (left_bytes left : List ℕ) : Type 0 where
  pub images_are : left ≡ drop at images
  pub bytes_are : left_bytes ≡ drop (2 * at) bytes

pub nothing_passed : (bytes images : List ℕ) (at : ℕ) → at ≡ 0 → Left bytes images at bytes images
nothing_passed bytes images at none = rw none (record { images_are = refl; bytes_are = refl })

-- n images more, with the bytes of their counts, or with none
module _ (bytes images : List ℕ) (at n m : ℕ) (left_bytes left : List ℕ) (l : Left bytes images at left_bytes left) (given : NoneOrEach bytes (length images)) (within : at + n ≤ length images) where
  pub enough : n ≤ length left
  enough = omega (arith, ap length l.images_are, length-drop at images)

  module _ (m-is : m ≡ min (length left_bytes) (2 * n)) where
    same_part : NoneOrEach bytes (length images) → (take m left_bytes ≡ take (2 * n) left_bytes) × (drop m left_bytes ≡ drop (2 * n) left_bytes)
    same_part (inl none) =
        let empty : length left_bytes ≡ 0 = omega (arith, ap length l.bytes_are, length-drop (2 * at) bytes) in (
          take_all m left_bytes (omega arith) ∙ sym (take_all (2 * n) left_bytes (omega arith)),
          drop_of_length-le left_bytes {i = m} (omega arith) ∙ sym (drop_of_length-le left_bytes {i = 2 * n} (omega arith)),
        )
    same_part (inr each) =
        let all : m ≡ 2 * n = omega (arith, ap length l.bytes_are, length-drop (2 * at) bytes) in
        (ap (λ (k : ℕ). take k left_bytes) all, ap (λ (k : ℕ). drop k left_bytes) all)

    pub counts_here : take m left_bytes ≡ take (2 * n) (drop (2 * at) bytes)
    counts_here = (same_part given).0 ∙ ap (take (2 * n)) l.bytes_are

    pub passed_more : Left bytes images (at + n) (drop m left_bytes) (drop n left)
    passed_more =
        let place : 2 * at + 2 * n ≡ 2 * (at + n) = omega arith in
        record {
          images_are = ap (drop n) l.images_are ∙ drop-drop n at images;
          bytes_are = (same_part given).1 ∙ ap (drop (2 * n)) l.bytes_are ∙ drop-drop (2 * n) (2 * at) bytes ∙ ap (λ (k : ℕ). drop k bytes) place;
        }

-- what is summed over these n images
module _ (bytes images : List ℕ) (at n m : ℕ) (left_bytes left : List ℕ) (l : Left bytes images at left_bytes left) (c : Counted bytes images) (within : at + n ≤ length images) (m-is : m ≡ min (length left_bytes) (2 * n)) (block_bytes block : List ℕ) (bytes-is : block_bytes ≡ take m left_bytes) (block-is : block ≡ take n left) where
  images_here : block ≡ take n (drop at images)
  images_here = block-is ∙ ap (take n) l.images_are

  bytes_here : block_bytes ≡ take (2 * n) (drop (2 * at) bytes)
  bytes_here = bytes-is ∙ counts_here bytes images at n m left_bytes left l c.none_or_each within m-is

  long : length block ≡ n
  long = ap length images_here ∙ length-take-le n (drop at images) (omega (arith, length-drop at images))

  pub part_fits : NoneOrEach block_bytes (length block) × (length block ≤ most_sizes)
  part_fits =
      (rw (long, bytes_here) (none_or_part bytes (length images) at n within c.none_or_each), omega (arith, long, c.few))

  -- a part is within the scale too
  part_within : (d : ℕ) → EachWithin d images → EachWithin d block
  part_within d most i l =
      rw (images_here, get_or-take n (drop at images) i 0 (omega (arith, long)), get_or-drop at images i 0) (most (at + i) (omega (arith, long)))

  pub part_summed : (sum : ℕ) → (sum ≡ weighted (counts_for (halfwords block_bytes) (length block)) block) × ((most : ℕ) → EachWithin most block → sum ≤ length block * (most_count * most)) → (sum ≡ weighted (take n (drop at (counts_of bytes images))) (take n (drop at images))) × ((most : ℕ) → EachWithin most images → sum ≤ n * (most_count * most))
  part_summed sum s =
      (s.0 ∙ rw (long, bytes_here, images_here, counts_part bytes (length images) at n within c.none_or_each), λ most each. rw long at (s.1 most (part_within most each)))

-- the sum over the first places, and over n more
weighted_more : (at n : ℕ) (counts xs : List ℕ) → weighted (take (at + n) counts) (take (at + n) xs) ≡ weighted (take at counts) (take at xs) + weighted (take n (drop at counts)) (take n (drop at xs))
weighted_more at n counts xs =
    weighted_split at (take (at + n) counts) (take (at + n) xs)
    ∙ rw (take-take at (at + n) counts (omega arith), take-take at (at + n) xs (omega arith), drop-take at n counts, drop-take at n xs)

-- after k blocks: the place behind them, their sums, and what is written
pub record BlocksDone (numbers counts images : List ℕ) (d : ℕ) (floors₀ : List ℕ) (sum all at k : ℕ) (floors : List ℕ) : Type 0 where
  pub passed : k ≤ length numbers
  pub at_is : at ≡ total (take k numbers)
  pub sum_is : sum ≡ weighted (take at counts) (take at images)
  pub sum_most : sum ≤ at * (most_count * d)
  pub all_is : all ≡ total (map (sum_up d) (divide (take k numbers) counts images))
  pub all_most : all ≤ sum
  pub floors_are : floors ≡ map (sum_up d) (divide (take k numbers) counts images) ++ drop k floors₀

module _ (numbers counts images : List ℕ) (d : ℕ) (floors₀ : List ℕ) where
  pub blocks_start : BlocksDone numbers counts images d floors₀ 0 0 0 0 floors₀
  unfolding divide
  blocks_start =
      record {
        passed = omega arith;
        at_is = sym total_none;
        sum_is = sym (weighted_no_counts (take 0 images));
        sum_most = omega arith;
        all_is = sym total_none;
        all_most = omega arith;
        floors_are = refl;
      }

  module _ (sum all at k : ℕ) (floors : List ℕ) (s : BlocksDone numbers counts images d floors₀ sum all at k floors) where
    abbrev written : List ℕ
    written = map (sum_up d) (divide (take k numbers) counts images)

    written_long : length written ≡ k
    written_long =
        length-map (divide (take k numbers) counts images) (sum_up d)
        ∙ divide_count (take k numbers) counts images
        ∙ length-take-le k numbers s.passed

    -- as many places as before
    pub same_places : length numbers ≤ length floors₀ → length floors ≡ length floors₀
    same_places room =
        ap length s.floors_are ∙ length-append written (drop k floors₀) ∙ omega (arith, written_long, length-drop k floors₀, s.passed)

    module _ (l : k < length numbers) (n : ℕ) (is : n ≡ get_or numbers k 0) where
      pub next_at : at + n ≡ total (take (suc k) numbers)
      next_at = omega (arith, s.at_is, is, total_next numbers k l)

      pub within_all : at + n ≤ total numbers
      within_all = omega (arith, next_at, total_first (suc k) numbers)

      abbrev block : Block
      block = block_at at n counts images

      divided : divide (take (suc k) numbers) counts images ≡ divide (take k numbers) counts images ++ (block ∷ [])
      divided =
          ap (λ (l : List ℕ). divide l counts images) (take-suc numbers k 0 l ∙ ap (λ (m : ℕ). take k numbers ++ (m ∷ [])) (sym is))
          ∙ divide_more (take k numbers) n counts images
          ∙ ap (λ (m : ℕ). divide (take k numbers) counts images ++ (block_at m n counts images ∷ [])) (sym s.at_is)

      more : map (sum_up d) (divide (take (suc k) numbers) counts images) ≡ written ++ (sum_up d block ∷ [])
      more = ap (map (sum_up d)) divided ∙ map-append (sum_up d) (divide (take k numbers) counts images) (block ∷ [])

      module _ (part floor : ℕ) (part_is : part ≡ weighted (take n (drop at counts)) (take n (drop at images))) (few : part ≤ n * (most_count * d)) (floor_is : floor ≡ (part up d)) (positive : 1 ≤ d) where
        floor_of : floor ≡ sum_up d block
        unfolding sum_up
        floor_of = floor_is ∙ ap (λ (m : ℕ). m up d) part_is

        -- a floor has a place of 32 bits: no block has more copies
        pub floor_small : n ≤ most_sizes → floor < 2 ^ 32
        floor_small short =
            omega (arith, floor_is, up_least d positive part (n * most_count) (omega (arith, few)), mul-le-mul_right most_count short)

        pub blocks_next : length numbers ≤ length floors₀ → BlocksDone numbers counts images d floors₀ (sum + part) (all + floor) (at + n) (k + 1) (set floors k floor)
        blocks_next room =
            rw (add-one k)
            (record {
              passed = omega arith;
              at_is = next_at;
              sum_is = omega (arith, s.sum_is, part_is, weighted_more at n counts images);
              sum_most = omega (arith, s.sum_most, few);
              all_is = omega (arith, s.all_is, ap total more, total_append written (sum_up d block ∷ []), total_cons (sum_up d block) [], total_none, floor_of);
              all_most = omega (arith, s.all_most, floor_is, up_most d positive part);
              floors_are = held;
            })
          where
            held : set floors k floor ≡ map (sum_up d) (divide (take (suc k) numbers) counts images) ++ drop (suc k) floors₀
            held =
                ap (λ (l : List ℕ). set l k floor) (s.floors_are ∙ ap (λ (t : List ℕ). written ++ t) (drop-cons floors₀ k 0 (omega arith)))
                ∙ set_at written (get_or floors₀ k 0) (drop (suc k) floors₀) floor k written_long
                ∙ rw (floor_of, more) (sym (append_assoc written (sum_up d block ∷ []) (drop (suc k) floors₀)))

    pub blocks_end : length numbers ≤ k → length counts ≡ length images → total numbers ≡ length images → (floors ≡ map (sum_up d) (divide numbers counts images) ++ drop (length numbers) floors₀) × (all ≡ total (map (sum_up d) (divide numbers counts images))) × (sum ≡ weighted counts images)
    blocks_end over each add_up =
        let last : k ≡ length numbers = omega (arith, s.passed) in
        let taken = take_all k numbers over in
        let here : at ≡ length images = s.at_is ∙ ap total taken ∙ add_up in (
          s.floors_are ∙ rw (taken, last),
          s.all_is ∙ rw taken,
          s.sum_is ∙ rw (take_all at counts (omega arith), take_all at images (omega arith)),
        )
