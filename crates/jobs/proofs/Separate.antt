-- Blocks that share no bin: their bins together are those of the packing, and each block's are enough for its floor.
use mathlib.Core.Path.{◌≡◌, refl, ap, sym, ◌∙◌}
use mathlib.Core.Bool.{Bool, true, false, cond, ◌||◌}
use mathlib.Core.List.{List, [], ◌∷◌, ◌++◌, map, append_assoc}
use Prim.Native.Nat.{ℕ, zero, suc, ◌+◌, ◌≤◌, ◌<◌}
use native.Mathlib.Omega.{arith}
use borrow.Author.Tests.{ne_eqb}
use lib.Dec.{eqb}
use lib.ListN.{length, get_or, take, drop, replicate, length-append, length-drop, length-replicate, take-append-drop, get_or-append}
use lib.Seq.{length-take-le, take_at, drop_at, get_or-take, get_or-drop, get_or-append-add}
use Rattle.functions.specs.Words.{total}
use Rattle.functions.proofs.Totals.{total_none, total_cons}
use Rattle.blocks.specs.Block.{Block, divide}
use Rattle.jobs.specs.Packing.{copies, load, Fits, member, distinct, bins_used, block_of_each, KeepsSeparate}

-- the copies of the first n sizes, and of the others behind them
copies_split : (n : ℕ) (counts xs : List ℕ) → copies counts xs ≡ copies (take n counts) (take n xs) ++ copies (drop n counts) (drop n xs)
unfolding copies
copies_split zero counts xs = refl
copies_split (suc n) [] xs = refl
copies_split (suc n) (k ∷ counts) [] = none (drop n counts)
  where
    none : (counts : List ℕ) → [] ≡ copies counts []
    none [] = refl
    none (m ∷ counts) = refl
copies_split (suc n) (k ∷ counts) (x ∷ xs) =
    ap (λ (l : List ℕ). replicate k x ++ l) (copies_split n counts xs)
    ∙ sym (append_assoc (replicate k x) (copies (take n counts) (take n xs)) (copies (drop n counts) (drop n xs)))

-- as many copies of other numbers
copies_length : (counts xs ys : List ℕ) → length xs ≡ length ys → length (copies counts xs) ≡ length (copies counts ys)
unfolding copies
copies_length [] xs ys e = refl
copies_length (k ∷ counts) [] [] e = refl
copies_length (k ∷ counts) [] (y ∷ ys) e = absurd (omega arith)
copies_length (k ∷ counts) (x ∷ xs) [] e = absurd (omega arith)
copies_length (k ∷ counts) (x ∷ xs) (y ∷ ys) e =
    omega (arith, length-append (replicate k x) (copies counts xs), length-append (replicate k y) (copies counts ys), length-replicate k x, length-replicate k y, copies_length counts xs ys (omega arith))

-- what holds of each number holds of each copy
module _ (P : ℕ → Type 0) where
  Each : List ℕ → Type 0
  Each xs = (i : ℕ) → i < length xs → P (get_or xs i 0)

  each_behind : (n x : ℕ) (ys : List ℕ) → P x → Each ys → Each (replicate n x ++ ys)
  unfolding Each
  each_behind zero x ys here later i l = later i l
  each_behind (suc n) x ys here later zero l = here
  each_behind (suc n) x ys here later (suc i) l = each_behind n x ys here later i (omega arith)

  each_copy : (counts xs : List ℕ) → Each xs → Each (copies counts xs)
  unfolding Each copies
  each_copy [] xs each i l = absurd (omega arith)
  each_copy (k ∷ counts) [] each i l = absurd (omega arith)
  each_copy (k ∷ counts) (x ∷ xs) each i l = each_behind k x (copies counts xs) (each 0 (omega arith)) (each_copy counts xs (λ j m. each (suc j) (omega arith))) i l

  each_same : (n x : ℕ) → P x → Each (replicate n x)
  unfolding Each
  each_same (suc n) x here zero l = here
  each_same (suc n) x here (suc i) l = each_same n x here i (omega arith)
  each_same zero x here i l = absurd (omega arith)

-- blocks counted from k have no number below k
blocks_from : (k : ℕ) (numbers : List ℕ) → Each (λ b. k ≤ b) (block_of_each k numbers)
unfolding Each block_of_each
blocks_from k [] i l = absurd (omega arith)
blocks_from k (n ∷ numbers) i l = each_behind (λ b. k ≤ b) n k (block_of_each (suc k) numbers) (omega arith) (λ j m. omega (arith, blocks_from (suc k) numbers j m)) i l

blocks_length : (k : ℕ) (numbers : List ℕ) → length (block_of_each k numbers) ≡ total numbers
unfolding block_of_each
blocks_length k [] = sym total_none
blocks_length k (n ∷ numbers) = length-append (replicate n k) (block_of_each (suc k) numbers) ∙ omega (arith, length-replicate n k, blocks_length (suc k) numbers, total_cons n numbers)

-- the load of a bin, by the first copies and the others
load_split : (b : ℕ) (xs ys bins : List ℕ) → load b (xs ++ ys) bins ≡ load b xs (take (length xs) bins) + load b ys (drop (length xs) bins)
unfolding load
load_split b [] ys bins = omega arith
load_split b (x ∷ xs) [] [] = omega arith
load_split b (x ∷ xs) (y ∷ ys) [] = omega arith
load_split b (x ∷ xs) ys (a ∷ bins) = omega (arith, load_split b xs ys bins)

-- bins that are used here and there, and none of them in both
member_behind : (b : ℕ) (first rest : List ℕ) → member b rest ≡ false → member b (first ++ rest) ≡ member b first
unfolding member
member_behind b [] rest e = e
member_behind b (a ∷ first) rest e = ap (λ (t : Bool). eqb a b || t) (member_behind b first rest e)

distinct_split : (first rest : List ℕ) → Each (λ b. member b rest ≡ false) first → bins_used (first ++ rest) ≡ bins_used first + bins_used rest
unfolding Each distinct bins_used
distinct_split [] rest apart = omega arith
distinct_split (b ∷ first) rest apart = rw (member_behind b first rest (apart 0 (omega arith))) (go (member b first) (distinct_split first rest (λ i l. apart (suc i) (omega arith))))
  where
    go : (test : Bool) → length (distinct (first ++ rest)) ≡ length (distinct first) + length (distinct rest) → length (cond test (distinct (first ++ rest)) (b ∷ distinct (first ++ rest))) ≡ length (cond test (distinct first) (b ∷ distinct first)) + length (distinct rest)
    go true e = e
    go false e = omega (arith, e)

not_member : (b : ℕ) (bins : List ℕ) → Each (λ a. a ≡ b → ⊥) bins → member b bins ≡ false
unfolding Each member
not_member b [] other = refl
not_member b (a ∷ bins) other = rw (ne_eqb a b (other 0 (omega arith))) (not_member b bins (λ i l. other (suc i) (omega arith)))

-- the copies of one block before those of the others, with the block of each copy, in a packing that keeps them separate
record Divided (c : ℕ) (A B OA OB bins : List ℕ) (k : ℕ) : Type 0 where
  long : length OA ≡ length A
  others_long : length OB ≡ length B
  here : Each (λ b. b ≡ k) OA
  there : Each (λ b. suc k ≤ b) OB
  fits : Fits c (A ++ B) bins
  separate : KeepsSeparate (OA ++ OB) bins

module _ {c : ℕ} {A B OA OB bins : List ℕ} {k : ℕ} (d : Divided c A B OA OB bins k) where
  abbrev first : List ℕ
  first = take (length A) bins

  abbrev rest : List ℕ
  rest = drop (length A) bins

  all_long : length bins ≡ length A + length B
  all_long = d.fits.one_each ∙ length-append A B

  first_long : length first ≡ length A
  first_long = length-take-le (length A) bins (omega (arith, all_long))

  rest_long : length rest ≡ length B
  rest_long = omega (arith, length-drop (length A) bins, all_long)

  first_fits : Fits c A first
  first_fits = record { one_each = first_long; within = λ b. omega (arith, d.fits.within b, load_split b A B bins) }

  rest_fits : Fits c B rest
  rest_fits = record { one_each = rest_long; within = λ b. omega (arith, d.fits.within b, load_split b A B bins) }

  -- the block and the bin of a copy of the others
  block_behind : (j : ℕ) → get_or (OA ++ OB) (length A + j) 0 ≡ get_or OB j 0
  block_behind j = ap (λ (n : ℕ). get_or (OA ++ OB) (n + j) 0) (sym d.long) ∙ get_or-append-add OA OB j 0

  bin_behind : (j : ℕ) → get_or rest j 0 ≡ get_or bins (length A + j) 0
  bin_behind j = get_or-drop (length A) bins j 0

  rest_separate : KeepsSeparate OB rest
  unfolding KeepsSeparate
  rest_separate i j l m e =
      sym (block_behind i)
      ∙ d.separate (length A + i) (length A + j) (omega (arith, rest_long, all_long)) (omega (arith, rest_long, all_long)) (sym (bin_behind i) ∙ e ∙ bin_behind j)
      ∙ block_behind j

  -- no bin of the block is one of the others
  block_here : (i : ℕ) → i < length A → get_or (OA ++ OB) i 0 ≡ k
  unfolding Each
  block_here i l = get_or-append OA OB 0 i (omega (arith, d.long)) ∙ d.here i (omega (arith, d.long))

  apart : Each (λ b. member b rest ≡ false) first
  unfolding Each KeepsSeparate
  apart i l = not_member (get_or first i 0) rest (λ j m same. shared j (omega (arith, m)) same)
    where
      shared : (j : ℕ) → j < length rest → get_or rest j 0 ≡ get_or first i 0 → ⊥
      shared j m same =
          let bin : get_or bins (length A + j) 0 ≡ get_or bins i 0 = sym (bin_behind j) ∙ same ∙ get_or-take (length A) bins i 0 (omega (arith, first_long)) in
          let block = d.separate (length A + j) i (omega (arith, rest_long, all_long)) (omega (arith, first_long, all_long)) bin in
          omega (arith, block, block_behind j, block_here i (omega (arith, first_long)), d.there j (omega (arith, rest_long, d.others_long)))

  bins_together : bins_used bins ≡ bins_used first + bins_used rest
  bins_together = ap bins_used (sym (take-append-drop (length A) bins)) ∙ distinct_split first rest apart

-- n sizes of block k, with their counts, before those of the blocks behind it
module _ (c k n : ℕ) (numbers counts sizes bins : List ℕ) (e : total (n ∷ numbers) ≡ length sizes) (fits : Fits c (copies counts sizes) bins) (separate : KeepsSeparate (copies counts (block_of_each k (n ∷ numbers))) bins) where
  abbrev A : List ℕ
  A = copies (take n counts) (take n sizes)

  abbrev B : List ℕ
  B = copies (drop n counts) (drop n sizes)

  abbrev OA : List ℕ
  OA = copies (take n counts) (replicate n k)

  abbrev OB : List ℕ
  OB = copies (drop n counts) (block_of_each (suc k) numbers)

  left : total numbers ≡ length (drop n sizes)
  left = omega (arith, e, total_cons n numbers, length-drop n sizes)

  enough : n ≤ length sizes
  enough = omega (arith, e, total_cons n numbers)

  divided : Divided c A B OA OB bins k
  unfolding block_of_each
  divided =
      let parted : copies counts (replicate n k ++ block_of_each (suc k) numbers) ≡ OA ++ OB = copies_split n counts (replicate n k ++ block_of_each (suc k) numbers) ∙ rw (take_at (replicate n k) (block_of_each (suc k) numbers) n (length-replicate n k), drop_at (replicate n k) (block_of_each (suc k) numbers) n (length-replicate n k)) in
      record {
        long = copies_length (take n counts) (replicate n k) (take n sizes) (length-replicate n k ∙ sym (length-take-le n sizes enough));
        others_long = copies_length (drop n counts) (block_of_each (suc k) numbers) (drop n sizes) (blocks_length (suc k) numbers ∙ left);
        here = each_copy (λ b. b ≡ k) (take n counts) (replicate n k) (each_same (λ b. b ≡ k) n k refl);
        there = each_copy (λ b. suc k ≤ b) (drop n counts) (block_of_each (suc k) numbers) (blocks_from (suc k) numbers);
        fits = rw (copies_split n counts sizes) at fits;
        separate = rw parted at separate;
      }

-- a floor that is safe for every list is safe block by block
module _ (c : ℕ) (floor : List ℕ → List ℕ → ℕ) (safe : (counts sizes bins : List ℕ) → Fits c (copies counts sizes) bins → floor counts sizes ≤ bins_used bins) where
  abbrev floors : List ℕ → List ℕ → List ℕ → List ℕ
  floors numbers counts sizes = map (λ (b : Block). floor b.counts b.sizes) (divide numbers counts sizes)

  pub separate_total : (numbers : List ℕ) (k : ℕ) (counts sizes bins : List ℕ) → total numbers ≡ length sizes → Fits c (copies counts sizes) bins → KeepsSeparate (copies counts (block_of_each k numbers)) bins → total (floors numbers counts sizes) ≤ bins_used bins
  unfolding divide
  separate_total [] k counts sizes bins e fits separate = omega (arith, total_none)
  separate_total (n ∷ numbers) k counts sizes bins e fits separate =
      let d = divided c k n numbers counts sizes bins e fits separate in
      let one = safe (take n counts) (take n sizes) _ (first_fits d) in
      let others = separate_total numbers (suc k) (drop n counts) (drop n sizes) _ (left c k n numbers counts sizes bins e fits separate) (rest_fits d) (rest_separate d) in
      omega (arith, total_cons (floor (take n counts) (take n sizes)) (floors numbers (drop n counts) (drop n sizes)), one, others, bins_together d)
