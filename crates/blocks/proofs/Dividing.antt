-- A list cut into blocks: one block more, images in the place of sizes, and what 23 leaves.
use mathlib.Core.Path.{◌≡◌, refl, ap, ◌∙◌}
use mathlib.Core.Bool.{true, false, ◌&&◌, and-eq-true_iff}
use mathlib.Core.List.{List, [], ◌∷◌, ◌++◌, map}
use Prim.Native.Nat.{ℕ, suc, ◌+◌, ◌≤◌, ◌<◌}
use native.Mathlib.Omega.{arith}
use borrow.Author.Tests.{eqb-true, leb-true, le-leb, lt-leb}
use lib.Dec.{leb, eqb}
use lib.ListN.{length, take, drop, length-drop}
use lib.Seq.{drop-drop}
use Rattle.std.proofs.lemmas.List.{take-map, drop-map}
use Rattle.functions.specs.Words.{total, weighted}
use Rattle.functions.specs.Families.{◌up◌}
use Rattle.functions.proofs.Quotient.{up_zero, up_reaches, up_least}
use Rattle.fields.specs.Parts.{Step}
use Rattle.fields.specs.Grammar.{most_blocks}
use Rattle.chains.specs.Chain.{chain_image, chain_scale, chain_floor}
use Rattle.chains.specs.Sizes.{each}
use Rattle.functions.proofs.Totals.{total_none, total_cons, weighted_none, weighted_split}
use Rattle.blocks.specs.Block.{blocks_fit, Block, divide, block_floor}
use Rattle.blocks.specs.Sums.{sum_up}

-- what 23 leaves of the numbers of blocks
pub record Fit (numbers : List ℕ) (n : ℕ) : Type 0 where
  pub few : length numbers ≤ most_blocks
  pub add_up : total numbers ≡ n

pub fit : (numbers : List ℕ) (n : ℕ) → blocks_fit numbers n ≡ true → Fit numbers n
unfolding blocks_fit
fit numbers n e =
    let both = (and-eq-true_iff (leb (length numbers) most_blocks && each (leb 1) numbers) (eqb (total numbers) n)).0 e in
    record {
      few = leb-true (length numbers) most_blocks ((and-eq-true_iff (leb (length numbers) most_blocks) (each (leb 1) numbers)).0 both.0).0;
      add_up = eqb-true (total numbers) n both.1;
    }

-- the tests one after the other
module _ (numbers : List ℕ) (n : ℕ) where
  pub too_many : most_blocks < length numbers → blocks_fit numbers n ≡ false
  unfolding blocks_fit
  too_many over = rw (lt-leb (length numbers) most_blocks over)

  module _ (few : length numbers ≤ most_blocks) where
    pub an_empty_one : each (leb 1) numbers ≡ false → blocks_fit numbers n ≡ false
    unfolding blocks_fit
    an_empty_one e = rw (le-leb (length numbers) most_blocks few, e)

    pub none_empty : each (leb 1) numbers ≡ true → blocks_fit numbers n ≡ eqb (total numbers) n
    unfolding blocks_fit
    none_empty e = rw (le-leb (length numbers) most_blocks few, e)

-- as many blocks as numbers
pub divide_count : (numbers counts sizes : List ℕ) → length (divide numbers counts sizes) ≡ length numbers
unfolding divide
divide_count [] counts sizes = refl
divide_count (n ∷ numbers) counts sizes = ap suc (divide_count numbers (drop n counts) (drop n sizes))

-- n sizes from a place on, with their counts
abbrev pub block_at : ℕ → ℕ → List ℕ → List ℕ → Block
block_at at n counts sizes = record { counts = take n (drop at counts); sizes = take n (drop at sizes) }

pub divide_more : (numbers : List ℕ) (n : ℕ) (counts sizes : List ℕ) → divide (numbers ++ (n ∷ [])) counts sizes ≡ divide numbers counts sizes ++ (block_at (total numbers) n counts sizes ∷ [])
unfolding divide
divide_more [] n counts sizes = rw total_none
divide_more (m ∷ numbers) n counts sizes =
    rw (total_cons m numbers)
    (ap (λ (l : List Block). record { counts = take m counts; sizes = take m sizes } ∷ l)
    (divide_more numbers n (drop m counts) (drop m sizes)
    ∙ rw (drop-drop (total numbers) m counts, drop-drop (total numbers) m sizes)))

-- the sum of all, rounded up, is at most the blocks' sums, each rounded up
module _ (d : ℕ) (positive : 1 ≤ d) where
  up_plus : (a b : ℕ) → (a + b up d) ≤ (a up d) + (b up d)
  up_plus a b = up_least d positive (a + b) ((a up d) + (b up d)) (omega (arith, up_reaches d positive a, up_reaches d positive b))

  pub whole_within : (numbers counts xs : List ℕ) → total numbers ≡ length xs → (weighted counts xs up d) ≤ total (map (sum_up d) (divide numbers counts xs))
  unfolding divide sum_up
  whole_within [] counts [] e = omega (arith, ap (λ (sum : ℕ). sum up d) (weighted_none counts), up_zero d)
  whole_within [] counts (x ∷ xs) e = absurd (omega (arith, total_none))
  whole_within (n ∷ numbers) counts xs e =
      let left : total numbers ≡ length (drop n xs) = omega (arith, total_cons n numbers, length-drop n xs) in
      let one = weighted (take n counts) (take n xs) in
      let others = weighted (drop n counts) (drop n xs) in
      omega (arith, ap (λ (sum : ℕ). sum up d) (weighted_split n counts xs), up_plus one others, whole_within numbers (drop n counts) (drop n xs) left, total_cons (one up d) (map (sum_up d) (divide numbers (drop n counts) (drop n xs))))

-- the floors of blocks are the sums of their images, rounded up by the scale
module _ (c : ℕ) (S : List Step) where
  pub floors_of_images : (numbers counts sizes : List ℕ) → map (sum_up (chain_scale c S)) (divide numbers counts (map (chain_image c S) sizes)) ≡ map (block_floor c S) (divide numbers counts sizes)
  unfolding divide sum_up block_floor chain_floor
  floors_of_images [] counts sizes = refl
  floors_of_images (n ∷ numbers) counts sizes =
      rw (take-map (chain_image c S) n sizes, drop-map (chain_image c S) n sizes)
      (ap (λ (l : List ℕ). chain_floor c S (take n counts) (take n sizes) ∷ l) (floors_of_images numbers (drop n counts) (drop n sizes)))
