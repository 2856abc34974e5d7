-- What a floor and a cut are safe against: packings of the copies of a list of sizes into bins (document 01's assignments and windows), blocks that share no bin, and counts of a row.
use Rattle.std.specs.Prelude.{Bool, false, cond, ◌||◌, ◌≡◌, List, [], ◌∷◌, ◌++◌, map, ℕ, suc, ◌+◌, ◌≤◌, ◌<◌, eqb, length, get_or, replicate}
use Rattle.functions.specs.Words.{total, weighted}
use Rattle.fields.specs.Parts.{Step}
use Rattle.chains.specs.Chain.{chain_image, chain_scale, chain_floor}
use Rattle.blocks.specs.Block.{divide, block_floor}

-- the copies of a list of sizes: each size as often as its count
unfoldable pub copies : List ℕ → List ℕ → List ℕ
copies [] sizes = []
copies (n ∷ counts) [] = []
copies (n ∷ counts) (x ∷ sizes) = replicate n x ++ copies counts sizes

-- the total of the sizes that a packing puts into bin b; the packing has a bin for each size
unfoldable pub load : ℕ → List ℕ → List ℕ → ℕ
load b [] bins = 0
load b (x ∷ xs) [] = 0
load b (x ∷ xs) (a ∷ bins) = cond (eqb a b) x 0 + load b xs bins

-- each size has a bin, and no bin holds more than the capacity
pub record Fits (c : ℕ) (sizes bins : List ℕ) : Type 0 where
  pub one_each : length bins ≡ length sizes
  pub within : (b : ℕ) → load b sizes bins ≤ c

unfoldable pub member : ℕ → List ℕ → Bool
member b [] = false
member b (a ∷ bins) = eqb a b || member b bins

-- the different bins that got a size
unfoldable pub distinct : List ℕ → List ℕ
distinct [] = []
distinct (b ∷ bins) = cond (member b bins) (distinct bins) (b ∷ distinct bins)

unfoldable pub bins_used : List ℕ → ℕ
bins_used bins = length (distinct bins)

-- a number is at most the bins of every packing of the copies that fits
abbrev pub FloorSafe : ℕ → List ℕ → List ℕ → ℕ → Type 0
FloorSafe c counts sizes floor = (bins : List ℕ) → Fits c (copies counts sizes) bins → floor ≤ bins_used bins

-- the block of each size, counted from k: as often as the block has sizes
unfoldable pub block_of_each : ℕ → List ℕ → List ℕ
block_of_each k [] = []
block_of_each k (n ∷ numbers) = replicate n k ++ block_of_each (suc k) numbers

-- a packing keeps blocks separate: two copies in one bin are of one block. `blocks` has the block of each copy
unfoldable pub KeepsSeparate : List ℕ → List ℕ → Type 0
KeepsSeparate blocks bins =
    (i j : ℕ) → i < length bins → j < length bins → get_or bins i 0 ≡ get_or bins j 0 → get_or blocks i 0 ≡ get_or blocks j 0

-- a number is at most the bins of every packing of the copies that fits and keeps blocks of so many sizes separate
abbrev pub TotalSafe : ℕ → List ℕ → List ℕ → List ℕ → ℕ → Type 0
TotalSafe c numbers counts sizes all =
    (bins : List ℕ) → Fits c (copies counts sizes) bins → KeepsSeparate (copies counts (block_of_each 0 numbers)) bins → all ≤ bins_used bins

-- what is promised of a chain: its floor is at most the bins of every packing of the copies that fits, its cut holds for all counts that satisfy the row, and, where
-- blocks of so many sizes divide the list, its floor is at most the total of the blocks' floors, and that at most the bins of every packing that fits and keeps blocks separate
pub record ChainPromise (c : ℕ) (steps : List Step) : Type 0 where
  pub floor_is_safe : (counts sizes : List ℕ) → FloorSafe c counts sizes (chain_floor c steps counts sizes)
  pub floor_within_total : (numbers counts sizes : List ℕ) → total numbers ≡ length sizes → chain_floor c steps counts sizes ≤ total (map (block_floor c steps) (divide numbers counts sizes))
  pub total_is_safe : (numbers counts sizes : List ℕ) → total numbers ≡ length sizes → TotalSafe c numbers counts sizes (total (map (block_floor c steps) (divide numbers counts sizes)))
  pub cut_holds : (row counts : List ℕ) → length counts ≡ length row → weighted counts row ≤ c → weighted counts (map (chain_image c steps) row) ≤ chain_scale c steps
