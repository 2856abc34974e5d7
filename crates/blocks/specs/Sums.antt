-- What the loop over blocks asks and leaves: images through a chain, cut into blocks.
use Rattle.std.specs.Prelude.{◌≡◌, true, List, ◌++◌, map, ℕ, ◌*◌, ◌≤◌, length, drop}
use Rattle.functions.specs.Words.{limit, total, most_count, weighted, EachWithin}
use Rattle.functions.specs.Families.{◌up◌}
use Rattle.fields.specs.Bytes.{halfwords}
use Rattle.fields.specs.Parts.{counts_for}
use Rattle.fields.specs.Grammar.{most_sizes, most_blocks}
use Rattle.chains.specs.Sizes.{NoneOrEach}
use Rattle.blocks.specs.Block.{blocks_fit, Block, divide}
use Rattle.blocks.specs.declared.BlockSums.{BlockSums}

-- the sum of count times number of a block, divided by d and rounded up
unfoldable pub sum_up : ℕ → Block → ℕ
sum_up d b = weighted b.counts b.sizes up d

-- images, no more than a job may have, and the bytes of a count for each, or of none
pub record Counted (counts images : List ℕ) : Type 0 where
  pub none_or_each : NoneOrEach counts (length images)
  pub few : length images ≤ most_sizes

-- the counts of images
abbrev pub counts_of : List ℕ → List ℕ → List ℕ
counts_of counts images = counts_for (halfwords counts) (length images)

-- the bytes of counts and of block numbers, images within their scale, and places for what is written
pub record Divided (counts numbers images : List ℕ) (scale : ℕ) (floors : List ℕ) : Type 0 where
  pub counted : Counted counts images
  pub fit : blocks_fit (halfwords numbers) (length images) ≡ true
  pub within : EachWithin scale images
  pub positive : 1 ≤ scale
  pub in_limit : scale ≤ limit
  pub room : most_blocks ≤ length floors

-- each block's sum rounded up is written, and the sums and what was written are added up
pub record Summed (counts numbers images : List ℕ) (scale : ℕ) (floors : List ℕ) (sums : BlockSums) (floors' : List ℕ) : Type 0 where
  pub floors_are : floors' ≡ map (sum_up scale) (divide (halfwords numbers) (counts_of counts images) images) ++ drop (length (halfwords numbers)) floors
  pub total_is : sums.total ≡ total (map (sum_up scale) (divide (halfwords numbers) (counts_of counts images) images))
  pub sum_is : sums.sum ≡ weighted (counts_of counts images) images
  pub sum_most : sums.sum ≤ most_sizes * (most_count * limit)
