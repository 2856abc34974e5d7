-- Blocks of a list of sizes, document 02, request 6: so many sizes each, in the list's order.
use Rattle.std.specs.Prelude.{Bool, ◌&&◌, List, [], ◌∷◌, ℕ, leb, eqb, length, take, drop}
use Rattle.functions.specs.Words.{total}
use Rattle.fields.specs.Parts.{Step}
use Rattle.fields.specs.Grammar.{most_blocks}
use Rattle.chains.specs.Chain.{chain_floor}
use Rattle.chains.specs.Sizes.{each}

-- at most 64 blocks, none of 0 sizes, and n sizes in all: refusal 23 is that this is false
unfoldable pub blocks_fit : List ℕ → ℕ → Bool
blocks_fit numbers n = leb (length numbers) most_blocks && each (leb 1) numbers && eqb (total numbers) n

-- a block: its sizes and their counts
pub record Block : Type 0 where
  pub counts : List ℕ
  pub sizes : List ℕ

-- a list with its counts, cut into blocks of so many sizes, one behind the other
unfoldable pub divide : List ℕ → List ℕ → List ℕ → List Block
divide [] counts sizes = []
divide (n ∷ numbers) counts sizes =
    record { counts = take n counts; sizes = take n sizes } ∷ divide numbers (drop n counts) (drop n sizes)

-- the lower bound on bins of a block under a chain from the capacity c on
unfoldable pub block_floor : ℕ → List Step → Block → ℕ
block_floor c steps b = chain_floor c steps b.counts b.sizes
