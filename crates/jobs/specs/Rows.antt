-- The definitions of copies, packings, blocks and counts at small inputs. `proofs/Packings.antt` proves these rows, by computation.
use Rattle.std.specs.Prelude.{◌≡◌, List, [], ◌∷◌, ℕ}
use Rattle.functions.specs.Words.{weighted}
use Rattle.jobs.specs.Packing.{copies, load, bins_used, block_of_each, KeepsSeparate}

abbrev sizes : List ℕ
sizes = 7 ∷ 5 ∷ 3 ∷ []

-- the sizes 7 and 3 in bin 4, and 5 in bin 1
abbrev bins : List ℕ
bins = 4 ∷ 1 ∷ 4 ∷ []

pub record PackingRows : Type 0 where
  pub load_of_two : load 4 sizes bins ≡ 10
  pub load_of_one : load 1 sizes bins ≡ 5
  pub load_of_none : load 0 sizes bins ≡ 0
  pub used_two : bins_used bins ≡ 2
  pub no_bins_used : bins_used [] ≡ 0
  pub copies_counted : copies (2 ∷ 0 ∷ 1 ∷ []) sizes ≡ 7 ∷ 7 ∷ 3 ∷ []
  pub blocks_of_copies : copies (2 ∷ 3 ∷ 1 ∷ []) (block_of_each 0 (2 ∷ 1 ∷ [])) ≡ 0 ∷ 0 ∷ 0 ∷ 0 ∷ 0 ∷ 1 ∷ []
  pub in_two_bins : KeepsSeparate (0 ∷ 1 ∷ []) (4 ∷ 1 ∷ [])
  pub in_one_bin : KeepsSeparate (0 ∷ 1 ∷ []) (4 ∷ 4 ∷ []) → ⊥
  pub weighted_total : weighted (2 ∷ 0 ∷ 1 ∷ []) sizes ≡ 17
