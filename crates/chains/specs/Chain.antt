-- Chains of document 01, "Jobs": steps one after the other, each from the scale that the one before it left.
use Rattle.std.specs.Prelude.{cond, ◌≡◌, List, [], ◌∷◌, map, ℕ, eqb, length}
use Rattle.functions.specs.Words.{weighted}
use Rattle.functions.specs.Families.{◌up◌, family_image, family_scale}
use Rattle.functions.specs.Image.{family_refusal}
use Rattle.tables.specs.Table.{entry, table_capacity, table_scale}
use Rattle.tables.specs.Check.{table_refusal}
use Rattle.fields.specs.Parts.{Step, on_family, on_table}

-- a step's function at capacity c, its scale, and the number that refuses it or 0
unfoldable pub step_image : ℕ → Step → ℕ → ℕ
step_image c (on_family family p q) x = family_image c family p q x
step_image c (on_table t) x = entry t x

unfoldable pub step_scale : ℕ → Step → ℕ
step_scale c (on_family family p q) = family_scale c family p q
step_scale c (on_table t) = table_scale t

-- 8 to 11 depend on a table's entries alone; 18, a table of another capacity, comes before them
unfoldable pub contents_refusal : Step → ℕ
contents_refusal (on_family family p q) = 0
contents_refusal (on_table t) = table_refusal t (length t) (table_capacity t)

unfoldable pub step_refusal : ℕ → Step → ℕ
step_refusal c (on_family family p q) = family_refusal c family p q
step_refusal c (on_table t) = cond (eqb (table_capacity t) c) (contents_refusal (on_table t)) 18

-- the image of a size through a chain, and the chain's scale, document 01's E
unfoldable pub chain_image : ℕ → List Step → ℕ → ℕ
chain_image c [] x = x
chain_image c (s ∷ steps) x = chain_image (step_scale c s) steps (step_image c s x)

unfoldable pub chain_scale : ℕ → List Step → ℕ
chain_scale c [] = c
chain_scale c (s ∷ steps) = chain_scale (step_scale c s) steps

-- every step is accepted at the capacity that it gets
unfoldable pub ChainAccepted : ℕ → List Step → Type 0
ChainAccepted c [] = Unit {0}
ChainAccepted c (s ∷ steps) = (step_refusal c s ≡ 0) × ChainAccepted (step_scale c s) steps

-- no table of the chain has 8 to 11
unfoldable pub TablesPass : List Step → Type 0
TablesPass [] = Unit {0}
TablesPass (s ∷ steps) = (contents_refusal s ≡ 0) × TablesPass steps

-- the lower bound on bins, document 01's floor, of a list of sizes with their counts
unfoldable pub chain_floor : ℕ → List Step → List ℕ → List ℕ → ℕ
chain_floor c steps counts sizes = weighted counts (map (chain_image c steps) sizes) up chain_scale c steps
