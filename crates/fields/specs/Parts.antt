-- The parts of a job, document 01, "Jobs", and document 02, requests 1, 4 and 6, each found by its tag in the job's list of fields.
use Rattle.std.specs.Prelude.{Bool, false, cond, ◌||◌, List, [], ◌∷◌, map, ℕ, ◌+◌, eqb, length, get_or, drop, replicate}
use Rattle.fields.specs.Bytes.{word, halfwords, words}

pub record Field : Type 0 where
  pub tag : ℕ
  pub value : List ℕ

abbrev pub field_of : ℕ → List ℕ → Field
field_of tag value = record { tag = tag; value = value }

-- the value of the first field with a tag, or nothing
unfoldable pub value_of : ℕ → List Field → List ℕ
value_of tag [] = []
value_of tag (f ∷ fields) = cond (eqb f.tag tag) f.value (value_of tag fields)

unfoldable pub job_kind : List Field → ℕ
job_kind fields = get_or (value_of 1 fields) 0 0

unfoldable pub job_capacity : List Field → ℕ
job_capacity fields = word (value_of 2 fields) 0

unfoldable pub job_sizes : List Field → List ℕ
job_sizes fields = words (value_of 3 fields)

-- the counts of n sizes: those that are given, or, where none is, ones
unfoldable pub counts_for : List ℕ → ℕ → List ℕ
counts_for [] n = replicate n 1
counts_for (k ∷ given) n = k ∷ given

unfoldable pub job_counts : List Field → List ℕ
job_counts fields = counts_for (halfwords (value_of 7 fields)) (length (job_sizes fields))

-- the numbers of sizes of a job's blocks, and whether a field gives them: it may give none
unfoldable pub block_numbers : List Field → List ℕ
block_numbers fields = halfwords (value_of 8 fields)

unfoldable pub blocks_there : List Field → Bool
blocks_there [] = false
blocks_there (f ∷ fields) = eqb f.tag 8 || blocks_there fields

-- a step: family, p and q, or the entries of a table
pub data Step : Type 0 where
  on_family : ℕ → ℕ → ℕ → Step
  on_table : List ℕ → Step

unfoldable pub is_step : ℕ → Bool
is_step tag = eqb tag 4 || eqb tag 5

unfoldable pub step_of : Field → Step
step_of f = cond (eqb f.tag 4) (on_family (get_or f.value 0 0) (word f.value 1) (word f.value 5)) (on_table (words f.value))

-- the fields whose tag passes a test, in their order
unfoldable pub chosen : (ℕ → Bool) → List Field → List Field
chosen test [] = []
chosen test (f ∷ fields) = cond (test f.tag) (f ∷ chosen test fields) (chosen test fields)

unfoldable pub job_steps : List Field → List Step
job_steps fields = map step_of (chosen is_step fields)

-- a row, a knapsack constraint: its right side and its coefficients
pub record Row : Type 0 where
  pub right_side : ℕ
  pub coefficients : List ℕ

unfoldable pub row_of : Field → Row
row_of f = record { right_side = word f.value 0; coefficients = words (drop 4 f.value) }

unfoldable pub is_row : ℕ → Bool
is_row tag = eqb tag 6

unfoldable pub job_rows : List Field → List Row
job_rows fields = map row_of (chosen is_row fields)

-- the number of coefficients of all rows
unfoldable pub coefficient_count : List Row → ℕ
coefficient_count [] = 0
coefficient_count (r ∷ rows) = length r.coefficients + coefficient_count rows

-- the tag of the last field, or the tag given where there is none
unfoldable pub last_tag_from : ℕ → List Field → ℕ
last_tag_from tag [] = tag
last_tag_from tag (f ∷ fields) = last_tag_from f.tag fields

-- 0 before the first field
unfoldable pub last_tag : List Field → ℕ
last_tag fields = last_tag_from 0 fields
