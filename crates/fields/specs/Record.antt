-- What the record of a job that was read stands for: the parts of the job.
use Rattle.std.specs.Prelude.{◌≡◌, true, false, Option, None, Some, Result, Ok, Err, List, [], ◌∷◌, ◌++◌, map, ◌⊎◌, ℕ, suc, ◌+◌, ◌*◌, ◌/◌, ◌%◌, ◌^◌, ◌≤◌, ◌<◌, length, get_or, take, drop}
use denote.Bor.{Bor}
use Rattle.refusals.specs.declared.Refusal.{Refusal}
use Rattle.refusals.specs.Number.{number_of}
use Rattle.fields.specs.Bytes.{words, field_within, field_rest}
use Rattle.fields.specs.Parts.{Field, field_of, value_of, Step, on_family, on_table, Row, row_of, is_row, job_kind, job_capacity, job_sizes, blocks_there, job_steps, job_rows, coefficient_count}
use Rattle.fields.specs.Grammar.{most_sizes, most_steps, length_right}
use Rattle.fields.specs.Reading.{first_field, refused, complete, job_fields, fields_of}
use Rattle.fields.specs.declared.tag.Tag.{Tag}
use Rattle.fields.specs.Tags.{tag_number}
use Rattle.fields.specs.declared.Header.{Header}
use Rattle.fields.specs.declared.steps.StepFunction.{StepFunction}
use Rattle.fields.specs.declared.steps.StepFunction.TheVariants.{Family, Table}
use Rattle.fields.specs.declared.steps.JobStep.{JobStep}
use Rattle.fields.specs.declared.steps.JobSteps.{JobSteps}
use Rattle.fields.specs.declared.JobParts.{JobParts}
use Rattle.fields.specs.declared.JobRow.{JobRow}

-- a field that is accepted has a header, with its tag
abbrev pub TagOf : Option Header → Result Tag Refusal → Type 0
TagOf header (Ok tag) = (h : Header) × (header ≡ Some h) × (tag_number tag ≡ h.tag)
TagOf header (Err refusal) = Unit {0}

unfoldable pub function_in : StepFunction → Step
function_in (Family family p q) = on_family family p q
function_in (Table entries) = on_table (words entries.now)

abbrev pub step_in : JobStep → Step
step_in s = function_in s.function

unfoldable pub steps_in : JobSteps → List Step
steps_in steps = map step_in (take steps.count steps.items)

-- the bytes of the numbers of blocks, where there is a field of them
abbrev pub BlocksOf : List Field → Option (Bor (List ℕ)) → Type 0
BlocksOf fields None = (value_of 8 fields ≡ []) × (blocks_there fields ≡ false)
BlocksOf fields (Some bytes) = (bytes.now ≡ value_of 8 fields) × (length bytes.now % 2 ≡ 0) × (blocks_there fields ≡ true)

-- the record has the parts of these fields
pub record PartsOf (fields : List Field) (parts : JobParts) : Type 0 where
  pub kind_is : parts.kind ≡ job_kind fields
  pub capacity_is : parts.capacity ≡ job_capacity fields
  pub sizes_are : words parts.sizes.now ≡ job_sizes fields
  pub sizes_whole : length parts.sizes.now % 4 ≡ 0
  pub sizes_most : length parts.sizes.now ≤ 4 * most_sizes
  pub counts_given : parts.counts.now ≡ value_of 7 fields
  pub none_or_each : (length parts.counts.now ≡ 0) ⊎ (2 * length parts.counts.now ≡ length parts.sizes.now)
  pub blocks_are : BlocksOf fields parts.blocks
  pub steps_are : steps_in parts.steps ≡ job_steps fields
  pub rows_count : parts.rows ≡ length (job_rows fields)
  pub coefficients_count : parts.coefficients ≡ coefficient_count (job_rows fields)

-- a field that may follow these fields
pub record NextField (fields : List Field) (tag : ℕ) (value : List ℕ) : Type 0 where
  pub right_length : length_right (length (job_sizes fields)) tag (length value) ≡ true
  pub known : tag ≤ 8
  pub new : (tag < 4) ⊎ (7 ≤ tag) → value_of tag (fields ++ (field_of tag value ∷ [])) ≡ value
  pub uncounted : tag ≡ 3 → value_of 7 fields ≡ []

-- what filling the record with a field asks: a tag with a right length, a place where it is a step, and counts that do not wrap
pub record Fillable (parts : JobParts) (tag n : ℕ) : Type 0 where
  pub right_length : length_right (length parts.sizes.now / 4) tag n ≡ true
  pub room : (tag ≡ 4) ⊎ (tag ≡ 5) → parts.steps.count < most_steps
  pub countable : parts.rows + parts.coefficients + n < 2 ^ 64

-- the record with the field: it has the parts of these fields, and then of these and the field
abbrev pub Filled : JobParts → ℕ → List ℕ → JobParts → Type 0
Filled parts tag value next =
    (fields : List Field) → PartsOf fields parts → NextField fields tag value → PartsOf (fields ++ (field_of tag value ∷ [])) next

-- the first field of a rest of the job, behind so many sizes
pub record FieldAt (rest : List ℕ) (f : Field) : Type 0 where
  pub sizes : ℕ
  pub within : field_within rest ≡ true
  pub is_first : f ≡ first_field rest
  pub right_length : length_right sizes f.tag (length f.value) ≡ true

-- fields one behind the other in a rest of the job, and what is behind them
unfoldable pub Stand : List ℕ → List Field → List ℕ → Type 0
Stand rest [] behind = rest ≡ behind
Stand rest (f ∷ fields) behind = FieldAt rest f × Stand (field_rest rest) fields behind

-- the rows behind the first k of these fields are those of the fields of a rest
pub record RowsLeft (fields : List Field) (k : ℕ) (rest : List ℕ) : Type 0 where
  pub left : List Field
  pub stand : Stand rest left []
  pub rows_left : job_rows left ≡ drop k (job_rows fields)

-- there is a row in a rest of the job
pub record RowAhead (rest : List ℕ) : Type 0 where
  pub fields : List Field
  pub k : ℕ
  pub there : RowsLeft fields k rest
  pub more : k < length (job_rows fields)

abbrev pub no_row : Row
no_row = record { right_side = 0; coefficients = [] }

unfoldable pub row_in : JobRow → Row
row_in r = record { right_side = r.capacity; coefficients = words r.coefficients.now }

-- the first field of a rest is a row, and it was read
pub record RowHere (rest : List ℕ) : Type 0 where
  pub field : Field
  pub there : FieldAt rest field
  pub tag_is_row : is_row field.tag ≡ true

pub record RowRead (rest : List ℕ) (r : JobRow) : Type 0 where
  pub row_is : row_in r ≡ row_of (first_field rest)
  pub rest_is : r.rest.now ≡ field_rest rest
  pub whole : length r.coefficients.now % 4 ≡ 0
  pub small : r.capacity < 2 ^ 32

-- row k of the fields, and the rows behind it
pub record RowFound (fields : List Field) (k : ℕ) (r : JobRow) : Type 0 where
  pub row_is : get_or (job_rows fields) k no_row ≡ row_in r
  pub behind : RowsLeft fields (suc k) r.rest.now

-- whichever fields stand in a rest, the row is their first
pub record RowsFound (rest : List ℕ) (r : JobRow) : Type 0 where
  pub found : (fields : List Field) (k : ℕ) → RowsLeft fields k rest → k < length (job_rows fields) → RowFound fields k r
  pub whole : length r.coefficients.now % 4 ≡ 0
  pub small : r.capacity < 2 ^ 32

-- a job that is complete: the parts of its fields, and where they stand
pub record JobRead (job : List ℕ) (parts : JobParts) : Type 0 where
  pub complete_as : job_fields job ≡ complete (fields_of (job_fields job))
  pub parts_are : PartsOf (fields_of (job_fields job)) parts
  pub stand : Stand job (fields_of (job_fields job)) []

-- what refuses a field, or the parts of all fields
abbrev pub JobReading : List ℕ → Result JobParts Refusal → Type 0
JobReading job (Ok parts) = JobRead job parts
JobReading job (Err refusal) = job_fields job ≡ refused (number_of refusal)
