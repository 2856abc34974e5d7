-- What the hand-over program prints for a job, document 01, "The hand-over program", and document 02, requests 1, 6 and 9, in ASCII.
use Rattle.std.specs.Prelude.{Bool, cond, List, [], ◌∷◌, ◌++◌, ℕ, zero, suc, ◌+◌, ◌-◌, ◌/◌, ◌%◌, ltb, eqb, get_or}
use Rattle.tables.specs.Check.{most_entries}
use Rattle.fields.specs.Parts.{Field, Step, Row, job_kind, job_steps, job_rows}
use Rattle.fields.specs.Grammar.{most_sizes, rows_kind}
use Rattle.chains.specs.Judge.{Judgement}
use Rattle.jobs.specs.Kinds.{takes}
use Rattle.jobs.specs.declared.kind.Operation.{Operation}
use Rattle.jobs.specs.declared.kind.Operation.TheVariants.{Floors, Cuts}
use Rattle.jobs.specs.Job.{fields_in, is_divided, judge_job, own_places}
use Rattle.floors.specs.Floor.{floor_images, job_block_floors, accepted_floor}
use Rattle.floors.specs.declared.FloorAnswer.{FloorAnswer}
use Rattle.cuts.specs.Cut.{row_images, row_scale, one_row}

-- the decimal digits of a number below 10 ^ k, without leading zeros
unfoldable pub digits : ℕ → ℕ → List ℕ
digits zero n = []
digits (suc k) n = cond (ltb n 10) ((48 + n) ∷ []) (digits k (n / 10) ++ ((48 + n % 10) ∷ []))

-- the most digits of a number of 64 bits
abbrev pub most_digits : ℕ
most_digits = 20

-- n is below 10 ^ (n + 1)
unfoldable pub decimal : ℕ → List ℕ
decimal n = digits (suc n) n

-- one space before each value
unfoldable pub values_text : List ℕ → List ℕ
values_text [] = []
values_text (v ∷ values) = (32 ∷ decimal v) ++ values_text values

-- a word, values, and the line's end
unfoldable pub line : List ℕ → List ℕ → List ℕ
line word values = word ++ (values_text values ++ (10 ∷ []))

-- floor, sum, scale, images, blocks, refused, list
abbrev pub floor_word : List ℕ
floor_word = 102 ∷ 108 ∷ 111 ∷ 111 ∷ 114 ∷ []

abbrev pub sum_word : List ℕ
sum_word = 115 ∷ 117 ∷ 109 ∷ []

abbrev pub scale_word : List ℕ
scale_word = 115 ∷ 99 ∷ 97 ∷ 108 ∷ 101 ∷ []

abbrev pub images_word : List ℕ
images_word = 105 ∷ 109 ∷ 97 ∷ 103 ∷ 101 ∷ 115 ∷ []

abbrev pub blocks_word : List ℕ
blocks_word = 98 ∷ 108 ∷ 111 ∷ 99 ∷ 107 ∷ 115 ∷ []

abbrev pub refused_word : List ℕ
refused_word = 114 ∷ 101 ∷ 102 ∷ 117 ∷ 115 ∷ 101 ∷ 100 ∷ []

abbrev pub list_word : List ℕ
list_word = 108 ∷ 105 ∷ 115 ∷ 116 ∷ []

-- one cut
unfoldable pub cut_text : ℕ → List ℕ → List ℕ
cut_text scale images = line scale_word (scale ∷ []) ++ line images_word images

unfoldable pub row_text : List Step → Row → List ℕ
row_text steps r = cut_text (row_scale steps r) (row_images steps r)

-- a cut for each row
unfoldable pub rows_text : List Step → List Row → List ℕ
rows_text steps [] = []
rows_text steps (r ∷ rows) = row_text steps r ++ rows_text steps rows

unfoldable pub floor_text : FloorAnswer → List ℕ → List ℕ
floor_text answer images = line floor_word (answer.floor ∷ []) ++ (line sum_word (answer.sum ∷ []) ++ cut_text answer.scale images)

-- the floors of the blocks of a list that is divided
unfoldable pub blocks_text : Bool → List ℕ → List ℕ
blocks_text divided floors = cond divided (line blocks_word floors) []

-- a job that the operation accepts: a floor, or the cut of one row or of each of many
unfoldable pub accepted_text : Operation → List Field → List ℕ
accepted_text Floors fields =
    floor_text (accepted_floor fields) (floor_images fields)
    ++ blocks_text (is_divided fields) (job_block_floors fields)
accepted_text Cuts fields =
    cond (eqb (job_kind fields) rows_kind)
    (rows_text (job_steps fields) (job_rows fields))
    (row_text (job_steps fields) (one_row fields))

-- the row is printed where the fourth byte is the kind of rows
unfoldable pub row_values : ℕ → ℕ → List ℕ
row_values fourth row = cond (eqb fourth rows_kind) (row ∷ []) []

-- number, row and step, and for 11 the list
unfoldable pub refused_text : ℕ → Judgement → List ℕ
refused_text fourth r =
    line refused_word (r.number ∷ (row_values fourth r.row ++ (r.step ∷ [])))
    ++ cond (eqb r.number 11) (line list_word r.list) []

-- no text has more bytes: 64 rows with 2,048 images of ten digits
abbrev pub most_text : ℕ
most_text = 24_064

-- the fourth byte of a job, 0 where it is shorter
unfoldable pub fourth_byte : List ℕ → ℕ
fourth_byte job = get_or job 3 0

-- the operation that is called for a job: that of cuts if the fourth byte is 2 or 3, else that of floors
unfoldable pub operation_of : List ℕ → Operation
operation_of job = cond (takes Cuts (fourth_byte job)) Cuts Floors

-- what refuses a job, with lent buffers of the least lengths that 7 lets pass
unfoldable pub handed_over : List ℕ → Judgement
handed_over job = judge_job (operation_of job) job (record { images = most_sizes; working = most_entries; list = most_entries - 1; own = own_places (operation_of job) })

-- all that is printed for a job
unfoldable pub hand_over_text : List ℕ → List ℕ
hand_over_text job =
    cond (eqb (handed_over job).number 0)
    (accepted_text (operation_of job) (fields_in job))
    (refused_text (fourth_byte job) (handed_over job))
