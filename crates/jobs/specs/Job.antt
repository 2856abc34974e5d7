-- What the operations on jobs refuse, document 01, "Operations and what they refuse", and document 02, requests 1, 4, 6 and 9, and how each answers and
-- leaves its buffers by it.
use Rattle.std.specs.Prelude.{Bool, cond, not, ◌&&◌, ◌||◌, List, ◌++◌, ℕ, ◌-◌, ltb, eqb, length, get_or, drop}
use Rattle.tables.specs.Check.{most_entries}
use Rattle.fields.specs.Parts.{Field, job_kind, job_capacity, job_sizes, job_counts, block_numbers, blocks_there, job_steps, job_rows, coefficient_count}
use Rattle.fields.specs.Grammar.{most_bytes, most_sizes, most_rows, most_blocks, floor_kind, rows_kind}
use Rattle.fields.specs.Reading.{Fields, refused, complete, job_fields, fields_of}
use Rattle.fields.specs.Record.{no_row}
use Rattle.blocks.specs.Block.{blocks_fit}
use Rattle.jobs.specs.Kinds.{takes, least_of, rows_fit}
use Rattle.jobs.specs.declared.kind.Operation.{Operation}
use Rattle.jobs.specs.declared.kind.Operation.TheVariants.{Floors, Cuts}
use Rattle.chains.specs.Judge.{Judgement, plain, judge_list}
use Rattle.jobs.specs.JudgeRows.{judge_rows}

-- the fields of a job
abbrev pub fields_in : List ℕ → List Field
fields_in job = fields_of (job_fields job)

-- a floor job with a field of blocks, and whether they divide its list, or there are none
unfoldable pub is_divided : List Field → Bool
is_divided fields = eqb (job_kind fields) floor_kind && blocks_there fields

unfoldable pub blocks_right : List Field → Bool
blocks_right fields = not (is_divided fields) || blocks_fit (block_numbers fields) (length (job_sizes fields))

-- capacity, sizes, counts, blocks and steps, or the number of rows and each of them
unfoldable pub judge_parts : List Field → Judgement
judge_parts fields =
    cond (eqb (job_kind fields) rows_kind)
    (cond (not (rows_fit (length (job_rows fields)) (coefficient_count (job_rows fields)))) (plain 21)
    (judge_rows 0 (job_steps fields) (job_rows fields)))
    (judge_list (least_of (job_kind fields)) (job_capacity fields) (job_sizes fields) (job_counts fields) (blocks_right fields) (job_steps fields))

-- the kind, and then the parts
unfoldable pub judge_fields : Operation → List Field → Judgement
judge_fields asked fields = cond (takes asked (job_kind fields)) (judge_parts fields) (plain 16)

unfoldable pub judge_reading : Operation → Fields → Judgement
judge_reading asked (refused number) = plain number
judge_reading asked (complete fields) = judge_fields asked fields

-- how many places the lent buffers have: `own` is the operation's own, of block floors or of scales
pub record Places : Type 0 where
  pub images : ℕ
  pub working : ℕ
  pub list : ℕ
  pub own : ℕ

abbrev pub places_of : List ℕ → List ℕ → List ℕ → List ℕ → Places
places_of images working list own = record { images = length images; working = length working; list = length list; own = length own }

abbrev pub own_places : Operation → ℕ
own_places Floors = most_blocks
own_places Cuts = most_rows

-- refusals 12 and 7, by the bytes of the job
unfoldable pub buffer_refusal : Operation → ℕ → Places → ℕ
buffer_refusal asked bytes lent =
    cond (ltb most_bytes bytes) 12
    (cond (ltb lent.images most_sizes || ltb lent.working most_entries || ltb lent.list (most_entries - 1) || ltb lent.own (own_places asked)) 7 0)

-- the whole job, by its bytes and the buffers that are lent
unfoldable pub judge_job : Operation → List ℕ → Places → Judgement
judge_job asked job lent =
    cond (eqb (buffer_refusal asked (length job) lent) 0)
    (judge_reading asked (job_fields job))
    (plain (buffer_refusal asked (length job) lent))

-- values in the first places of a buffer
unfoldable pub written : List ℕ → List ℕ → List ℕ
written values buffer = values ++ drop (length values) buffer

-- what is answered where `r` accepts a job or refuses it, and a buffer afterwards, in which values are written unless the job is refused
unfoldable pub answer_by : {A : Type 0} → Judgement → A → A → A
answer_by r pass stop = cond (eqb r.number 0) pass stop

unfoldable pub written_by : Judgement → List ℕ → List ℕ → List ℕ
written_by r values buffer = cond (eqb r.number 0) (written values buffer) buffer

-- the capacity that a job's chain starts from: in rows the right side of the one at a place, counted from 1
unfoldable pub start_capacity : List Field → ℕ → ℕ
start_capacity fields row = cond (eqb (job_kind fields) rows_kind) (get_or (job_rows fields) (row - 1) no_row).right_side (job_capacity fields)
