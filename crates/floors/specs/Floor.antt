-- The floor operation, document 01, "Operations and what they refuse", and document 02, requests 4, 6 and 9: the answer to a floor job, what the lent
-- buffers hold afterwards, and what is promised of both.
use Rattle.std.specs.Prelude.{cond, ◌≡◌, List, [], map, ℕ, ◌≤◌, ◌<◌, length, get_or, take}
use Rattle.functions.specs.Words.{total, weighted}
use Rattle.fields.specs.Bytes.{words}
use Rattle.fields.specs.Parts.{Field, job_kind, job_capacity, job_sizes, job_counts, block_numbers, job_steps}
use Rattle.fields.specs.Grammar.{floor_kind}
use Rattle.fields.specs.Record.{steps_in}
use Rattle.fields.specs.declared.JobParts.{JobParts}
use Rattle.chains.specs.Chain.{chain_image, chain_scale, chain_floor}
use Rattle.chains.specs.Apply.{ChainApplied}
use Rattle.chains.specs.Judge.{Judgement, StepOvershoots, list_by}
use Rattle.blocks.specs.Block.{Block, divide, block_floor}
use Rattle.jobs.specs.Packing.{FloorSafe, TotalSafe}
use Rattle.jobs.specs.Job.{is_divided, judge_parts, written, answer_by, written_by}
use Rattle.floors.specs.declared.FloorAnswer.{FloorAnswer}

-- the images of the sizes through all steps, and the lower bound on bins of the whole list
unfoldable pub floor_images : List Field → List ℕ
floor_images fields = map (chain_image (job_capacity fields) (job_steps fields)) (job_sizes fields)

unfoldable pub job_floor : List Field → ℕ
job_floor fields = chain_floor (job_capacity fields) (job_steps fields) (job_counts fields) (job_sizes fields)

-- the blocks of a divided list, and the lower bound of each
unfoldable pub job_blocks : List Field → List Block
job_blocks fields = cond (is_divided fields) (divide (block_numbers fields) (job_counts fields) (job_sizes fields)) []

unfoldable pub job_block_floors : List Field → List ℕ
job_block_floors fields = map (block_floor (job_capacity fields) (job_steps fields)) (job_blocks fields)

-- the total over blocks, which without blocks is the floor of the whole list
unfoldable pub job_total : List Field → ℕ
job_total fields = cond (is_divided fields) (total (job_block_floors fields)) (job_floor fields)

-- the answer to a job that is accepted, and to one that is refused
unfoldable pub accepted_floor : List Field → FloorAnswer
accepted_floor fields =
    record {
      number = 0;
      n = length (job_sizes fields);
      floor = job_floor fields;
      sum = weighted (job_counts fields) (floor_images fields);
      scale = chain_scale (job_capacity fields) (job_steps fields);
      step = 0;
      length = 0;
      row = 0;
      total = job_total fields;
    }

unfoldable pub refused_floor : Judgement → FloorAnswer
refused_floor r = record { number = r.number; n = 0; floor = 0; sum = 0; scale = 0; step = r.step; length = length r.list; row = 0; total = 0 }

-- an accepted floor job, and one with its images
pub record FloorAccepted (fields : List Field) : Type 0 where
  pub accepted : (judge_parts fields).number ≡ 0
  pub is_floor : job_kind fields ≡ floor_kind

pub record FloorReady (fields : List Field) (parts : JobParts) (scale : ℕ) (images : List ℕ) : Type 0 where
  pub job_accepted : FloorAccepted fields
  pub applied : ChainApplied parts.capacity (steps_in parts.steps) (words parts.sizes.now) scale images

-- an accepted job finished: the answer, and the buffers of images and of block floors
pub record FloorFinished (fields : List Field) (images blocks : List ℕ) (answer : FloorAnswer) (images' blocks' : List ℕ) : Type 0 where
  pub answer_is : answer ≡ accepted_floor fields
  pub images_are : images' ≡ written (floor_images fields) images
  pub blocks_are : blocks' ≡ written (job_block_floors fields) blocks

abbrev pub no_block : Block
no_block = record { counts = []; sizes = [] }

-- P4 of floors: what an accepted job answers is safe for the copies of its own list and of each of its blocks. `blocks` is the buffer afterwards
pub record FloorsSafe (fields : List Field) (answer : FloorAnswer) (blocks : List ℕ) : Type 0 where
  pub floor_is_safe : FloorSafe (job_capacity fields) (job_counts fields) (job_sizes fields) answer.floor
  pub floor_within_total : answer.floor ≤ answer.total
  pub total_is_safe : TotalSafe (job_capacity fields) (block_numbers fields) (job_counts fields) (job_sizes fields) answer.total
  pub every_block_is_safe : (i : ℕ) → i < length (job_blocks fields) → FloorSafe (job_capacity fields) (get_or (job_blocks fields) i no_block).counts (get_or (job_blocks fields) i no_block).sizes (get_or blocks i 0)

-- the whole operation, by what judges the job: its answer, and every place of the buffers that it is lent, `images` and so on before and `images'` and so on
-- afterwards; of the working buffer the length alone
pub record FloorAnswered (fields : List Field) (r : Judgement) (images working list blocks : List ℕ) (answer : FloorAnswer) (images' working' list' blocks' : List ℕ) : Type 0 where
  pub answer_is : answer ≡ answer_by r (accepted_floor fields) (refused_floor r)
  pub images_are : images' ≡ written_by r (floor_images fields) images
  pub list_is : list' ≡ list_by r list
  pub blocks_are : blocks' ≡ written_by r (job_block_floors fields) blocks
  pub working_long : length working' ≡ length working
  pub overshoots : answer.number ≡ 11 → StepOvershoots (job_capacity fields) (job_steps fields) answer.step (take answer.length list')
  pub safe : answer.number ≡ 0 → FloorsSafe fields answer blocks'
