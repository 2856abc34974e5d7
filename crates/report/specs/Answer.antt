-- What the functions that print an answer ask and leave.
use Rattle.std.specs.Prelude.{◌≡◌, List, ◌++◌, map, ℕ, ◌≤◌, length, take}
use Rattle.tables.specs.Check.{most_entries}
use Rattle.fields.specs.Parts.{job_kind, job_steps, job_rows, coefficient_count}
use Rattle.fields.specs.Grammar.{most_sizes, most_rows, most_blocks, floor_kind, rows_kind}
use Rattle.fields.specs.Reading.{complete, job_fields}
use Rattle.jobs.specs.Job.{fields_in, is_divided}
use Rattle.floors.specs.Floor.{job_block_floors}
use Rattle.floors.specs.declared.FloorAnswer.{FloorAnswer}
use Rattle.cuts.specs.Cut.{row_scale, rows_images}
use Rattle.cuts.specs.declared.CutAnswer.{CutAnswer}
use Rattle.report.specs.Put.{Put}
use Rattle.report.specs.Text.{cut_text, rows_text, floor_text, blocks_text, refused_text, fourth_byte, hand_over_text, most_text}

-- the buffers hold the images and scales of the job's rows, and something behind them
pub record RowsHeld (job images scales : List ℕ) : Type 0 where
  pub is_complete : job_fields job ≡ complete (fields_in job)
  pub rows_most : length (job_rows (fields_in job)) ≤ most_rows
  pub coefficients_most : coefficient_count (job_rows (fields_in job)) ≤ most_sizes
  pub more_images : List ℕ
  pub more_scales : List ℕ
  pub images_held : images ≡ rows_images (job_steps (fields_in job)) (job_rows (fields_in job)) ++ more_images
  pub scales_held : scales ≡ map (row_scale (job_steps (fields_in job))) (job_rows (fields_in job)) ++ more_scales

-- the buffer holds the floors of a floor job's blocks, and something behind them
pub record BlocksHeld (job blocks : List ℕ) : Type 0 where
  pub is_complete : job_fields job ≡ complete (fields_in job)
  pub is_floor : job_kind (fields_in job) ≡ floor_kind
  pub more_floors : List ℕ
  pub floors_held : blocks ≡ job_block_floors (fields_in job) ++ more_floors

-- what an answer tells of a refusal is what is printed, with n numbers of the list buffer
pub record Told (job : List ℕ) (number row step n : ℕ) (list : List ℕ) : Type 0 where
  pub list_there : n ≤ length list
  pub list_most : length list ≤ most_entries
  pub text_refused : (number ≡ 0 → ⊥) → hand_over_text job ≡ refused_text (fourth_byte job) (record { number = number; row = row; step = step; list = take n list })

-- what each operation leaves: what is printed of its answer stands in the buffers
pub record FloorLeft (job : List ℕ) (answer : FloorAnswer) (images list blocks : List ℕ) : Type 0 where
  pub told : Told job answer.number answer.row answer.step answer.length list
  pub images_there : answer.n ≤ length images
  pub images_most : length images ≤ most_sizes
  pub blocks_most : length blocks ≤ most_blocks
  pub text_accepted : answer.number ≡ 0 → hand_over_text job ≡ floor_text answer (take answer.n images) ++ blocks_text (is_divided (fields_in job)) (job_block_floors (fields_in job))
  pub blocks_held : answer.number ≡ 0 → BlocksHeld job blocks

pub record CutLeft (job : List ℕ) (answer : CutAnswer) (images list scales : List ℕ) : Type 0 where
  pub told : Told job answer.number answer.row answer.step answer.length list
  pub images_there : answer.n ≤ length images
  pub images_most : length images ≤ most_sizes
  pub text_of_one : answer.number ≡ 0 → (fourth_byte job ≡ rows_kind → ⊥) → hand_over_text job ≡ cut_text answer.scale (take answer.n images)
  pub text_of_rows : answer.number ≡ 0 → fourth_byte job ≡ rows_kind → hand_over_text job ≡ rows_text (job_steps (fields_in job)) (job_rows (fields_in job))
  pub rows_held : answer.number ≡ 0 → fourth_byte job ≡ rows_kind → RowsHeld job images scales

-- a text put into a buffer from its start on, and how long it may be
pub record TextPut (old text now : List ℕ) (next : ℕ) : Type 0 where
  pub put : Put old 0 text now next
  pub short : length text ≤ most_text
