-- A row of an accepted job in the buffers: its scale, and its images at the start of what is left behind those of the rows before.
use mathlib.Core.Path.{◌≡◌, ap, sym, ◌∙◌}
use mathlib.Core.List.{List, ◌++◌}
use Prim.Native.Nat.{ℕ, suc, ◌≤◌, ◌<◌}
use native.Mathlib.Omega.{arith}
use lib.ListN.{length, get_or, take, drop, length-append}
use lib.Seq.{take_at, drop-drop}
use Rattle.fields.specs.Parts.{Step, Row, job_steps, job_rows, coefficient_count}
use Rattle.fields.specs.Record.{no_row}
use Rattle.jobs.specs.Job.{fields_in}
use Rattle.jobs.proofs.Answering.{value_at}
use Rattle.cuts.specs.Cut.{row_images, row_scale, rows_images}
use Rattle.cuts.proofs.Writing.{row_count, images_at, counts_next}
use Rattle.report.specs.Answer.{RowsHeld}

module _ (job images scales : List ℕ) (h : RowsHeld job images scales) where
  abbrev S : List Step
  S = job_steps (fields_in job)

  abbrev rows : List Row
  rows = job_rows (fields_in job)

  module _ (k : ℕ) (l : k < length rows) where
    abbrev row : Row
    row = get_or rows k no_row

    pub scale_held : get_or scales k 0 ≡ row_scale S row
    scale_held = ap (λ (s : List ℕ). get_or s k 0) h.scales_held ∙ value_at (row_scale S) no_row rows k h.more_scales l

    module _ (left : List ℕ) (left_is : left ≡ drop (coefficient_count (take k rows)) images) (n : ℕ) (long : n ≡ length row.coefficients) where
      count : length (row_images S row) ≡ n
      count = row_count S row ∙ sym long

      first : left ≡ row_images S row ++ (rows_images S (drop (suc k) rows) ++ h.more_images)
      first = left_is ∙ ap (drop (coefficient_count (take k rows))) h.images_held ∙ images_at S rows k h.more_images l

      pub images_there : n ≤ length left
      images_there = omega (arith, count, ap length first, length-append (row_images S row) (rows_images S (drop (suc k) rows) ++ h.more_images))

      pub images_held : take n left ≡ row_images S row
      images_held = rw first (take_at (row_images S row) _ n count)

      pub images_behind : drop n left ≡ drop (coefficient_count (take (suc k) rows)) images
      images_behind = rw (left_is, counts_next rows k l, long) (drop-drop _ _ images)
