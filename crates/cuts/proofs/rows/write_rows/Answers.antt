-- `write_rows` meets its contract: the loop's invariant is `RowsWritten`.
use mathlib.Core.Path.{◌≡◌, sym, ◌∙◌}
use Prim.Native.Nat.{◌+◌, ◌≤◌, ◌<◌}
use native.Mathlib.Omega.{arith}
use lib.ListN.{length, length-drop}
use Rattle.fields.specs.Parts.{job_rows, coefficient_count}
use Rattle.fields.specs.Record.{row_in, RowFound}
use Rattle.jobs.specs.Job.{fields_in}
use Rattle.jobs.proofs.Taken.{parts_are, standing}
use Rattle.jobs.proofs.Judged.{rows_accepted}
use Rattle.cuts.proofs.Writing.{row_bytes, written_start, row_count_end, written_put, same_lengths, written_end}
use Rattle.cuts.proofs.rows.write_rows.Goals.{After-next_row-row}
use Rattle.cuts.proofs.rows.write_rows.Goals as goal

more : (c : After-next_row-row) → c.loop-k.k < length (job_rows (fields_in c.args.job.bytes.now))
more c = omega (arith, (parts_are c.args.job).rows_count, c.loop-k-test.true)

found : (c : After-next_row-row) → RowFound (fields_in c.args.job.bytes.now) c.loop-k.k c.next_row-row.result
found c = c.next_row-row.ensures.found _ _ c.loop-k.invariant.left (more c)

-- there is a place for each coefficient and for each scale
coefficients_fit : (c : After-next_row-row) → coefficient_count (job_rows (fields_in c.args.job.bytes.now)) ≤ length c.args.images.now
coefficients_fit c = omega (arith, c.requires.1, (parts_are c.args.job).coefficients_count, c.told-images)

rows_fit : (c : After-next_row-row) → length (job_rows (fields_in c.args.job.bytes.now)) ≤ length c.args.scales.now
rows_fit c = omega (arith, c.requires.0, (parts_are c.args.job).rows_count, c.told-scales)

within : (c : After-next_row-row) → c.loop-k.place + length (row_in c.next_row-row.result).coefficients ≤ coefficient_count (job_rows (fields_in c.args.job.bytes.now))
within c = row_count_end _ _ _ _ _ _ _ _ _ c.loop-k.invariant (more c) _ (found c)

long : (c : After-next_row-row) → length c.loop-k.images ≡ 2048
long c = (same_lengths _ _ _ _ _ _ _ _ _ c.loop-k.invariant (coefficients_fit c) (rows_fit c) (omega (arith, more c))).0 ∙ c.told-images

pub loop-k-init : goal.loop-k-init
loop-k-init c = written_start _ _ _ _ _ (standing c.args.job)

pub offset_bounds-images-place : goal.offset_bounds-images-place
offset_bounds-images-place c =
    let at = (goal.at.offset_bounds-images-place c).After-next_row-row in
    omega (arith, within at, coefficients_fit at, c.told-images)

pub slice_bounds-write_row-count : goal.slice_bounds-write_row-count
slice_bounds-write_row-count c =
    let at = (goal.at.slice_bounds-write_row-count c).After-next_row-row in
    omega (arith, within at, coefficients_fit at, c.told-images)

pub slice_bounds-write_row-start : goal.slice_bounds-write_row-start
slice_bounds-write_row-start c =
    let at = (goal.at.slice_bounds-write_row-start c).After-next_row-row in
    omega (arith, within at, coefficients_fit at, c.told-images)

pub write_row-requires : goal.write_row-requires
write_row-requires c =
    let at = (goal.at.write_row-requires c).After-next_row-row in
    let h = parts_are c.args.job in (
      c.next_row-row.ensures.whole,
      rw (sym h.steps_are, (found at).row_is) at (rows_accepted _ _ 0 c.requires.2 c.loop-k.k (more at)),
      omega (arith, within at, coefficients_fit at, c.told-images, long at, length-drop c.loop-k.place c.loop-k.images),
    )

pub overflow_add-place : goal.overflow_add-place
overflow_add-place c =
    let at = (goal.at.overflow_add-place c).After-next_row-row in
    omega (arith, within at, row_bytes c.next_row-row.result c.next_row-row.ensures.whole, coefficients_fit at, c.told-images)

pub loop-k-preserved : goal.loop-k-preserved
loop-k-preserved c =
    let at = (goal.at.loop-k-preserved c).After-next_row-row in
    let wrote = rw (parts_are c.args.job).steps_are at c.write_row.ensures in
    rw (sym (row_bytes c.next_row-row.result c.next_row-row.ensures.whole))
    (written_put _ _ _ _ _ _ _ _ _ c.loop-k.invariant (more at) _ (found at) 2048 _ _ (long at) (rows_fit at) (coefficients_fit at) wrote.2 wrote.0)

pub returns : goal.returns
returns c =
    let done = written_end _ _ _ _ _ _ _ _ _ c.loop-k.invariant (omega (arith, (parts_are c.args.job).rows_count, c.loop-k-test.false)) in
    record { images = done.0; scales = done.1 }
