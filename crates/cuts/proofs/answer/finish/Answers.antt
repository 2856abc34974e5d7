-- `finish` meets its contract: the rows, or one row.
use mathlib.Core.Path.{◌≡◌, refl, sym, ◌∙◌}
use Prim.Native.Nat.{◌/◌, ◌≤◌}
use native.Mathlib.Omega.{arith}
use lib.ListN.{length}
use lib.Seq.{length-take-le}
use Rattle.fields.specs.Parts.{job_kind}
use Rattle.fields.specs.Grammar.{rows_kind}
use Rattle.jobs.specs.Job.{fields_in}
use Rattle.jobs.proofs.KindNumbers.{no_rows}
use Rattle.jobs.proofs.Taken.{parts_are}
use Rattle.cuts.proofs.Finishing.{none_counted, appliable, row_finished, all_accepted, rows_bounds, rows_finished}
use Rattle.cuts.proofs.answer.finish.Goals.{In-Floor}
use Rattle.cuts.proofs.answer.finish.Goals as goal

one : (c : In-Floor) → job_kind (fields_in c.args.job.bytes.now) ≡ rows_kind → ⊥
one c many = no_rows _ c.in-Floor.is (c.args.job.kind_is ∙ (parts_are c.args.job).kind_is ∙ many)

-- a place for each coefficient
places : (c : In-Floor) → length c.args.job.parts.sizes.now / 4 ≤ length c.args.images.now
places c = omega (arith, (parts_are c.args.job).sizes_most, c.told-images)

pub write_rows-requires : goal.write_rows-requires
write_rows-requires c =
    let h = parts_are c.args.job in
    let many = sym (rw c.in-Rows.is at c.args.job.kind_is ∙ h.kind_is) in
    let bounds = rows_bounds _ c.requires many in
    (omega (arith, bounds.0, h.rows_count), omega (arith, bounds.1, h.coefficients_count), all_accepted _ c.requires many)

pub slice_bounds-images-end : goal.slice_bounds-images-end
slice_bounds-images-end c = omega (arith, places c, c.told-images)

pub map_list-scale-requires : goal.map_list-scale-requires
map_list-scale-requires c =
    let at = (goal.at.map_list-scale-requires c).In-Floor in
    let h = parts_are c.args.job in (
      appliable _ c.requires (one at) _ h,
      omega (arith, h.sizes_whole, length-take-le _ _ (places at)),
    )

pub returns-in-Rows-clause-finished : goal.returns-in-Rows-clause-finished
returns-in-Rows-clause-finished c =
    let h = parts_are c.args.job in
    let many = sym (rw c.in-Rows.is at c.args.job.kind_is ∙ h.kind_is) in
    rows_finished _ c.requires many _ _ _ _ _ (rw (← h.coefficients_count, none_counted c.default.result c.default.ensures) refl) c.write_rows.ensures.images c.write_rows.ensures.scales

pub returns-in-Floor : goal.returns-in-Floor
returns-in-Floor c =
    let at = (goal.at.returns-in-Floor c).In-Floor in
    let h = parts_are c.args.job in
    record {
      finished = row_finished _ c.requires (one at) _ h _ _ _ _ _ (rw (none_counted c.default-in-Floor.result c.default-in-Floor.ensures) refl) c.map_list-scale.ensures;
      lengths = (c.default-in-Floor.array_long ∙ sym c.told-images, refl);
    }
