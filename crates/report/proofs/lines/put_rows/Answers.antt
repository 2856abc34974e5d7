-- `put_rows` meets its contract: each turn puts the next row's cut.
use mathlib.Core.Path.{◌≡◌, refl, ap, sym, ◌∙◌}
use Prim.Native.Nat.{◌/◌, ◌<◌}
use native.Mathlib.Numerals.{add-one}
use native.Mathlib.Omega.{arith}
use lib.ListN.{length, get_or, length-take}
use lib.Seq.{get_or-take}
use Rattle.fields.specs.Parts.{Row, job_rows, coefficient_count}
use Rattle.fields.specs.Record.{no_row, RowFound}
use Rattle.fields.proofs.Walking.{all_left}
use Rattle.jobs.specs.Job.{fields_in}
use Rattle.cuts.proofs.Writing.{row_bytes}
use Rattle.report.proofs.Texts.{rows_none, rows_next}
use Rattle.report.proofs.RowTexts.{scale_held, images_there, images_held, images_behind}
use Rattle.report.proofs.lines.put_rows.Goals.{After-next_row-row}
use Rattle.report.proofs.lines.put_rows.Goals as goal

more : (c : After-next_row-row) → c.loop-scale.scale-index < length (job_rows (fields_in c.args.job.now))
more c = omega (arith, c.accepted_parts-rows.ensures.parts_are.rows_count, length-take c.accepted_parts-rows.result.rows c.args.scales.now)

found : (c : After-next_row-row) → RowFound (fields_in c.args.job.now) c.loop-scale.scale-index c.next_row-row.result
found c = c.next_row-row.ensures.found _ _ c.loop-scale.invariant.0 (more c)

long : (c : After-next_row-row) → length c.next_row-row.result.coefficients.now / 4 ≡ length (get_or (job_rows (fields_in c.args.job.now)) c.loop-scale.scale-index no_row).coefficients
long c = sym (row_bytes _ c.next_row-row.ensures.whole) ∙ sym (ap (λ (r : Row). length r.coefficients) (found c).row_is)

pub loop-scale-init : goal.loop-scale-init
unfolding coefficient_count
loop-scale-init c = (all_left _ _ c.accepted_parts-rows.ensures.stand, refl, rows_none _ _)

pub split_at-requires : goal.split_at-requires
split_at-requires c =
    let at = (goal.at.split_at-requires c).After-next_row-row in
    images_there _ _ _ c.requires _ (more at) _ c.loop-scale.invariant.1 _ (long at)

pub loop-scale-preserved : goal.loop-scale-preserved
loop-scale-preserved c =
    let loop = c.loop-scale in
    let at = (goal.at.loop-scale-preserved c).After-next_row-row in
    let here = more at in
    let told = c.from.ensures ∙ get_or-take c.accepted_parts-rows.result.rows c.args.scales.now loop.scale-index 0 (omega (arith, here, c.accepted_parts-rows.ensures.parts_are.rows_count)) in
    let scale = told ∙ scale_held _ _ _ c.requires _ here in
    let own = c.split_at.ensures.front ∙ images_held _ _ _ c.requires _ here _ loop.invariant.1 _ (long at) in
    let behind = c.split_at.ensures.back ∙ images_behind _ _ _ c.requires _ here _ loop.invariant.1 _ (long at) in (
      rw (add-one loop.scale-index) (found at).behind,
      rw (add-one loop.scale-index) behind,
      rows_next _ _ _ here loop.invariant.2 (rw (scale, own) at c.put_cut-next.ensures),
    )
