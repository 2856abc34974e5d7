-- The images, the scales and the answer of an accepted job, from what the code computes.
use mathlib.Core.Path.{◌≡◌, refl, ◌∙◌}
use mathlib.Core.List.{List, ◌++◌, map}
use Prim.Native.Nat.{ℕ, ◌/◌, ◌≤◌}
use borrow.Author.Tests.{ne_eqb}
use lib.ListN.{length, length-map, drop}
use Rattle.fields.specs.Bytes.{words}
use Rattle.fields.specs.Parts.{Field, job_kind, job_capacity, job_sizes, job_steps, job_rows, coefficient_count}
use Rattle.fields.specs.Grammar.{most_sizes, most_rows, rows_kind}
use Rattle.fields.specs.Record.{steps_in, PartsOf}
use Rattle.fields.specs.declared.JobParts.{JobParts}
use Rattle.fields.proofs.Filling.{sizes_count}
use Rattle.chains.specs.Chain.{chain_image}
use Rattle.chains.specs.Apply.{ChainAppliable, ChainApplied}
use Rattle.jobs.specs.JudgeRows.{judge_rows}
use Rattle.jobs.specs.Job.{judge_parts, written}
use Rattle.jobs.proofs.Judged.{fit_bounds, rows_fine, parts_fine, parts_applied}
use Rattle.cuts.specs.Cut.{row_images, row_scale, rows_images, cut_images, cut_count, cut_scales, accepted_cut, CutFinished}
use Rattle.cuts.specs.declared.CutAnswer.{CutAnswer}
use Rattle.cuts.proofs.Writing.{rows_count}

-- the answer with n coefficients, and a scale or 0
abbrev pub counted : ℕ → ℕ → CutAnswer
counted n scale = record { number = 0; n = n; scale = scale; step = 0; length = 0; row = 0 }

-- an answer of which each field is 0, as its default
pub none_counted : (a : CutAnswer) → (a.number ≡ 0) × ((a.n ≡ 0) × ((a.scale ≡ 0) × ((a.step ≡ 0) × ((a.length ≡ 0) × (a.row ≡ 0))))) → a ≡ counted 0 0
none_counted a z =
    let fields : a ≡ record { number = a.number; n = a.n; scale = a.scale; step = a.step; length = a.length; row = a.row } = refl in
    fields ∙ rw (z.0, z.1.0, z.1.1.0, z.1.1.1.0, z.1.1.1.1.0, z.1.1.1.1.1) refl

module _ (fields : List Field) (accepted : (judge_parts fields).number ≡ 0) where
  -- one row
  module _ (one : job_kind fields ≡ rows_kind → ⊥) (parts : JobParts) (h : PartsOf fields parts) where
    pub appliable : ChainAppliable parts.capacity (steps_in parts.steps) (words parts.sizes.now)
    appliable = parts_fine fields one parts h accepted

    -- behind the images, and in the whole buffer of scales, nothing changes
    pub row_finished : (images scales : List ℕ) (answer : CutAnswer) (scale : ℕ) (images' : List ℕ) → answer ≡ counted (length parts.sizes.now / 4) scale → ChainApplied parts.capacity (steps_in parts.steps) (words parts.sizes.now) scale images' → CutFinished fields images scales answer (images' ++ drop (length parts.sizes.now / 4) images) scales
    unfolding accepted_cut cut_images cut_count cut_scales row_images row_scale written
    row_finished images scales answer scale images' e applied =
        let is = parts_applied fields parts h scale images' applied in
        let other = ne_eqb (job_kind fields) rows_kind one in
        let long : length (map (chain_image (job_capacity fields) (job_steps fields)) (job_sizes fields)) ≡ length (job_sizes fields) = length-map (job_sizes fields) _ in
        record {
          answer_is = e ∙ rw (other, sizes_count fields parts h, is.scale_is) refl;
          images_are = rw (other, long, is.images_are, sizes_count fields parts h) refl;
          scales_are = rw other refl;
        }

  -- many rows
  module _ (many : job_kind fields ≡ rows_kind) where
    pub all_accepted : (judge_rows 0 (job_steps fields) (job_rows fields)).number ≡ 0
    all_accepted = (rows_fine fields many accepted).1

    pub rows_bounds : (length (job_rows fields) ≤ most_rows) × (coefficient_count (job_rows fields) ≤ most_sizes)
    rows_bounds = fit_bounds _ _ (rows_fine fields many accepted).0

    pub rows_finished : (images scales : List ℕ) (answer : CutAnswer) (images' scales' : List ℕ) → answer ≡ counted (coefficient_count (job_rows fields)) 0 → images' ≡ rows_images (job_steps fields) (job_rows fields) ++ drop (coefficient_count (job_rows fields)) images → scales' ≡ map (row_scale (job_steps fields)) (job_rows fields) ++ drop (length (job_rows fields)) scales → CutFinished fields images scales answer images' scales'
    unfolding accepted_cut cut_images cut_count cut_scales written
    rows_finished images scales answer images' scales' e imaged scaled =
        let long : length (map (row_scale (job_steps fields)) (job_rows fields)) ≡ length (job_rows fields) = length-map (job_rows fields) _ in
        record {
          answer_is = e ∙ rw many;
          images_are = imaged ∙ rw (many, rows_count (job_steps fields) (job_rows fields));
          scales_are = scaled ∙ rw (many, long);
        }
