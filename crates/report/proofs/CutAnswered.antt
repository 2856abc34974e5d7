-- What the cut operation leaves, as the text needs it.
use mathlib.Core.Path.{◌≡◌, refl, ap, sym, ◌∙◌}
use mathlib.Core.Bool.{Bool, true, false, cond}
use mathlib.Core.List.{List}
use Prim.Native.Nat.{ℕ, ◌≤◌}
use borrow.Author.Tests.{ne_eqb}
use lib.Dec.{eqb}
use lib.ListN.{length, take, drop}
use Rattle.tables.specs.Check.{most_entries}
use Rattle.fields.specs.Parts.{Field, job_kind, job_steps, job_rows, job_sizes, coefficient_count}
use Rattle.fields.specs.Grammar.{most_sizes, rows_kind}
use Rattle.chains.specs.Judge.{Judgement}
use Rattle.jobs.specs.declared.kind.Operation.TheVariants.{Cuts}
use Rattle.jobs.specs.Job.{fields_in, written}
use Rattle.jobs.proofs.Answering.{written_pass, answer_pass}
use Rattle.cuts.specs.Cut.{row_images, row_scale, rows_images, one_row, cut_images, cut_count, cut_scales, accepted_cut, refused_cut, CutAnswered}
use Rattle.cuts.specs.declared.CutAnswer.{CutAnswer}
use Rattle.cuts.proofs.Writing.{row_count, rows_count}
use Rattle.cuts.proofs.Finishing.{rows_bounds}
use Rattle.report.specs.Text.{cut_text, row_text, rows_text, accepted_text, fourth_byte, hand_over_text}
use Rattle.report.specs.Answer.{RowsHeld, CutLeft}
use Rattle.report.proofs.Answered.{Called, BothLeft, by_acceptance, accepted, fourth_is, both_left}

-- as many images as the answer's n says
counted : (fields : List Field) → cut_count fields ≡ length (cut_images fields)
unfolding cut_count cut_images
counted fields = go (eqb (job_kind fields) rows_kind)
  where
    go : (many : Bool) → cond many (coefficient_count (job_rows fields)) (length (job_sizes fields)) ≡ length (cond many (rows_images (job_steps fields) (job_rows fields)) (row_images (job_steps fields) (one_row fields)))
    go true = sym (rows_count (job_steps fields) (job_rows fields))
    go false = sym (row_count (job_steps fields) (one_row fields))

module _ {job : List ℕ} {r : Judgement} (call : Called Cuts job r) {images₀ working₀ list₀ scales₀ images working list scales : List ℕ} {answer : CutAnswer} (answered : CutAnswered (fields_in job) r images₀ working₀ list₀ scales₀ answer images working list scales) (images_most : length images ≤ most_sizes) (list_most : length list ≤ most_entries) where
  abbrev fields : List Field
  fields = fields_in job

  both : BothLeft job r (cut_images fields) answer.number answer.n answer.row answer.step answer.length images list
  unfolding accepted_cut refused_cut
  both =
      both_left call (λ (a : CutAnswer). a.number) (λ a. a.n) (λ a. a.row) (λ a. a.step) (λ a. a.length) _ _ _
      (refl, counted fields, refl)
      (refl, refl, refl, refl, refl)
      answered.answer_is answered.images_are answered.list_is list_most

  module _ (none : r.number ≡ 0) where
    text : hand_over_text job ≡ accepted_text Cuts fields
    text = by_acceptance call none

    module _ (other : fourth_byte job ≡ rows_kind → ⊥) where
      one : eqb (job_kind fields) rows_kind ≡ false
      one = rw (fourth_is call none) (ne_eqb (fourth_byte job) rows_kind other)

      images_of_one : take answer.n images ≡ row_images (job_steps fields) (one_row fields)
      unfolding cut_images
      images_of_one = both.images_are none ∙ rw one

      scale_of_one : answer.scale ≡ row_scale (job_steps fields) (one_row fields)
      unfolding accepted_cut
      scale_of_one = ap (λ (a : CutAnswer). a.scale) (answered.answer_is ∙ answer_pass r (accepted_cut fields) (refused_cut r) none) ∙ rw one

      text_of_one : hand_over_text job ≡ cut_text answer.scale (take answer.n images)
      unfolding accepted_text row_text
      text_of_one = text ∙ rw (one, images_of_one, scale_of_one) refl

    module _ (three : fourth_byte job ≡ rows_kind) where
      many : job_kind fields ≡ rows_kind
      many = fourth_is call none ∙ three

      text_of_rows : hand_over_text job ≡ rows_text (job_steps fields) (job_rows fields)
      unfolding accepted_text
      text_of_rows = text ∙ rw many

      rows_held : RowsHeld job images scales
      unfolding cut_images cut_scales written
      rows_held =
          let is = accepted call none in
          let bounds = rows_bounds fields is.parts_accepted many in
          record {
            is_complete = is.is_complete;
            rows_most = bounds.0;
            coefficients_most = bounds.1;
            more_images = drop (length (cut_images fields)) images₀;
            more_scales = drop (length (cut_scales fields)) scales₀;
            images_held = answered.images_are ∙ written_pass r (cut_images fields) images₀ none ∙ rw many;
            scales_held = answered.scales_are ∙ written_pass r (cut_scales fields) scales₀ none ∙ rw many;
          }

  pub cut_left : CutLeft job answer images list scales
  cut_left =
      record {
        told = both.is_told;
        images_there = both.images_there;
        images_most = images_most;
        text_of_one = λ none other. text_of_one (sym both.number_is ∙ none) other;
        text_of_rows = λ none three. text_of_rows (sym both.number_is ∙ none) three;
        rows_held = λ none three. rows_held (sym both.number_is ∙ none) three;
      }
