-- What the floor operation leaves, as the text needs it.
use mathlib.Core.Path.{◌≡◌, refl, sym, ◌∙◌}
use mathlib.Core.List.{List, ◌++◌}
use Prim.Native.Nat.{ℕ, ◌≤◌}
use lib.ListN.{length, take, drop}
use Rattle.tables.specs.Check.{most_entries}
use Rattle.fields.specs.Parts.{Field}
use Rattle.fields.specs.Grammar.{most_sizes, most_blocks}
use Rattle.chains.specs.Judge.{Judgement}
use Rattle.jobs.specs.declared.kind.Operation.TheVariants.{Floors}
use Rattle.jobs.specs.Job.{fields_in, is_divided, written}
use Rattle.jobs.proofs.Answering.{written_pass, answer_pass}
use Rattle.floors.specs.Floor.{floor_images, job_block_floors, accepted_floor, refused_floor, FloorAnswered}
use Rattle.floors.specs.declared.FloorAnswer.{FloorAnswer}
use Rattle.floors.proofs.Finishing.{images_count}
use Rattle.floors.proofs.Answering.{floor_taken}
use Rattle.report.specs.Text.{floor_text, blocks_text, accepted_text, hand_over_text}
use Rattle.report.specs.Answer.{BlocksHeld, FloorLeft}
use Rattle.report.proofs.Answered.{Called, row_unprinted, BothLeft, by_acceptance, accepted, both_left}

module _ {job : List ℕ} {r : Judgement} (call : Called Floors job r) {images₀ working₀ list₀ blocks₀ images working list blocks : List ℕ} {answer : FloorAnswer} (answered : FloorAnswered (fields_in job) r images₀ working₀ list₀ blocks₀ answer images working list blocks) (images_most : length images ≤ most_sizes) (list_most : length list ≤ most_entries) (blocks_most : length blocks ≤ most_blocks) where
  abbrev fields : List Field
  fields = fields_in job

  both : BothLeft job r (floor_images fields) answer.number answer.n answer.row answer.step answer.length images list
  unfolding accepted_floor refused_floor
  both =
      both_left call (λ (a : FloorAnswer). a.number) (λ a. a.n) (λ a. a.row) (λ a. a.step) (λ a. a.length) _ _ _
      (refl, sym (images_count fields), refl)
      (refl, refl, row_unprinted job call.is_asked 0 r.row, refl, refl)
      answered.answer_is answered.images_are answered.list_is list_most

  module _ (none : r.number ≡ 0) where
    text : hand_over_text job ≡ floor_text answer (take answer.n images) ++ blocks_text (is_divided fields) (job_block_floors fields)
    unfolding accepted_text
    text = by_acceptance call none ∙ rw (both.images_are none, answered.answer_is, answer_pass r (accepted_floor fields) (refused_floor r) none) refl

    blocks_held : BlocksHeld job blocks
    unfolding written
    blocks_held =
        let is = accepted call none in
        record {
          is_complete = is.is_complete;
          is_floor = floor_taken fields is.is_taken;
          more_floors = drop (length (job_block_floors fields)) blocks₀;
          floors_held = answered.blocks_are ∙ written_pass r (job_block_floors fields) blocks₀ none;
        }

  pub floor_left : FloorLeft job answer images list blocks
  floor_left =
      record {
        told = both.is_told;
        images_there = both.images_there;
        images_most = images_most;
        blocks_most = blocks_most;
        text_accepted = λ none. text (sym both.number_is ∙ none);
        blocks_held = λ none. blocks_held (sym both.number_is ∙ none);
      }
