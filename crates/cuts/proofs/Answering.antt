-- The cut operation's answer and its buffers, by what judges the job, and P4 of cuts, from P3.
use mathlib.Core.Path.{◌≡◌, refl, ap, sym, ◌∙◌}
use mathlib.Core.List.{List, ◌++◌, map}
use Prim.Native.Nat.{ℕ, ◌<◌}
use native.Mathlib.Omega.{arith}
use lib.ListN.{length, length-map, get_or, take, drop}
use lib.Seq.{take_at}
use Rattle.refusals.specs.Number.{number_of}
use Rattle.fields.specs.Parts.{Field, Step, Row, job_kind, job_capacity, job_sizes, job_steps, job_rows}
use Rattle.fields.specs.Grammar.{most_sizes, most_rows, rows_kind}
use Rattle.fields.specs.Record.{no_row}
use Rattle.chains.specs.Chain.{chain_image}
use Rattle.chains.specs.Judge.{place_of, Judgement, RefusedAs, list_by}
use Rattle.chains.specs.declared.Refused.{Refused}
use Rattle.jobs.specs.Kinds.{cut_kind}
use Rattle.jobs.specs.declared.kind.Operation.TheVariants.{Cuts}
use Rattle.jobs.specs.Packing.{ChainPromise}
use Rattle.jobs.specs.Job.{fields_in, Places, judge_parts, judge_job, written}
use Rattle.jobs.proofs.Judged.{row_appliable, rows_accepted, rows_fine, list_fine}
use Rattle.jobs.proofs.Promise.{promised}
use Rattle.jobs.proofs.Accepted.{accepted_fields}
use Rattle.jobs.proofs.Answering.{job_overshoots, list_told, some_refused, answer_pass, answer_stop, written_pass, kept, put, value_at}
use Rattle.cuts.specs.Cut.{row_images, row_scale, one_row, cut_images, cut_scales, accepted_cut, refused_cut, CutFinished, CutHolds, RowHolds, CutsHold, CutAnswered}
use Rattle.cuts.specs.declared.CutAnswer.{CutAnswer}
use Rattle.cuts.proofs.Writing.{images_at}

-- a row's cut holds where its images are followed by others
row_cut : (S : List Step) (r : Row) → ChainPromise r.right_side S → (behind : List ℕ) → CutHolds r (row_images S r ++ behind) (row_scale S r)
unfolding CutHolds row_images row_scale
row_cut S r p behind = λ counts long satisfied. rw (take_at (map (chain_image r.right_side S) r.coefficients) behind (length r.coefficients) (length-map r.coefficients _)) (p.cut_holds r.coefficients counts long satisfied)

-- P4 of the fields, whatever is behind the images and the scales
module _ (fields : List Field) (fine : (judge_parts fields).number ≡ 0) (behind more : List ℕ) where
  abbrev S : List Step
  S = job_steps fields

  one_cut : job_kind fields ≡ cut_kind → CutHolds (one_row fields) (cut_images fields ++ behind) (accepted_cut fields).scale
  unfolding accepted_cut cut_images
  one_cut kind =
      let one : job_kind fields ≡ rows_kind → ⊥ = λ many. omega (arith, kind, many) in
      rw kind (row_cut S (one_row fields) (promised (job_capacity fields) S (job_sizes fields) (list_fine fields one fine)) behind)

  scale_of_row : job_kind fields ≡ rows_kind → (i : ℕ) → i < length (job_rows fields) → get_or (cut_scales fields ++ more) i 0 ≡ row_scale S (get_or (job_rows fields) i no_row)
  unfolding cut_scales
  scale_of_row kind i l = rw kind (value_at (row_scale S) no_row (job_rows fields) i more l)

  every_row : job_kind fields ≡ rows_kind → (i : ℕ) → i < length (job_rows fields) → RowHolds (job_rows fields) (cut_images fields ++ behind) (cut_scales fields ++ more) i
  unfolding RowHolds cut_images
  every_row kind i l =
      let r = get_or (job_rows fields) i no_row in
      let row_fine = row_appliable S r (rows_accepted S (job_rows fields) 0 (rows_fine fields kind fine).1 i l) in
      rw (scale_of_row kind i l, kind, images_at S (job_rows fields) i behind l)
      (row_cut S r (promised r.right_side S r.coefficients row_fine) _)

  cuts_hold : CutsHold fields (accepted_cut fields) (cut_images fields ++ behind) (cut_scales fields ++ more)
  cuts_hold = record { cut_holds = one_cut; every_row_holds = every_row }

-- what the operation leaves
module _ (job : List ℕ) (lent : Places) (images working list scales : List ℕ) where
  abbrev fields : List Field
  fields = fields_in job

  abbrev r : Judgement
  r = judge_job Cuts job lent

  module _ (answer : CutAnswer) (working' list' : List ℕ) (listed : list' ≡ list_by r list) (long : length working' ≡ length working) where
    pub answered_refused : (e : Refused) → RefusedAs r e → answer ≡ record { number = number_of e.refusal; n = 0; scale = 0; step = place_of e.step; length = e.length; row = place_of e.row } → CutAnswered fields r images working list scales answer images working' list' scales
    unfolding refused_cut
    answered_refused e told is =
        let some = some_refused r e told in
        let so : answer ≡ refused_cut r = is ∙ rw (told.number_is, told.row_is, told.step_is, told.length_is) refl in
        record {
          answer_is = so ∙ sym (answer_stop r (accepted_cut fields) (refused_cut r) some);
          images_are = kept r e told (cut_images fields) images;
          list_is = listed;
          scales_are = kept r e told (cut_scales fields) scales;
          working_long = long;
          overshoots = λ eleven. rw (so, list_told r list list' listed) (job_overshoots Cuts job lent (rw so at eleven)).overshoots;
          holds = λ none. absurd (some (rw so at none));
        }

    pub answered_finished : (images' scales' : List ℕ) → r.number ≡ 0 → CutFinished fields (take most_sizes images) (take most_rows scales) answer images' scales' → (length images' ≡ length (take most_sizes images)) × (length scales' ≡ length (take most_rows scales)) → CutAnswered fields r images working list scales answer (images' ++ drop most_sizes images) working' list' (scales' ++ drop most_rows scales)
    unfolding accepted_cut written
    answered_finished images' scales' none done lengths =
        let imaged = put r none (cut_images fields) images' images most_sizes lengths.0 done.images_are in
        let scaled = put r none (cut_scales fields) scales' scales most_rows lengths.1 done.scales_are in
        record {
          answer_is = done.answer_is ∙ sym (answer_pass r (accepted_cut fields) (refused_cut r) none);
          images_are = imaged;
          list_is = listed;
          scales_are = scaled;
          working_long = long;
          overshoots = λ eleven. absurd (omega (arith, ap (λ (a : CutAnswer). a.number) done.answer_is, eleven));
          holds = λ _. rw (done.answer_is, imaged ∙ written_pass r (cut_images fields) images none, scaled ∙ written_pass r (cut_scales fields) scales none) (cuts_hold fields (accepted_fields Cuts job lent none).parts_accepted _ _);
        }
