-- What is called for a job, and what either operation leaves as the text needs it: its answer, the images and the list.
use Rattle.std.proofs.lemmas.List.{length-replicate}
use mathlib.Core.Path.{◌≡◌, refl, ap, sym, ◌∙◌}
use mathlib.Core.Bool.{true, false}
use mathlib.Core.List.{List}
use mathlib.Core.Logic.{⊎_elim}
use Prim.Native.Nat.{ℕ, ◌-◌, ◌≤◌}
use native.Mathlib.Nat.{eq-zero-or-pos}
use native.Mathlib.Omega.{arith}
use borrow.Author.Tests.{eq-eqb, ne_eqb}
use lib.ListN.{length, take, drop, replicate, length-append}
use lib.Seq.{take_at}
use Rattle.tables.specs.Check.{most_entries}
use Rattle.fields.specs.Parts.{job_kind}
use Rattle.fields.specs.Grammar.{most_sizes, rows_kind}
use Rattle.chains.specs.Judge.{Judgement, list_by}
use Rattle.jobs.specs.Kinds.{takes}
use Rattle.jobs.specs.declared.kind.Operation.{Operation}
use Rattle.jobs.specs.declared.kind.Operation.TheVariants.{Floors, Cuts}
use Rattle.jobs.specs.Job.{fields_in, places_of, own_places, judge_job, answer_by, written, written_by}
use Rattle.jobs.proofs.Accepted.{accepted_fields, accepted_kind, JobAccepted}
use Rattle.jobs.proofs.Answering.{list_told, written_pass, answer_pass, answer_stop}
use Rattle.report.specs.Text.{accepted_text, row_values, refused_text, fourth_byte, operation_of, handed_over, hand_over_text}
use Rattle.report.specs.Answer.{Told}

-- the operation that is called, and `r`, by which it judges the job
pub record Called (asked : Operation) (job : List ℕ) (r : Judgement) : Type 0 where
  pub is_asked : operation_of job ≡ asked
  pub judged : handed_over job ≡ r

-- it is lent buffers of zeros, of the least lengths that 7 lets pass
abbrev zeros : ℕ → List ℕ
zeros n = replicate n 0

abbrev judged_by : Operation → List ℕ → Judgement
judged_by asked job = judge_job asked job (places_of (zeros most_sizes) (zeros most_entries) (zeros (most_entries - 1)) (zeros (own_places asked)))

called : (asked : Operation) (job : List ℕ) → operation_of job ≡ asked → Called asked job (judged_by asked job)
unfolding handed_over
called asked job is =
    let long : (n : ℕ) → length (zeros n) ≡ n = λ n. length-replicate n 0 in
    record { is_asked = is; judged = rw (is, long most_sizes, long most_entries, long (most_entries - 1), long (own_places asked)) }

pub cuts_called : (job : List ℕ) → takes Cuts (fourth_byte job) ≡ true → Called Cuts job (judged_by Cuts job)
unfolding operation_of
cuts_called job is = called Cuts job (rw is)

pub floors_called : (job : List ℕ) → takes Cuts (fourth_byte job) ≡ false → Called Floors job (judged_by Floors job)
unfolding operation_of
floors_called job is = called Floors job (rw is)

-- no refusal of the floor operation has its row printed
pub row_unprinted : (job : List ℕ) → operation_of job ≡ Floors → (row other : ℕ) → row_values (fourth_byte job) row ≡ row_values (fourth_byte job) other
unfolding operation_of takes row_values
row_unprinted job asked row other = rw (ne_eqb (fourth_byte job) rows_kind (λ three. cc (rw three at asked)))

-- what either operation leaves of its answer and of the buffers that both are lent: `values` are the images of a job that is accepted
pub record BothLeft (job : List ℕ) (r : Judgement) (values : List ℕ) (number n row step told : ℕ) (images list : List ℕ) : Type 0 where
  pub number_is : number ≡ r.number
  pub is_told : Told job number row step told list
  pub images_there : n ≤ length images
  pub images_are : r.number ≡ 0 → take n images ≡ values

module _ {asked : Operation} {job : List ℕ} {r : Judgement} (call : Called asked job r) where
  by_refusal : (r.number ≡ 0 → ⊥) → hand_over_text job ≡ refused_text (fourth_byte job) r
  unfolding hand_over_text
  by_refusal some = rw (call.judged, ne_eqb r.number 0 some)

  pub by_acceptance : r.number ≡ 0 → hand_over_text job ≡ accepted_text asked (fields_in job)
  unfolding hand_over_text
  by_acceptance none = rw (call.judged, eq-eqb r.number 0 none, call.is_asked)

  passed : r.number ≡ 0 → (handed_over job).number ≡ 0
  passed none = ap (λ (j : Judgement). j.number) call.judged ∙ none

  pub accepted : r.number ≡ 0 → JobAccepted asked job
  unfolding handed_over
  accepted none = rw call.is_asked at (accepted_fields (operation_of job) job _ (passed none))

  pub fourth_is : r.number ≡ 0 → job_kind (fields_in job) ≡ fourth_byte job
  unfolding fourth_byte handed_over
  fourth_is none = (accepted_kind (operation_of job) job _ (passed none)).kind_is

  -- the answer of either operation, by the numbers that both tell, where the job is accepted and where it is refused
  module _ {A : Type 0} (number n row step told : A → ℕ) {pass stop : A} (values images₀ list₀ : List ℕ) (pass_is : (number pass ≡ 0) × (n pass ≡ length values) × (told pass ≡ 0)) (stop_is : (number stop ≡ r.number) × (n stop ≡ 0) × (row_values (fourth_byte job) (row stop) ≡ row_values (fourth_byte job) r.row) × (step stop ≡ r.step) × (told stop ≡ length r.list)) {answer : A} {images list : List ℕ} (answer_is : answer ≡ answer_by r pass stop) (images_are : images ≡ written_by r values images₀) (list_is : list ≡ list_by r list₀) (list_most : length list ≤ most_entries) where
    abbrev Left : Type 0
    Left = BothLeft job r values (number answer) (n answer) (row answer) (step answer) (told answer) images list

    left_accepted : r.number ≡ 0 → Left
    unfolding written
    left_accepted none =
        let held = images_are ∙ written_pass r values images₀ none in
        rw (answer_is ∙ answer_pass r pass stop none)
        (record {
          number_is = pass_is.0 ∙ sym none;
          is_told = record { list_there = omega (arith, pass_is.2); list_most = list_most; text_refused = λ some. absurd (some pass_is.0) };
          images_there = omega (arith, pass_is.1, ap length held, length-append values (drop (length values) images₀));
          images_are = λ _. ap (take (n pass)) held ∙ take_at values (drop (length values) images₀) (n pass) (sym pass_is.1);
        })

    left_refused : (r.number ≡ 0 → ⊥) → Left
    unfolding list_by refused_text
    left_refused some =
        rw (answer_is ∙ answer_stop r pass stop some)
        (record {
          number_is = stop_is.0;
          is_told =
              record {
                list_there = omega (arith, stop_is.4, ap length list_is, length-append r.list (drop (length r.list) list₀));
                list_most = list_most;
                text_refused = λ _. by_refusal some ∙ rw (stop_is.0, stop_is.2, stop_is.3, stop_is.4, list_told r list₀ list list_is) refl;
              };
          images_there = omega (arith, stop_is.1);
          images_are = λ none. absurd (some none);
        })

    pub both_left : Left
    both_left = ⊎_elim left_accepted (λ some. left_refused (λ none. omega (arith, some, none))) (eq-zero-or-pos r.number)
