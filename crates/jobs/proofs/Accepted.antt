-- A job that is accepted is complete and of a kind that the operation takes, which is its fourth byte.
use mathlib.Core.Path.{◌≡◌, refl, sym, ap, ◌∙◌}
use mathlib.Core.Bool.{Bool, true, false}
use mathlib.Core.List.{List}
use mathlib.Core.Logic.{⊎_elim}
use Prim.Native.Nat.{ℕ}
use native.Mathlib.Nat.{eq-zero-or-pos}
use native.Mathlib.Omega.{arith}
use borrow.Author.Tests.{eq-eqb, ne_eqb}
use lib.ListN.{length}
use Rattle.fields.specs.Parts.{Field, job_kind}
use Rattle.fields.specs.Reading.{Fields, refused, complete, job_fields, fields_of}
use Rattle.fields.proofs.Said.{KindRead, kind_read, unread_positive}
use Rattle.chains.specs.Judge.{Judgement, plain}
use Rattle.jobs.specs.Kinds.{takes}
use Rattle.jobs.specs.declared.kind.Operation.{Operation}
use Rattle.jobs.specs.Job.{judge_parts, judge_fields, judge_reading, fields_in, Places, buffer_refusal, judge_job}
use Rattle.jobs.proofs.Judged.{kind_refused, kind_taken}

pub record JobAccepted (asked : Operation) (job : List ℕ) : Type 0 where
  pub is_complete : job_fields job ≡ complete (fields_in job)
  pub is_taken : takes asked (job_kind (fields_in job)) ≡ true
  pub parts_accepted : (judge_parts (fields_in job)).number ≡ 0

module _ (asked : Operation) (job : List ℕ) where
  fields_accepted : (fields : List Field) → (judge_fields asked fields).number ≡ 0 → (takes asked (job_kind fields) ≡ true) × ((judge_parts fields).number ≡ 0)
  unfolding plain
  fields_accepted fields none = go (takes asked (job_kind fields)) refl
    where
      go : (test : Bool) → takes asked (job_kind fields) ≡ test → (takes asked (job_kind fields) ≡ true) × ((judge_parts fields).number ≡ 0)
      go true is = (is, sym (ap (λ (r : Judgement). r.number) (kind_taken fields asked is)) ∙ none)
      go false is = absurd (omega (arith, ap (λ (r : Judgement). r.number) (kind_refused fields asked is), none))

  reading_accepted : (r : Fields) → job_fields job ≡ r → (judge_reading asked r).number ≡ 0 → JobAccepted asked job
  unfolding judge_reading plain fields_of
  reading_accepted (refused n) e none = absurd (omega (arith, unread_positive job n e, none))
  reading_accepted (complete fields) e none =
      let accepted = fields_accepted fields none in
      record { is_complete = e ∙ rw e; is_taken = rw e accepted.0; parts_accepted = rw e accepted.1 }

  pub accepted_fields : (lent : Places) → (judge_job asked job lent).number ≡ 0 → JobAccepted asked job
  unfolding judge_job plain
  accepted_fields lent e =
      ⊎_elim
      (λ none. reading_accepted (job_fields job) refl (rw (eq-eqb (buffer_refusal asked (length job) lent) 0 none) at e))
      (λ some. absurd (omega (arith, rw (ne_eqb (buffer_refusal asked (length job) lent) 0 (omega arith)) at e)))
      (eq-zero-or-pos (buffer_refusal asked (length job) lent))

  pub accepted_kind : (lent : Places) → (judge_job asked job lent).number ≡ 0 → KindRead job
  accepted_kind lent e = kind_read job (fields_in job) (accepted_fields lent e).is_complete
