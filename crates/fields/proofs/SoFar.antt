-- The fields of a job while they are read: the invariant of the loop.
use mathlib.Core.Path.{◌≡◌, refl, ap, sym, ◌∙◌}
use mathlib.Core.Bool.{true, false}
use mathlib.Core.List.{List, [], ◌∷◌, ◌++◌}
use Prim.Native.Nat.{ℕ, zero, suc, ◌+◌, ◌/◌, ◌^◌, ◌≤◌, ◌<◌}
use native.Mathlib.Omega.{arith}
use borrow.Author.Tests.{eq-eqb, ne_eqb}
use lib.ListN.{length}
use Rattle.std.specs.Prelude.{Result, Ok, Err}
use Rattle.refusals.specs.declared.Refusal.{Refusal}
use Rattle.refusals.specs.Number.{number_of, number_in}
use Rattle.refusals.proofs.Numbers.{number_positive}
use Rattle.std.specs.Result.{IsErrAnd}
use Rattle.fields.specs.Bytes.{header_bytes, field_tag, header_of, field_value, field_rest}
use Rattle.fields.specs.Parts.{Field, last_tag, last_tag_from}
use Rattle.fields.specs.Grammar.{may_follow, may_end, length_right}
use Rattle.fields.specs.Reading.{header_refusal, field_refusal, first_field, refused, complete, read_fields, job_fields, fields_of}
use Rattle.fields.specs.Record.{PartsOf, NextField, Fillable, Filled, FieldAt, Stand, JobRead, JobReading}
use Rattle.fields.specs.declared.JobParts.{JobParts}
use Rattle.fields.proofs.Headers.{value_length}
use Rattle.fields.proofs.Following.{value_new, last_more, Passed, passed, follows, Followed, Ordered, ordered_none, ordered_more, follows_new, sizes_uncounted}
use Rattle.fields.proofs.Filling.{steps_count, sizes_count}
use Rattle.fields.proofs.Standing.{field_end, stand_more, rows_within}

-- `done` are the fields read so far, `rest` is what is left of the job, and `fuel` more fields can be read there
pub record SoFar (job : List ℕ) (parts : JobParts) (last : ℕ) (rest : List ℕ) : Type 0 where
  pub done : List Field
  pub fuel : ℕ
  pub enough : length rest ≤ fuel
  pub reading : job_fields job ≡ read_fields (suc fuel) done rest
  pub parts_are : PartsOf done parts
  pub last_is : last ≡ last_tag done
  pub ordered : Ordered done
  pub stand : Stand job done rest

pub so_far_start : (job : List ℕ) (parts : JobParts) → PartsOf [] parts → SoFar job parts 0 job
unfolding job_fields last_tag last_tag_from Stand
so_far_start job parts h =
    record { done = []; fuel = length job; enough = omega arith; reading = refl; parts_are = h; last_is = refl; ordered = ordered_none; stand = refl }

module _ (job : List ℕ) (parts : JobParts) (last : ℕ) (rest : List ℕ) (s : SoFar job parts last rest) where
  -- the number that the code finds is that of the definition
  abbrev number : ℕ
  number = header_refusal (header_of rest) parts.kind last parts.steps.count (length parts.sizes.now / 4)

  number_is : number ≡ field_refusal s.done rest
  unfolding field_refusal
  number_is =
      let count = sym (steps_count parts.steps) ∙ ap length s.parts_are.steps_are in
      rw (s.parts_are.kind_is, s.last_is, count, sizes_count s.done parts s.parts_are)

  module _ (some : length rest ≡ 0 → ⊥) where
    pub turn_refused : (refusal : Refusal) → number_of refusal ≡ number → job_fields job ≡ refused (number_of refusal)
    unfolding read_fields
    turn_refused refusal e =
        let same : field_refusal s.done rest ≡ number_of refusal = sym (e ∙ number_is) in
        s.reading ∙ rw (ne_eqb (length rest) 0 some, same, ne_eqb (number_of refusal) 0 (λ none. omega (arith, number_positive refusal)))

    module _ (fine : number ≡ 0) where
      abbrev tag : ℕ
      tag = field_tag rest

      pass : Passed rest parts.kind last parts.steps.count (length parts.sizes.now / 4)
      pass = passed rest parts.kind last parts.steps.count (length parts.sizes.now / 4) fine

      abbrev next : Field
      next = first_field rest

      right : length_right (length parts.sizes.now / 4) tag (length (field_value rest)) ≡ true
      right = rw (value_length rest pass.within) pass.right

      follow_done : may_follow parts.kind (last_tag s.done) parts.steps.count tag ≡ true
      follow_done = rw s.last_is at pass.follows

      followed : Followed last parts.steps.count tag
      followed = follows _ _ _ _ pass.follows

      here : FieldAt rest next
      unfolding first_field
      here = record { sizes = length parts.sizes.now / 4; within = pass.within; is_first = refl; right_length = right }

      ahead : header_bytes + length (field_value rest) + length (field_rest rest) ≡ length rest
      unfolding first_field
      ahead = field_end rest next here

      pub fillable : length job < 2 ^ 64 → Fillable parts tag (length (field_value rest))
      fillable short =
          record {
            right_length = right;
            room = followed.step;
            countable = omega (arith, ahead, rows_within job s.done rest s.stand, s.parts_are.rows_count, s.parts_are.coefficients_count);
          }

      next_field : NextField s.done tag (field_value rest)
      unfolding first_field
      next_field =
          record {
            right_length = rw (← (sizes_count s.done parts s.parts_are)) right;
            known = followed.known.1;
            new = λ l. value_new next tag s.done (follows_new s.done next _ _ s.ordered follow_done l) refl;
            uncounted = sizes_uncounted s.done next _ _ s.ordered follow_done;
          }

      pub turn_less : length (field_rest rest) < length rest
      turn_less = omega (arith, ahead)

      pub turn_next : (parts' : JobParts) → Filled parts tag (field_value rest) parts' → SoFar job parts' tag (field_rest rest)
      unfolding read_fields first_field
      turn_next parts' filled = go s.fuel s.enough s.reading
        where
          go : (fuel : ℕ) → length rest ≤ fuel → job_fields job ≡ read_fields (suc fuel) s.done rest → SoFar job parts' tag (field_rest rest)
          go zero enough reading = absurd (some (omega arith))
          go (suc k) enough reading =
              record {
                done = s.done ++ (next ∷ []);
                fuel = k;
                enough = omega (arith, ahead);
                reading = reading ∙ rw (ne_eqb (length rest) 0 some, sym number_is ∙ fine) refl;
                parts_are = filled s.done s.parts_are next_field;
                last_is = sym (last_more next s.done);
                ordered = ordered_more s.done next _ _ s.ordered follow_done;
                stand = stand_more job s.done rest next s.stand here;
              }

  module _ (none : length rest ≡ 0) where
    pub ends_early : may_end parts.kind last ≡ false → job_fields job ≡ refused 14
    unfolding read_fields
    ends_early may =
        s.reading ∙ rw (eq-eqb (length rest) 0 none, ← s.parts_are.kind_is, ← s.last_is, may)

    nothing : rest ≡ []
    nothing = go rest none
      where
        go : (l : List ℕ) → length l ≡ 0 → l ≡ []
        go [] e = refl
        go (x ∷ l) e = absurd (omega arith)

    ends : may_end parts.kind last ≡ true → job_fields job ≡ complete s.done
    unfolding read_fields
    ends may = s.reading ∙ rw (eq-eqb (length rest) 0 none, ← s.parts_are.kind_is, ← s.last_is, may)

    pub job_read : may_end parts.kind last ≡ true → JobRead job parts
    unfolding fields_of
    job_read may =
        let e = ends may in
        record { complete_as = e ∙ sym (ap (λ r. complete (fields_of r)) e); parts_are = rw e s.parts_are; stand = rw (e, sym nothing) s.stand }

-- a job whose field is refused
pub job_unread : (job : List ℕ) (r : Result JobParts Refusal) (refusal : Refusal) → IsErrAnd r (λ e. e ≡ refusal) → job_fields job ≡ refused (number_of refusal) → JobReading job r
job_unread job (Ok parts) refusal is e = absurd is
job_unread job (Err told) refusal is e = e ∙ ap (λ (n : Refusal). refused (number_of n)) (sym is)

-- a job that is complete is read without a refusal
pub complete_read : (job : List ℕ) (r : Result JobParts Refusal) (fields : List Field) → JobReading job r → job_fields job ≡ complete fields → number_in r ≡ 0
complete_read job (Ok parts) fields reading whole = refl
complete_read job (Err refusal) fields reading whole =
    let stopped = sym reading ∙ whole in
    let never : ◌≡◌ {A = ℕ} 0 1 = cc in
    absurd (omega arith)
