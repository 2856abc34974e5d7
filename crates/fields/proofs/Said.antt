-- What a reading says: 13, 14 or 15 where it refuses a job, and a complete job's kind is its fourth byte.
use mathlib.Core.Path.{◌≡◌, refl, ap, sym, ◌∙◌}
use mathlib.Core.Bool.{Bool, true, false, cond, not}
use mathlib.Core.List.{List, [], ◌∷◌, ◌++◌}
use mathlib.Core.Logic.{⊎_elim}
use Prim.Native.Nat.{ℕ, zero, suc, ◌≤◌, ◌<◌}
use native.Mathlib.Nat.{eq-zero-or-pos}
use native.Mathlib.Omega.{arith}
use borrow.Author.Tests.{eqb-true, eq-eqb, ne_eqb}
use lib.ListN.{length, get_or, take, drop}
use lib.Seq.{get_or-take, get_or-drop}
use Rattle.std.specs.Prelude.{Option, None, Some}
use Rattle.fields.specs.Bytes.{header_bytes, field_tag, field_length, header_of, field_value, field_rest}
use Rattle.fields.specs.Parts.{Field, value_of, job_kind, job_sizes, job_steps, last_tag, last_tag_from}
use Rattle.fields.specs.Grammar.{may_follow, may_end, length_right}
use Rattle.fields.specs.Reading.{header_refusal, field_refusal, first_field, Fields, refused, complete, read_fields, job_fields, fields_of}
use Rattle.fields.specs.declared.Header.{Header}
use Rattle.fields.proofs.Headers.{within_facts, value_is}
use Rattle.fields.proofs.Following.{Passed, passed}
use Rattle.fields.proofs.Filling.{kind_length}

-- three tests in a row, and two
pub three : (P : ℕ → Type 0) (a b d : Bool) (n m k : ℕ) → P n → P m → P k → 0 < cond a n (cond b m (cond d k 0)) → P (cond a n (cond b m (cond d k 0)))
three P true b d n m k one two last some = one
three P false true d n m k one two last some = two
three P false false true n m k one two last some = last
three P false false false n m k one two last some = absurd (omega arith)

two : (P : ℕ → Type 0) (a b : Bool) (n m : ℕ) → P n → P m → 0 < cond a n (cond b m 0) → P (cond a n (cond b m 0))
two P true b n m one last some = one
two P false true n m one last some = last
two P false false n m one last some = absurd (omega arith)

-- a turn of reading, by what is left and what refuses
module _ (k : ℕ) (done : List Field) (rest : List ℕ) where
  turn_end : length rest ≡ 0 → read_fields (suc k) done rest ≡ cond (may_end (job_kind done) (last_tag done)) (complete done) (refused 14)
  unfolding read_fields
  turn_end none = rw (eq-eqb (length rest) 0 none)

  turn_stop : 0 < length rest → 0 < field_refusal done rest → read_fields (suc k) done rest ≡ refused (field_refusal done rest)
  unfolding read_fields
  turn_stop some number = rw (ne_eqb (length rest) 0 (omega arith), ne_eqb (field_refusal done rest) 0 (omega arith))

  turn_on : 0 < length rest → field_refusal done rest ≡ 0 → read_fields (suc k) done rest ≡ read_fields k (done ++ (first_field rest ∷ [])) (field_rest rest)
  unfolding read_fields
  turn_on some none = rw (ne_eqb (length rest) 0 (omega arith), eq-eqb (field_refusal done rest) 0 none)

-- what holds of the outcomes of all turns holds of a reading
module _ (Q : List Field → Fields → Type 0)
    (ended : (done : List Field) → Q done (complete done))
    (early : (done : List Field) → Q done (refused 14))
    (stopped : (done : List Field) (rest : List ℕ) → 0 < field_refusal done rest → Q done (refused (field_refusal done rest)))
    (goes_on : (done : List Field) (f : Field) (r : Fields) → Q (done ++ (f ∷ [])) r → Q done r) where
  reading : (k : ℕ) (done : List Field) (rest : List ℕ) → Q done (read_fields k done rest)
  unfolding read_fields
  reading zero done rest = ended done
  reading (suc k) done rest = ⊎_elim end (λ some. ⊎_elim (on (reading k (done ++ (first_field rest ∷ [])) (field_rest rest)) some) (λ number. rw (turn_stop k done rest some number) (stopped done rest number)) (eq-zero-or-pos (field_refusal done rest))) (eq-zero-or-pos (length rest))
    where
      choose : (test : Bool) → Q done (cond test (complete done) (refused 14))
      choose true = ended done
      choose false = early done

      end : length rest ≡ 0 → Q done (read_fields (suc k) done rest)
      end none = rw (turn_end k done rest none) (choose (may_end (job_kind done) (last_tag done)))

      on : Q (done ++ (first_field rest ∷ [])) (read_fields k (done ++ (first_field rest ∷ [])) (field_rest rest)) → 0 < length rest → field_refusal done rest ≡ 0 → Q done (read_fields (suc k) done rest)
      on next some none = rw (turn_on k done rest some none) (goes_on done (first_field rest) _ next)

-- what holds of 13, 14 and 15 holds of the number that refuses a job's fields
module _ (P : ℕ → Type 0) (thirteen : P 13) (fourteen : P 14) (fifteen : P 15) where
  Said : List Field → Fields → Type 0
  Said done (refused number) = P number
  Said done (complete fields) = Unit {0}

  field_said : (done : List Field) (rest : List ℕ) → 0 < field_refusal done rest → Said done (refused (field_refusal done rest))
  unfolding Said field_refusal header_refusal
  field_said done rest = go (header_of rest)
    where
      go : (h : Option Header) → 0 < header_refusal h (job_kind done) (last_tag done) (length (job_steps done)) (length (job_sizes done)) → P (header_refusal h (job_kind done) (last_tag done) (length (job_steps done)) (length (job_sizes done)))
      go None some = thirteen
      go (Some h) some = two P (not (may_follow (job_kind done) (last_tag done) (length (job_steps done)) h.tag)) (not (length_right (length (job_sizes done)) h.tag h.length)) 14 15 fourteen fifteen some

  said_on : (done : List Field) (f : Field) (r : Fields) → Said (done ++ (f ∷ [])) r → Said done r
  unfolding Said
  said_on done f (refused number) said = said
  said_on done f (complete fields) said = said

  pub unread_said : (job : List ℕ) (n : ℕ) → job_fields job ≡ refused n → P n
  unfolding Said job_fields
  unread_said job n e = rw e at (reading Said (λ done. tt) (λ done. fourteen) field_said said_on (suc (length job)) [] job)

pub unread_positive : (job : List ℕ) (n : ℕ) → job_fields job ≡ refused n → 0 < n
unread_positive job n e = unread_said (λ n. 0 < n) (omega arith) (omega arith) (omega arith) job n e

-- the first of the fields stays the first
FirstKept : List Field → Fields → Type 0
FirstKept done r = (f : Field) (more fields : List Field) → done ≡ f ∷ more → r ≡ complete fields → value_of f.tag fields ≡ f.value

first_kept : (f : Field) (k : ℕ) (rest : List ℕ) (fields : List Field) → read_fields k (f ∷ []) rest ≡ complete fields → value_of f.tag fields ≡ f.value
unfolding FirstKept value_of
first_kept f k rest fields e =
    reading FirstKept
    (λ done g more gs is same. let both : g ∷ more ≡ gs = cc in rw (← both, eq-eqb g.tag g.tag refl))
    (λ done g more gs is same. let never : ◌≡◌ {A = ℕ} 0 1 = cc in absurd (omega arith))
    (λ done rest number g more gs is same. let never : ◌≡◌ {A = ℕ} 0 1 = cc in absurd (omega arith))
    (λ done g r next h more gs is same. next h (more ++ (g ∷ [])) gs (ap (λ (l : List Field). l ++ (g ∷ [])) is) same)
    k (f ∷ []) rest f [] fields refl e

pub record KindRead (job : List ℕ) : Type 0 where
  pub room : 4 ≤ length job
  pub kind_is : job_kind (fields_of (job_fields job)) ≡ get_or job 3 0

-- the first field of a complete job is its kind
module _ (job : List ℕ) (fields : List Field) (whole : job_fields job ≡ complete fields) where
  not_empty : length job ≡ 0 → ⊥
  unfolding job_fields may_end job_kind value_of last_tag last_tag_from
  not_empty none =
      let early = sym (turn_end (length job) [] job none) ∙ whole in
      let never : ◌≡◌ {A = ℕ} 0 1 = cc in
      omega arith

  first_fine : field_refusal [] job ≡ 0
  unfolding job_fields
  first_fine = ⊎_elim (λ none. none) (λ number. absurd (stop number)) (eq-zero-or-pos (field_refusal [] job))
    where
      stop : 0 < field_refusal [] job → ⊥
      stop number =
          let stopped = sym (turn_stop (length job) [] job (omega (arith, not_empty)) number) ∙ whole in
          let never : ◌≡◌ {A = ℕ} 0 1 = cc in
          omega arith

  first : Passed job (job_kind []) (last_tag []) (length (job_steps [])) (length (job_sizes []))
  unfolding field_refusal
  first = passed job (job_kind []) (last_tag []) (length (job_steps [])) (length (job_sizes [])) first_fine

  tag_is : field_tag job ≡ 1
  unfolding may_follow last_tag last_tag_from
  tag_is = eqb-true (field_tag job) 1 first.follows

  length_is : field_length job ≡ 1
  length_is = kind_length _ (field_length job) (rw tag_is at first.right)

  value_kept : value_of 1 fields ≡ field_value job
  unfolding job_fields first_field
  value_kept =
      rw tag_is at (first_kept (first_field job) (length job) (field_rest job) fields (sym (turn_on (length job) [] job (omega (arith, not_empty)) first_fine) ∙ whole))

  kind_of : job_kind fields ≡ get_or job 3 0
  unfolding job_kind
  kind_of =
      ap (λ (v : List ℕ). get_or v 0 0) (value_kept ∙ value_is job first.within ∙ ap (λ (k : ℕ). take k (drop header_bytes job)) length_is)
      ∙ get_or-take 1 (drop header_bytes job) 0 0 (omega arith)
      ∙ get_or-drop header_bytes job 0 0

  pub kind_read : KindRead job
  unfolding fields_of
  kind_read = record { room = omega (arith, within_facts job first.within, length_is); kind_is = rw whole kind_of }
