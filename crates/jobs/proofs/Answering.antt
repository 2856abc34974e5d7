-- A job judged: which refusal stands, what its 11 shows, and the answer and the buffers by what judges it.
use Rattle.std.proofs.lemmas.Bool.{or_parts}
use Rattle.std.specs.Prelude.{Result}
use mathlib.Core.Path.{◌≡◌, refl, ap, sym, ◌∙◌}
use mathlib.Core.Bool.{Bool, true, false, cond, not, ◌||◌}
use mathlib.Core.List.{List, ◌++◌, map, [], ◌∷◌}
use mathlib.Core.Logic.{⊎_elim}
use Prim.Native.Nat.{ℕ, zero, suc, ◌-◌, ◌≤◌, ◌<◌}
use native.Mathlib.Nat.{eq-zero-or-pos}
use native.Mathlib.Omega.{arith}
use borrow.Author.Tests.{eqb-true, eqb-false, eq-eqb, ne_eqb, ltb-false}
use lib.Dec.{ltb, eqb}
use lib.ListN.{length, get_or, take, drop}
use lib.Seq.{take_at}
use Rattle.functions.proofs.Cases.{not_refused}
use Rattle.tables.specs.Check.{most_entries}
use Rattle.fields.specs.Parts.{Field, job_kind, job_capacity, job_sizes, job_steps, job_rows, coefficient_count}
use Rattle.fields.specs.Grammar.{most_bytes, most_sizes, rows_kind}
use Rattle.fields.specs.Reading.{Fields, refused, complete, job_fields, fields_of}
use Rattle.jobs.specs.Kinds.{takes, least_of, rows_fit}
use Rattle.jobs.specs.declared.kind.Operation.{Operation}
use Rattle.chains.specs.Judge.{Judgement, plain, StepOvershoots, RefusedAs, Told, list_by, Judged}
use Rattle.jobs.specs.JudgeRows.{judge_rows}
use Rattle.jobs.specs.Job.{fields_in, blocks_right, judge_parts, judge_fields, judge_reading, Places, own_places, buffer_refusal, judge_job, answer_by, written, written_by, start_capacity}
use Rattle.chains.specs.declared.Refused.{Refused}
use Rattle.chains.proofs.Judged.{list_overshoots}
use Rattle.chains.proofs.Present.{placed}
use Rattle.jobs.proofs.Judged.{kind_refused, kind_taken, rows_kind_lem, list_kind, rows_overshoot}
use Rattle.jobs.proofs.Outside.{buffers_other, unread_other}
use Rattle.refusals.proofs.Numbers.{number_positive}

-- the places that refusal 7 leaves
pub record Rooms (asked : Operation) (lent : Places) : Type 0 where
  pub for_images : most_sizes ≤ lent.images
  pub for_working : most_entries ≤ lent.working
  pub for_list : most_entries - 1 ≤ lent.list
  pub for_own : own_places asked ≤ lent.own

pub rooms : (asked : Operation) (n : ℕ) (lent : Places) → buffer_refusal asked n lent ≡ 0 → Rooms asked lent
unfolding buffer_refusal
rooms asked n lent e =
    let two = ltb lent.images most_sizes || ltb lent.working most_entries in
    let three = two || ltb lent.list (most_entries - 1) in
    let enough = (not_refused (three || ltb lent.own (own_places asked)) 7 0 (omega arith) (not_refused (ltb most_bytes n) 12 _ (omega arith) e).1).0 in
    let last = or_parts three (ltb lent.own (own_places asked)) enough in
    let third = or_parts two (ltb lent.list (most_entries - 1)) last.0 in
    let first = or_parts (ltb lent.images most_sizes) (ltb lent.working most_entries) third.0 in
    record {
      for_images = ltb-false lent.images most_sizes first.0;
      for_working = ltb-false lent.working most_entries first.1;
      for_list = ltb-false lent.list (most_entries - 1) third.1;
      for_own = ltb-false lent.own (own_places asked) last.1;
    }

-- what the code finds, in the order of the refusals
module _ (asked : Operation) (job : List ℕ) (lent : Places) where
  pub buffers_refused : (n : ℕ) → n ≡ buffer_refusal asked (length job) lent → (n ≡ 0 → ⊥) → judge_job asked job lent ≡ plain n
  unfolding judge_job
  buffers_refused n e some = rw (← e, ne_eqb n 0 some)

  module _ (buffers : buffer_refusal asked (length job) lent ≡ 0) where
    pub by_reading : judge_job asked job lent ≡ judge_reading asked (job_fields job)
    unfolding judge_job
    by_reading = rw buffers

    reading_refused : (n : ℕ) → job_fields job ≡ refused n → judge_job asked job lent ≡ plain n
    unfolding judge_reading
    reading_refused n e = by_reading ∙ rw e

    reading_passed : (fields : List Field) → job_fields job ≡ complete fields → judge_job asked job lent ≡ judge_fields asked fields
    unfolding judge_reading
    reading_passed fields e = by_reading ∙ rw e

    pub parts_decide : (fields : List Field) → job_fields job ≡ complete fields → takes asked (job_kind fields) ≡ true → judge_job asked job lent ≡ judge_parts fields
    parts_decide fields e taken = reading_passed fields e ∙ kind_taken fields asked taken

-- what an accepted job was lent
pub job_rooms : (asked : Operation) (job : List ℕ) (lent : Places) → (judge_job asked job lent).number ≡ 0 → Rooms asked lent
unfolding plain
job_rooms asked job lent e =
    ⊎_elim
    (rooms asked (length job) lent)
    (λ some. absurd (omega (arith, ap (λ (r : Judgement). r.number) (buffers_refused asked job lent _ refl (omega arith)), e)))
    (eq-zero-or-pos (buffer_refusal asked (length job) lent))

-- judged in the first places of the list buffer that are lent, and so in the whole of it
pub judged_whole : {A : Type 0} (r : Judgement) (list list' : List ℕ) (outcome : Result A Refused) → length list' ≡ length (take (most_entries - 1) list) → Told r outcome → list' ≡ list_by r (take (most_entries - 1) list) → Judged r list outcome (list' ++ drop (most_entries - 1) list)
unfolding list_by
judged_whole r list list' outcome long told listed = record { told = told; list_is = placed r.list list' list (most_entries - 1) long listed }

-- 11 of the parts is 11 of a step, whose list overshoots
parts_overshoot : (fields : List Field) → (judge_parts fields).number ≡ 11 → StepOvershoots (start_capacity fields (judge_parts fields).row) (job_steps fields) (judge_parts fields).step (judge_parts fields).list
unfolding plain start_capacity
parts_overshoot fields = go (eqb (job_kind fields) rows_kind) refl
  where
    Over : Judgement → Type 0
    Over r = r.number ≡ 11 → StepOvershoots (start_capacity fields r.row) (job_steps fields) r.step r.list

    rows : eqb (job_kind fields) rows_kind ≡ true → (test : Bool) → Over (cond (not test) (plain 21) (judge_rows 0 (job_steps fields) (job_rows fields)))
    rows kind true eleven = rw kind (rows_overshoot (job_steps fields) (job_rows fields) 0 eleven).1
    rows kind false eleven = absurd (omega (arith, eleven))

    go : (test : Bool) → eqb (job_kind fields) rows_kind ≡ test → Over (judge_parts fields)
    go true is = rw (rows_kind_lem fields (eqb-true (job_kind fields) rows_kind is)) (rows is (rows_fit (length (job_rows fields)) (coefficient_count (job_rows fields))))
    go false is =
        rw (list_kind fields (eqb-false (job_kind fields) rows_kind is), is)
        (list_overshoots (least_of (job_kind fields)) (job_capacity fields) (job_sizes fields) _ (blocks_right fields) (job_steps fields))

-- 11 of a job is 11 of its parts, and its kind is taken
pub record JobOvershoots (asked : Operation) (job : List ℕ) (r : Judgement) : Type 0 where
  pub is_taken : takes asked (job_kind (fields_in job)) ≡ true
  pub overshoots : StepOvershoots (start_capacity (fields_in job) r.row) (job_steps (fields_in job)) r.step r.list

module _ (asked : Operation) (job : List ℕ) (lent : Places) where
  abbrev Over : Judgement → Type 0
  Over r = r.number ≡ 11 → JobOvershoots asked job r

  fields_overshoot : (fields : List Field) → fields_in job ≡ fields → Over (judge_fields asked fields)
  unfolding plain
  fields_overshoot fields e = go (takes asked (job_kind fields)) refl
    where
      go : (test : Bool) → takes asked (job_kind fields) ≡ test → Over (judge_fields asked fields)
      go true is = rw (kind_taken fields asked is) (λ eleven. record { is_taken = rw e is; overshoots = rw e (parts_overshoot fields eleven) })
      go false is = rw (kind_refused fields asked is) (λ eleven. absurd (omega (arith, eleven)))

  pub job_overshoots : Over (judge_job asked job lent)
  unfolding plain fields_of
  job_overshoots = ⊎_elim (λ none. of_reading none (job_fields job) refl) (λ some. of_buffers some) (eq-zero-or-pos (buffer_refusal asked (length job) lent))
    where
      of_buffers : 0 < buffer_refusal asked (length job) lent → Over (judge_job asked job lent)
      of_buffers some = rw (buffers_refused asked job lent _ refl (omega arith)) (λ eleven. absurd (buffers_other asked _ lent eleven))

      of_reading : buffer_refusal asked (length job) lent ≡ 0 → (read : Fields) → job_fields job ≡ read → Over (judge_job asked job lent)
      of_reading none (refused n) e = rw (reading_refused asked job lent none n e) (λ eleven. absurd (unread_other job n e eleven))
      of_reading none (complete fields) e = rw (reading_passed asked job lent none fields e) (fields_overshoot fields (rw e))

-- the list of an 11 is in the list buffer
pub list_told : (r : Judgement) (list list' : List ℕ) → list' ≡ list_by r list → take (length r.list) list' ≡ r.list
unfolding list_by
list_told r list list' e = ap (take (length r.list)) e ∙ take_at r.list (drop (length r.list) list) (length r.list) refl

-- the answer and a buffer, by whether `r` refuses the job
module _ (r : Judgement) where
  pub written_pass : (values buffer : List ℕ) → r.number ≡ 0 → written_by r values buffer ≡ written values buffer
  unfolding written_by
  written_pass values buffer none = rw (eq-eqb r.number 0 none)

  written_stop : (values buffer : List ℕ) → (r.number ≡ 0 → ⊥) → written_by r values buffer ≡ buffer
  unfolding written_by
  written_stop values buffer some = rw (ne_eqb r.number 0 some)

  pub some_refused : (e : Refused) → RefusedAs r e → r.number ≡ 0 → ⊥
  some_refused e told none = omega (arith, number_positive e.refusal, told.number_is, none)

  -- a buffer of a job that is refused, and one of which the first places were lent and written
  pub kept : (e : Refused) → RefusedAs r e → (values buffer : List ℕ) → buffer ≡ written_by r values buffer
  kept e told values buffer = sym (written_stop values buffer (some_refused e told))

  pub put : r.number ≡ 0 → (values part whole : List ℕ) (n : ℕ) → length part ≡ length (take n whole) → part ≡ written values (take n whole) → part ++ drop n whole ≡ written_by r values whole
  unfolding written
  put none values part whole n long e = placed values part whole n long e ∙ sym (written_pass values whole none)

  module _ {A : Type 0} (pass stop : A) where
    pub answer_pass : r.number ≡ 0 → answer_by r pass stop ≡ pass
    unfolding answer_by
    answer_pass none = rw (eq-eqb r.number 0 none)

    pub answer_stop : (r.number ≡ 0 → ⊥) → answer_by r pass stop ≡ stop
    unfolding answer_by
    answer_stop some = rw (ne_eqb r.number 0 some)

-- a value that was written in its place
pub value_at : {A : Type 0} (f : A → ℕ) (none : A) (xs : List A) (i : ℕ) (behind : List ℕ) → i < length xs → get_or (map f xs ++ behind) i 0 ≡ f (get_or xs i none)
value_at f none [] i behind l = absurd (omega arith)
value_at f none (x ∷ xs) zero behind l = refl
value_at f none (x ∷ xs) (suc i) behind l = value_at f none xs i behind (omega arith)
