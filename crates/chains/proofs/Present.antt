-- The steps of a job one after the other: the invariant of the loop that judges them, and of the loop that applies them.
use mathlib.Core.Path.{◌≡◌, refl, ap, sym, ◌∙◌}
use mathlib.Core.List.{List, [], ◌∷◌, ◌++◌, append_assoc}
use Prim.Native.Nat.{ℕ, suc, ◌+◌, ◌≤◌, ◌<◌}
use native.Mathlib.Numerals.{add-one}
use native.Mathlib.Omega.{arith}
use borrow.Author.Tests.{eq-eqb, ne_eqb}
use lib.ListN.{length, get_or, take, drop, get_or-map, length-map, length-append, length-take, drop_of_length-le}
use lib.Seq.{drop-cons, get_or-take}
use Rattle.std.specs.Prelude.{Some, Result, Ok, Err}
use Rattle.std.proofs.lemmas.List.{take-append-drop, drop-append-le}
use Rattle.std.specs.Result.{MatchResult, IsErrAnd}
use Rattle.refusals.specs.Number.{number_of}
use Rattle.refusals.specs.declared.Refusal.{Refusal}
use Rattle.refusals.proofs.Numbers.{number_positive}
use Rattle.fields.specs.Parts.{Step, on_family, on_table}
use Rattle.fields.specs.Record.{step_in, steps_in}
use Rattle.fields.specs.Within.{StepWithin}
use Rattle.fields.specs.declared.steps.JobStep.{JobStep}
use Rattle.fields.specs.declared.steps.JobSteps.{JobSteps}
use Rattle.chains.specs.Chain.{step_scale, step_refusal}
use Rattle.chains.specs.Judge.{step_list, StepJudged, Judgement, plain, judge_chain, list_by, Judged}
use Rattle.chains.specs.declared.Refused.{Refused}
use Rattle.chains.proofs.Judging.{alone}

-- the step at a place of the record, and those behind it
module _ (steps : JobSteps) (i : ℕ) (none : JobStep) (l : i < length (take steps.count steps.items)) where
  abbrev pub step_at : JobStep
  step_at = get_or (take steps.count steps.items) i none

  pub steps_at : drop i (steps_in steps) ≡ step_in step_at ∷ drop (suc i) (steps_in steps)
  unfolding steps_in
  steps_at =
      drop-cons (steps_in steps) i (step_in none) (omega (arith, length-map (take steps.count steps.items) step_in))
      ∙ ap (λ (s : Step). s ∷ drop (suc i) (steps_in steps)) (get_or-map step_in (take steps.count steps.items) i none)

  pub step_within : StepWithin step_at
  step_within =
      let inside : i < steps.count = omega (arith, length-take steps.count steps.items) in
      rw (get_or-take steps.count steps.items i none inside) (steps.each i inside none)

pub steps_past : (steps : JobSteps) (i : ℕ) → length (take steps.count steps.items) ≤ i → length (steps_in steps) ≤ i
unfolding steps_in
steps_past steps i l = omega (arith, length-map (take steps.count steps.items) step_in)

-- after i steps from the capacity c, the capacity is `present`, and those left decide
pub Present : ℕ → List Step → ℕ → ℕ → Type 0
Present c S present i = judge_chain c 0 S ≡ judge_chain present i (drop i S)

module _ (c : ℕ) (S : List Step) where
  pub present_start : Present c S c 0
  unfolding Present
  present_start = refl

  module _ (present i : ℕ) (p : Present c S present i) where
    module _ (s : Step) (here : drop i S ≡ s ∷ drop (suc i) S) where
      present_next : step_refusal present s ≡ 0 → Present c S (step_scale present s) (i + 1)
      unfolding Present judge_chain
      present_next e = rw add-one (p ∙ ap (judge_chain present i) here ∙ rw (eq-eqb (step_refusal present s) 0 e))

      present_refused : (step_refusal present s ≡ 0 → ⊥) → judge_chain c 0 S ≡ record { number = step_refusal present s; row = 0; step = suc i; list = step_list (step_refusal present s) s }
      unfolding Present judge_chain
      present_refused some = p ∙ ap (judge_chain present i) here ∙ rw (ne_eqb (step_refusal present s) 0 some)

    pub present_end : length S ≤ i → judge_chain c 0 S ≡ plain 0
    unfolding Present judge_chain
    present_end l = p ∙ ap (judge_chain present i) (drop_of_length-le S {i = i} l)

-- an accepted step has no list
no_list : (s : Step) → step_list 0 s ≡ []
unfolding step_list
no_list (on_family family p q) = refl
no_list (on_table t) = refl

-- a step judged, with the list buffer from what it was
module _ (c : ℕ) (S : List Step) (present i : ℕ) (p : Present c S present i) (s : Step) (here : drop i S ≡ s ∷ drop (suc i) S) (list list' : List ℕ) where
  loop_refused : (refused : Refused) → StepJudged present s list (Err refused) list' → {A : Type 0} → Judged {A = A} (judge_chain c 0 S) list (Err (record { refusal = refused.refusal; row = refused.row; step = Some (i + 1); length = refused.length })) list'
  unfolding list_by
  loop_refused refused j =
      let some : step_refusal present s ≡ 0 → ⊥ = λ none. omega (arith, number_positive refused.refusal, j.told.number_is) in
      rw (present_refused c S present i p s here some)
      (record {
        told = record { number_is = j.told.number_is; row_is = j.told.row_is; step_is = add-one i; length_is = j.told.length_is };
        list_is = j.list_is;
      })

  loop_next : (scale : ℕ) → StepJudged present s list (Ok scale) list' → Present c S scale (i + 1) × (list' ≡ list)
  loop_next scale j =
      let fine = j.told.0 in
      let empty = ap (λ (n : ℕ). step_list n s) fine ∙ no_list s in
      (rw j.told.1 (present_next c S present i p s here fine), j.list_is ∙ rw empty)

  -- with its place, as the loop has it of a step that fails or passes
  abbrev pub Placed : Result ℕ Refused → Result ℕ Refused → Type 0
  Placed outcome placed =
      MatchResult outcome (λ scale. placed ≡ Ok scale) (λ e. IsErrAnd placed (λ next. next ≡ record { refusal = e.refusal; row = e.row; step = Some (i + 1); length = e.length }))

  pub loop_fails : (outcome : Result ℕ Refused) (refused : Refused) → Placed outcome (Err refused) → StepJudged present s list outcome list' → {A : Type 0} → Judged {A = A} (judge_chain c 0 S) list (Err refused) list'
  loop_fails (Ok scale) refused same j = absurd (cc)
  loop_fails (Err e) refused same j = rw same (loop_refused e j)

  pub loop_passes : (outcome : Result ℕ Refused) (scale : ℕ) → Placed outcome (Ok scale) → StepJudged present s list outcome list' → Present c S scale (i + 1) × (list' ≡ list)
  loop_passes (Ok was) scale same j =
      let is : scale ≡ was = cc in
      rw is (loop_next was j)
  loop_passes (Err e) scale same j = absurd same

-- nothing is written where the refusal has no list
pub plain_refused : (n : ℕ) (list : List ℕ) (refusal : Refusal) → number_of refusal ≡ n → {A : Type 0} → Judged {A = A} (plain n) list (Err (alone refusal)) list
unfolding plain list_by
plain_refused n list refusal is = record { told = record { number_is = is; row_is = refl; step_is = refl; length_is = refl }; list_is = refl }

pub plain_passes : (list : List ℕ) {A : Type 0} (value : A) → Judged (plain 0) list (Ok value) list
unfolding plain list_by
plain_passes list value = record { told = refl; list_is = refl }

-- a list in the first n places of a buffer, that were lent, is at the front of the whole buffer
pub placed : (xs part whole : List ℕ) (n : ℕ) → length part ≡ length (take n whole) → part ≡ xs ++ drop (length xs) (take n whole) → part ++ drop n whole ≡ xs ++ drop (length xs) whole
placed xs part whole n long e =
    let inside : length xs ≤ length (take n whole) = omega (arith, long, ap length e, length-append xs (drop (length xs) (take n whole))) in
    ap (λ (l : List ℕ). l ++ drop n whole) e
    ∙ append_assoc xs (drop (length xs) (take n whole)) (drop n whole)
    ∙ ap (λ (l : List ℕ). xs ++ l) (sym (drop-append-le (length xs) (take n whole) (drop n whole) inside) ∙ ap (drop (length xs)) (take-append-drop n whole))

pub judged_whole : (r : Judgement) (n : ℕ) (list list' : List ℕ) {A : Type 0} (outcome : Result A Refused) → length list' ≡ length (take n list) → Judged r (take n list) outcome list' → Judged r list outcome (list' ++ drop n list)
unfolding list_by
judged_whole r n list list' outcome long j = record { told = j.told; list_is = placed r.list list' list n long j.list_is }
