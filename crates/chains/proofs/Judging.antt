-- A step judged: from what the lower crates answer.
use mathlib.Core.Path.{◌≡◌, refl, ap, sym, ◌∙◌}
use mathlib.Core.Bool.{Bool, true, false, cond}
use mathlib.Core.List.{List, [], ◌++◌}
use Prim.Native.Nat.{ℕ, ◌-◌, ◌*◌, ◌/◌, ◌%◌, ◌≤◌}
use native.Mathlib.Omega.{arith}
use borrow.Author.Tests.{eq-eqb}
use lib.Dec.{eqb}
use lib.ListN.{length, get_or, drop}
use Rattle.std.specs.Prelude.{None, Ok, Err}
use Rattle.refusals.specs.Number.{number_of}
use Rattle.refusals.specs.declared.Refusal.{Refusal}
use Rattle.refusals.specs.declared.Refusal.TheVariants.{TableCapacity}
use Rattle.functions.specs.Families.{family_scale}
use Rattle.functions.specs.Image.{family_refusal}
use Rattle.tables.specs.Table.{table_capacity, table_scale, counterexample}
use Rattle.tables.specs.Check.{table_refusal, table_answer, list_after}
use Rattle.tables.specs.declared.TableAnswer.{TableAnswer}
use Rattle.tables.proofs.Entries.{capacity_is, scale_is_last}
use Rattle.tables.proofs.Outcome.{same_refusal, list_after_lem, answer_is}
use Rattle.fields.specs.Bytes.{word, words}
use Rattle.fields.specs.Parts.{on_family, on_table}
use Rattle.chains.specs.Chain.{step_scale, contents_refusal, step_refusal}
use Rattle.chains.specs.Judge.{step_list, StepJudged}
use Rattle.chains.specs.declared.Refused.{Refused}
use Rattle.chains.proofs.Chains.{another_first}
use Rattle.chains.proofs.Counts.{whole_words}

-- a refusal that is told with no place and no list
abbrev pub alone : Refusal → Refused
alone refusal = record { refusal = refusal; row = None; step = None; length = 0 }

-- a family step leaves the list buffer
module _ (c family p q : ℕ) (l : List ℕ) where
  pub family_refused : (refusal : Refusal) → number_of refusal ≡ family_refusal c family p q → StepJudged c (on_family family p q) l (Err (alone refusal)) l
  unfolding step_refusal step_list
  family_refused refusal is = record { told = record { number_is = is; row_is = refl; length_is = refl }; list_is = refl }

  pub family_passes : family_refusal c family p q ≡ 0 → (d : ℕ) → d ≡ family_scale c family p q → StepJudged c (on_family family p q) l (Ok d) l
  unfolding step_refusal step_scale step_list
  family_passes none d is = record { told = (none, is); list_is = refl }

-- a table at a capacity, its entries not looked at: another capacity is told first, and entries that passed before pass
module _ (c : ℕ) (t l : List ℕ) where
  pub another_capacity : (table_capacity t ≡ c → ⊥) → StepJudged c (on_table t) l (Err (alone TableCapacity)) l
  unfolding step_list
  another_capacity other =
      let told = another_first c t other in
      record { told = record { number_is = sym told; row_is = refl; length_is = rw told }; list_is = rw told }

  pub checked_before : table_capacity t ≡ c → contents_refusal (on_table t) ≡ 0 → (d : ℕ) → d ≡ table_scale t → StepJudged c (on_table t) l (Ok d) l
  unfolding step_refusal step_scale step_list
  checked_before same passed d e =
      let none = eq-eqb (table_capacity t) c same in
      record { told = (rw (none, passed), e); list_is = rw (none, passed) }

-- the entries of a table checked, at its own capacity
module _ (t w l : List ℕ) (room : length t ≤ length w) (list_room : table_capacity t ≤ length l) (r : TableAnswer) (answered : r ≡ table_answer t (length w) (length l)) (l' : List ℕ) (listed : l' ≡ list_after t w l) where
  by_number : table_refusal t (length w) (length l) ≡ r.number
  by_number = sym (ap (λ (a : TableAnswer). a.number) (answered ∙ answer_is t (length w) (length l) _ refl))

  length_is : r.length ≡ cond (eqb r.number 11) (length (counterexample t)) 0
  length_is = ap (λ (a : TableAnswer). a.length) (answered ∙ answer_is t (length w) (length l) r.number by_number)

  list_is : l' ≡ cond (eqb r.number 11) (counterexample t ++ drop (length (counterexample t)) l) l
  list_is = listed ∙ list_after_lem t w l r.number by_number

  contents_is : contents_refusal (on_table t) ≡ r.number
  unfolding contents_refusal
  contents_is = sym (same_refusal t (length w) (length l) room list_room) ∙ by_number

  refusal_is : step_refusal (table_capacity t) (on_table t) ≡ r.number
  unfolding step_refusal
  refusal_is = rw (eq-eqb (table_capacity t) (table_capacity t) refl) contents_is

  pub entries_refused : (refusal : Refusal) → number_of refusal ≡ r.number → StepJudged (table_capacity t) (on_table t) l (Err (record { refusal = refusal; row = None; step = None; length = r.length })) l'
  unfolding step_list
  entries_refused refusal is =
      record {
        told = record { number_is = is ∙ sym refusal_is; row_is = refl; length_is = length_is ∙ rw refusal_is (counted (eqb r.number 11)) };
        list_is = list_is ∙ rw refusal_is (written (eqb r.number 11));
      }
    where
      counted : (test : Bool) → cond test (length (counterexample t)) 0 ≡ length (cond test (counterexample t) [])
      counted true = refl
      counted false = refl

      written : (test : Bool) → cond test (counterexample t ++ drop (length (counterexample t)) l) l ≡ cond test (counterexample t) [] ++ drop (length (cond test (counterexample t) [])) l
      written true = refl
      written false = refl

  pub entries_pass : r.number ≡ 0 → (d : ℕ) → d ≡ table_scale t → StepJudged (table_capacity t) (on_table t) l (Ok d) l'
  entries_pass none d e =
      let kept : l' ≡ l = list_is ∙ rw none in
      rw kept (checked_before (table_capacity t) t l refl (contents_is ∙ none) d e)

-- a table's capacity and scale, by the bytes of its entries
module _ (bytes : List ℕ) (whole : length bytes % 4 ≡ 0) where
  pub capacity_of : table_capacity (words bytes) ≡ length bytes / 4 - 1
  capacity_of = capacity_is (words bytes) ∙ ap (λ (k : ℕ). k - 1) (whole_words bytes whole).count

  pub scale_of : 4 ≤ length bytes → (at : ℕ) → at ≡ 4 * (length bytes / 4 - 1) → word bytes at ≡ table_scale (words bytes)
  scale_of least at is =
      rw is
      ((whole_words bytes whole).at (length bytes / 4 - 1) (omega arith)
      ∙ ap (λ (k : ℕ). get_or (words bytes) (k - 1) 0) (sym (whole_words bytes whole).count)
      ∙ sym (scale_is_last (words bytes)))
