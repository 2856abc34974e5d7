-- The table check's answer and buffers, for each way that it ends, and what the operation for C promises of them.
use mathlib.Core.Path.{◌≡◌, refl, ap, sym, ◌∙◌}
use mathlib.Core.Bool.{cond}
use mathlib.Core.List.{List, ◌++◌}
use mathlib.Core.Logic.{⊎_elim}
use Prim.Native.Nat.{ℕ, ◌-◌, ◌≤◌, ◌<◌}
use native.Mathlib.Nat.{eq-zero-or-pos}
use native.Mathlib.Omega.{arith}
use borrow.Author.Tests.{le-ltb, lt-ltb, ne_eqb}
use lib.Dec.{eqb, ltb}
use lib.ListN.{length, get_or, take, drop}
use lib.Seq.{take_at}
use Rattle.tables.specs.Table.{table_capacity, table_scale, best, all_bests, counterexample}
use Rattle.tables.specs.Check.{TableForm, entries_refusal, length_refusal, shape_refusal, table_refusal, table_answer, at_front, working_after, list_after}
use Rattle.tables.specs.Working.{AreBests}
use Rattle.tables.specs.Promise.{Overshoots, AcceptedExactly}
use Rattle.tables.specs.declared.TableAnswer.{TableAnswer}
use Rattle.tables.proofs.Entries.{scale_is_last, passed, shape_below}
use Rattle.tables.proofs.Filled.{all_bests_lem, last_best}
use Rattle.tables.proofs.Promise.{counterexample_promise, table_promise}

-- what refusals 6 to 10 leave is refused with 11 or accepted
pub by_shape : (t : List ℕ) (working list : ℕ) → table_refusal t working list ≡ cond (eqb (shape_refusal t working list) 0) (cond (ltb (table_scale t) (best t (table_capacity t))) 11 0) (shape_refusal t working list)
unfolding table_refusal entries_refusal shape_refusal
by_shape t working list =
    ⊎_elim (λ e. rw e) (λ some. simp (ne_eqb (length_refusal (length t) working list) 0 (omega arith))) (eq-zero-or-pos (length_refusal (length t) working list))

module _ (t w l : List ℕ) where
  -- the check's three claims, of what it tells and the two buffers
  abbrev pub Outcome : TableAnswer → List ℕ → List ℕ → Type 0
  Outcome r w' l' =
      record {
        told : r ≡ table_answer t (length w) (length l);
        working : w' ≡ working_after t w l;
        list : l' ≡ list_after t w l;
      }

  -- the operation's five
  abbrev pub Answered : TableAnswer → List ℕ → List ℕ → Type 0
  Answered r w' l' =
      record {
        answer : r ≡ table_answer t (length w) (length l);
        working : w' ≡ working_after t w l;
        list : l' ≡ list_after t w l;
        overshoots : r.number ≡ 11 → Overshoots t (take r.length l');
        exactly : AcceptedExactly t (length w) (length l) r.number;
      }

  list_at_11 : (r : TableAnswer) (w' l' : List ℕ) → Outcome r w' l' → table_refusal t (length w) (length l) ≡ 11 → take r.length l' ≡ counterexample t
  unfolding table_answer list_after at_front
  list_at_11 r w' l' o eleven =
      rw (o.told, o.list, eleven) (take_at (counterexample t) _ (length (counterexample t)) refl)

  pub answered : (r : TableAnswer) (w' l' : List ℕ) → Outcome r w' l' → Answered r w' l'
  unfolding table_answer
  answered r w' l' o =
      let e : r.number ≡ table_refusal t (length w) (length l) = ap (λ (a : TableAnswer). a.number) o.told in
      record {
        answer = o.told;
        working = o.working;
        list = o.list;
        overshoots = λ eleven. rw (list_at_11 r w' l' o (sym e ∙ eleven)) (counterexample_promise t (length w) (length l) (sym e ∙ eleven));
        exactly = rw e (table_promise t (length w) (length l)).accepted_exactly;
      }

  -- refused by 6 to 10: nothing is written
  pub refused : (n : ℕ) → n ≡ shape_refusal t (length w) (length l) → 1 ≤ n → Outcome (record { number = n; length = 0 }) w l
  unfolding table_answer working_after list_after
  refused n is some =
      let e : table_refusal t (length w) (length l) ≡ n = by_shape t (length w) (length l) ∙ rw (← is, ne_eqb n 0 (omega arith)) in
      let other = ne_eqb n 11 (omega (arith, is, shape_below t (length w) (length l))) in
      record {
        told = rw (e, other);
        working = rw (e, ne_eqb n 0 (omega arith), other);
        list = rw (e, other);
      }

  module _ (shape : shape_refusal t (length w) (length l) ≡ 0) (w' : List ℕ) (filled : w' ≡ at_front (all_bests t) w) where
    form : TableForm t
    form = (passed t (length w) (length l) shape).form

    pub all_known : AreBests t (take (length t) w')
    all_known = all_bests_lem t form w w' filled

    pub ends_accepted : get_or w' (length t - 1) 0 ≤ get_or t (length t - 1) 0 → Outcome (record { number = 0; length = 0 }) w' l
    unfolding table_answer working_after list_after
    ends_accepted fits =
        let e : table_refusal t (length w) (length l) ≡ 0 = by_shape t (length w) (length l) ∙ rw (shape, le-ltb (table_scale t) (best t (table_capacity t)) (omega (arith, last_best t form w w' filled, scale_is_last t))) in
        record { told = rw e; working = filled ∙ rw e; list = rw e }

    pub ends_refuted : (n : ℕ) (l' : List ℕ) → get_or t (length t - 1) 0 < get_or w' (length t - 1) 0 → n ≡ length (counterexample t) → l' ≡ at_front (counterexample t) l → Outcome (record { number = 11; length = n }) w' l'
    unfolding table_answer working_after list_after
    ends_refuted n l' over count written =
        let more : table_scale t < best t (table_capacity t) = omega (arith, last_best t form w w' filled, scale_is_last t) in
        let e : table_refusal t (length w) (length l) ≡ 11 = by_shape t (length w) (length l) ∙ rw (shape, lt-ltb (table_scale t) (best t (table_capacity t)) more) in
        record { told = rw (e, count); working = filled ∙ rw e; list = written ∙ rw e }

-- longer buffers change no refusal
pub same_refusal : (t : List ℕ) (working list : ℕ) → length t ≤ working → table_capacity t ≤ list → table_refusal t working list ≡ table_refusal t (length t) (table_capacity t)
unfolding table_refusal length_refusal table_capacity
same_refusal t working list w l =
    rw (
      le-ltb working (length t) w,
      le-ltb list (length t - 1) l,
      le-ltb (length t) (length t) (omega arith),
      le-ltb (length t - 1) (length t - 1) (omega arith),
    )

-- the list buffer and the length, by the number alone
pub list_after_lem : (t working list : List ℕ) (n : ℕ) → table_refusal t (length working) (length list) ≡ n → list_after t working list ≡ cond (eqb n 11) (counterexample t ++ drop (length (counterexample t)) list) list
unfolding list_after at_front
list_after_lem t working list n e = rw e

pub answer_is : (t : List ℕ) (working list n : ℕ) → table_refusal t working list ≡ n → table_answer t working list ≡ record { number = n; length = cond (eqb n 11) (length (counterexample t)) 0 }
unfolding table_answer
answer_is t working list n e = rw e
