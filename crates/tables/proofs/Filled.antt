-- The working buffer while it is filled with bests: the invariant of the loop over c.
use mathlib.Core.Path.{◌≡◌, refl, ap, sym, ◌∙◌}
use mathlib.Core.List.{List, [], ◌∷◌, ◌++◌, reverse, reverse-cons}
use mathlib.Core.Logic.{⊎_elim}
use Prim.Native.Nat.{ℕ, zero, suc, ◌+◌, ◌-◌, ◌≤◌, ◌<◌}
use native.Mathlib.Nat.{eq-or-lt_of_le}
use native.Mathlib.Omega.{arith}
use lib.ListN.{length, get_or, take, drop, set, length-set, length-reverse, get_or-append}
use lib.Seq.{get_or_at, get_or-take, drop-set-lt, length-take-le, set-set, take_at}
use Rattle.std.proofs.lemmas.List.{length-take}
use Rattle.functions.proofs.Pasted.{pasted, pasted_length}
use Rattle.tables.specs.Table.{best, bests, all_bests, table_capacity}
use Rattle.tables.specs.Check.{TableForm, at_front}
use Rattle.tables.specs.Working.{AreBests}
use Rattle.tables.proofs.Entries.{capacity_is}
use Rattle.tables.proofs.Best.{best_zero, bests_length}
use Rattle.tables.proofs.Buffers.{pasted_write, pasted_whole}

-- where the first c places hold bests, so do the first d of them
pub fewer_bests : (t working : List ℕ) (c d : ℕ) → AreBests t (take c working) → d ≤ c → AreBests t (take d working)
fewer_bests t working c d b l =
    let more = length-take c working in
    let fewer = length-take d working in
    record {
      form = b.form;
      in_table = omega (arith, b.in_table, more, fewer);
      holds = λ j m.
          get_or-take d working j 0 (omega (arith, fewer)) ∙ sym (get_or-take c working j 0 (omega (arith, fewer))) ∙ b.holds j (omega (arith, more, fewer));
    }

module _ (t : List ℕ) where
  ascending_length : (c : ℕ) → length (reverse (bests t c)) ≡ suc c
  ascending_length c = length-reverse (bests t c) ∙ bests_length t c

  ascending : (c i : ℕ) → i ≤ c → get_or (reverse (bests t c)) i 0 ≡ best t i
  unfolding bests best
  ascending zero i l =
      let none : i ≡ 0 = omega arith in
      rw none refl
  ascending (suc c) i l = ⊎_elim last earlier (eq-or-lt_of_le l) (ascending c i)
    where
      last : i ≡ suc c → (i ≤ c → get_or (reverse (bests t c)) i 0 ≡ best t i) → get_or (reverse (bests t (suc c))) i 0 ≡ best t i
      last e before =
          ap (λ (xs : List ℕ). get_or xs i 0) (reverse-cons (best t (suc c)) (bests t c))
          ∙ get_or_at (reverse (bests t c)) (best t (suc c)) [] 0 i (ascending_length c ∙ sym e)
          ∙ ap (best t) (sym e)

      earlier : i < suc c → (i ≤ c → get_or (reverse (bests t c)) i 0 ≡ best t i) → get_or (reverse (bests t (suc c))) i 0 ≡ best t i
      earlier m before =
          ap (λ (xs : List ℕ). get_or xs i 0) (reverse-cons (best t (suc c)) (bests t c))
          ∙ get_or-append (reverse (bests t c)) (best t (suc c) ∷ []) 0 i (omega (arith, ascending_length c))
          ∙ before (omega arith)

  module _ (form : TableForm t) where
    all_length : length (all_bests t) ≡ length t
    unfolding all_bests table_capacity
    all_length = omega (arith, ascending_length (length t - 1), form.least)

    all_at : (j : ℕ) → j < length t → get_or (all_bests t) j 0 ≡ best t j
    unfolding all_bests table_capacity
    all_at j l = ascending (length t - 1) j (omega arith)

    -- the first c of the bests
    first_bests : (c : ℕ) → c ≤ length t → AreBests t (take c (all_bests t))
    first_bests c l =
        let count = length-take-le c (all_bests t) (omega (arith, all_length)) in
        record {
          form = form;
          in_table = omega (arith, count);
          holds = λ j m. get_or-take c (all_bests t) j 0 (omega (arith, count)) ∙ all_at j (omega (arith, count));
        }

    -- a buffer whose first c places are written
    bests_pasted : (old working : List ℕ) (c : ℕ) → c ≤ length t → working ≡ pasted (all_bests t) old c → AreBests t (take c working)
    bests_pasted old working c l is =
        rw (ap (take c) is ∙ take_at (take c (all_bests t)) (drop c old) c (length-take-le c (all_bests t) (omega (arith, all_length)))) (first_bests c l)

    -- the buffer once it is filled
    pub all_bests_lem : (old working : List ℕ) → working ≡ at_front (all_bests t) old → AreBests t (take (length t) working)
    all_bests_lem old working is =
        bests_pasted old working (length t) (omega arith) (is ∙ sym (pasted_whole (all_bests t) old (length t) (sym all_length)))

    pub all_bests_at : (old working : List ℕ) → working ≡ at_front (all_bests t) old → (j : ℕ) → j < length t → get_or working j 0 ≡ best t j
    unfolding at_front
    all_bests_at old working is j l =
        ap (λ (xs : List ℕ). get_or xs j 0) is ∙ get_or-append (all_bests t) (drop (length (all_bests t)) old) 0 j (omega (arith, all_length)) ∙ all_at j l

    -- its last place is compared with the scale
    pub last_best : (old working : List ℕ) → working ≡ at_front (all_bests t) old → get_or working (length t - 1) 0 ≡ best t (table_capacity t)
    last_best old working is =
        all_bests_at old working is (length t - 1) (omega (arith, form.least)) ∙ ap (best t) (sym (capacity_is t))

-- the first c places are written, and the others are as they were
pub record Filled (t old working : List ℕ) (c : ℕ) : Type 0 where
  pub form : TableForm t
  pub room : length t ≤ length old
  pub in_table : c ≤ length t
  pub working_is : working ≡ pasted (all_bests t) old c

-- best 0 is 0
pub filled_first : (t old : List ℕ) → TableForm t → length t ≤ length old → Filled t (set old 0 0) (set old 0 0) 1
filled_first t old form room =
    record { form = form; room = omega (arith, length-set old 0 0); in_table = omega (arith, form.least); working_is = first }
  where
    first : set old 0 0 ≡ pasted (all_bests t) (set old 0 0) 1
    first =
        sym (set-set old 0 0 0)
        ∙ pasted_write (all_bests t) (set old 0 0) 0 (set old 0 0) 0 refl (sym (all_at t form 0 (omega (arith, form.least)) ∙ best_zero t)) (omega (arith, all_length t form, form.least)) (omega (arith, length-set old 0 0, form.least))

module _ (t old working : List ℕ) (c : ℕ) (f : Filled t old working c) where
  pub filled_length : length working ≡ length old
  filled_length =
      ap length f.working_is ∙ pasted_length (all_bests t) old c (omega (arith, all_length t f.form, f.in_table)) (omega (arith, f.room, f.in_table))

  pub filled_bests : AreBests t (take c working)
  filled_bests = bests_pasted t f.form old working c f.in_table f.working_is

  pub filled_next : (v : ℕ) → c < length t → v ≡ best t c → Filled t old (set working c v) (c + 1)
  filled_next v l e =
      record {
        form = f.form;
        room = f.room;
        in_table = omega arith;
        working_is = pasted_write (all_bests t) old c working v f.working_is (e ∙ sym (all_at t f.form c l)) (omega (arith, all_length t f.form)) (omega (arith, f.room));
      }

-- the first place, that was written before the loop, is one of the bests
pub filled_end : (t old working : List ℕ) (c : ℕ) → Filled t (set old 0 0) working c → length t ≤ c → working ≡ at_front (all_bests t) old
unfolding at_front
filled_end t old working c f l =
    f.working_is
    ∙ pasted_whole (all_bests t) (set old 0 0) c (omega (arith, all_length t f.form, f.in_table))
    ∙ ap (λ (rest : List ℕ). all_bests t ++ rest) (drop-set-lt (length (all_bests t)) old 0 0 (omega (arith, all_length t f.form, f.form.least)))
