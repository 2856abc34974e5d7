-- Refusals 6 to 10 as facts on a table and its buffers, and what the crates above need not unfold.
use Rattle.std.proofs.lemmas.Bool.{or_parts}
use mathlib.Core.Path.{◌≡◌, refl, ap, sym}
use mathlib.Core.Bool.{true, not, ◌&&◌, ◌||◌, and-eq-true_iff}
use mathlib.Core.List.{List, [], ◌∷◌}
use Prim.Native.Nat.{ℕ, zero, suc, ◌-◌, ◌≤◌, ◌<◌}
use native.Mathlib.Omega.{arith}
use borrow.Author.Tests.{leb-true, ltb-false, eqb-true, eqb-false, le-leb, le-ltb, eq-eqb, ne_eqb, not-false}
use lib.Dec.{leb, ltb, eqb}
use lib.ListN.{length, get_or, drop}
use lib.Seq.{drop-cons}
use Rattle.std.specs.Prelude.{Result, Ok, Err, OnOk}
use Rattle.refusals.specs.Number.{number_in}
use Rattle.refusals.specs.declared.Refusal.{Refusal}
use Rattle.functions.specs.Words.{limit}
use Rattle.functions.proofs.Cases.{not_refused, of_both, then_zero}
use Rattle.tables.specs.Table.{entry, table_capacity, table_scale}
use Rattle.tables.specs.Check.{most_entries, within_limit, form_refusal, TableForm, length_refusal, shape_refusal, Passed}

pub capacity_is : (t : List ℕ) → table_capacity t ≡ length t - 1
unfolding table_capacity
capacity_is t = refl

pub entry_is : (t : List ℕ) (x : ℕ) → entry t x ≡ get_or t x 0
unfolding entry
entry_is t x = refl

pub scale_is_last : (t : List ℕ) → table_scale t ≡ get_or t (length t - 1) 0
unfolding table_scale table_capacity entry
scale_is_last t = refl

pub within_next : (t : List ℕ) (i : ℕ) → i < length t → within_limit (drop i t) ≡ leb (get_or t i 0) limit && within_limit (drop (suc i) t)
unfolding within_limit
within_next t i l = ap within_limit (drop-cons t i 0 l)

entry_small : (t : List ℕ) → within_limit t ≡ true → (x : ℕ) → entry t x ≤ limit
unfolding within_limit entry
entry_small [] e x = omega arith
entry_small (a ∷ rest) e zero = leb-true a limit ((and-eq-true_iff (leb a limit) (within_limit rest)).0 e).0
entry_small (a ∷ rest) e (suc x) = entry_small rest ((and-eq-true_iff (leb a limit) (within_limit rest)).0 e).1 x

all_small : (t : List ℕ) → ((x : ℕ) → entry t x ≤ limit) → within_limit t ≡ true
unfolding within_limit entry
all_small [] h = refl
all_small (a ∷ rest) h = rw (le-leb a limit (h 0), all_small rest (λ x. h (suc x)))

-- 8 to 10 do not apply exactly where the entries have the form
pub form_of : (t : List ℕ) → 2 ≤ length t → length t ≤ most_entries → form_refusal t ≡ 0 → TableForm t
unfolding form_refusal
form_of t least most e =
    let eight = not_refused (not (eqb (entry t 0) 0)) 8 _ (omega arith) e in
    let nine = not_refused (eqb (table_scale t) 0) 9 _ (omega arith) eight.1 in
    let ten = not_refused (not (within_limit t)) 10 0 (omega arith) nine.1 in
    let some = eqb-false (table_scale t) 0 nine.0 in
    record {
      least = least;
      most = most;
      first = eqb-true (entry t 0) 0 (not-false _ eight.0);
      last = omega (arith, some);
      small = entry_small t (not-false _ ten.0);
    }

pub form_fine : (t : List ℕ) → TableForm t → form_refusal t ≡ 0
unfolding form_refusal
form_fine t h = rw (eq-eqb (entry t 0) 0 h.first, ne_eqb (table_scale t) 0 (omega (arith, h.last)), all_small t h.small)

pub form_below : (t : List ℕ) → form_refusal t < 11
unfolding form_refusal
form_below t =
    of_both (λ n. n < 11) (not (eqb (entry t 0) 0)) 8 _ (omega arith)
    (of_both (λ n. n < 11) (eqb (table_scale t) 0) 9 _ (omega arith)
    (of_both (λ n. n < 11) (not (within_limit t)) 10 0 (omega arith) (omega arith)))

-- what refusals 6 and 7 leave
pub record Lengths (entries working list : ℕ) : Type 0 where
  pub least : 2 ≤ entries
  pub most : entries ≤ most_entries
  pub working_room : entries ≤ working
  pub list_room : entries - 1 ≤ list

module _ (entries working list : ℕ) where
  pub lengths : length_refusal entries working list ≡ 0 → Lengths entries working list
  unfolding length_refusal
  lengths e =
      let six = not_refused (ltb entries 2 || ltb most_entries entries) 6 _ (omega arith) e in
      let seven = not_refused (ltb working entries || ltb list (entries - 1)) 7 0 (omega arith) six.1 in
      let size = or_parts (ltb entries 2) (ltb most_entries entries) six.0 in
      let room = or_parts (ltb working entries) (ltb list (entries - 1)) seven.0 in
      record {
        least = ltb-false entries 2 size.0;
        most = ltb-false most_entries entries size.1;
        working_room = ltb-false working entries room.0;
        list_room = ltb-false list (entries - 1) room.1;
      }

  pub lengths_fine : Lengths entries working list → length_refusal entries working list ≡ 0
  unfolding length_refusal
  lengths_fine h =
      rw (
        le-ltb entries 2 h.least,
        le-ltb most_entries entries h.most,
        le-ltb working entries h.working_room,
        le-ltb list (entries - 1) h.list_room,
      )

  pub length_below : length_refusal entries working list < 11
  unfolding length_refusal
  length_below =
      of_both (λ n. n < 11) (ltb entries 2 || ltb most_entries entries) 6 _ (omega arith)
      (of_both (λ n. n < 11) (ltb working entries || ltb list (entries - 1)) 7 0 (omega arith) (omega arith))

module _ (t : List ℕ) (working list : ℕ) where
  pub passed : shape_refusal t working list ≡ 0 → Passed t working list
  unfolding shape_refusal
  passed e =
      let right = then_zero (length_refusal (length t) working list) (form_refusal t) e in
      let room = lengths (length t) working list right.0 in
      record {
        form = form_of t room.least room.most right.1;
        working_room = room.working_room;
        list_room = omega (arith, capacity_is t, room.list_room);
      }

  pub passed_at_ok : (outcome : Result (Unit {0}) Refusal) → number_in outcome ≡ shape_refusal t working list → OnOk outcome (Passed t working list)
  passed_at_ok (Ok done) e = passed (sym e)
  passed_at_ok (Err refusal) e = tt

  pub shape_below : shape_refusal t working list < 11
  unfolding shape_refusal
  shape_below =
      of_both (λ n. n < 11) (eqb (length_refusal (length t) working list) 0) _ _ (form_below t) (length_below (length t) working list)
