-- `answer_table` meets its contract: each way that it ends is a law of `Answering`.
use mathlib.Core.Path.{◌≡◌, sym, ◌∙◌}
use mathlib.Core.List.{List, ◌++◌}
use Prim.Native.Nat.{ℕ, ◌-◌, ◌≤◌, min}
use native.Mathlib.Omega.{arith}
use lib.ListN.{length, take, drop, length-append, length-drop}
use Rattle.std.proofs.Common.{rules}
use Rattle.std.proofs.lemmas.List.{length-take-le}
use Rattle.refusals.specs.Number.{number_of}
use Rattle.refusals.proofs.Numbers.{number_positive}
use Rattle.tables.specs.Table.{table_capacity}
use Rattle.tables.specs.Check.{Passed}
use Rattle.tables.proofs.Entries.{capacity_is}
use Rattle.shortest.specs.Halves.{Fewest}
use Rattle.shortest.specs.Shortest.{refused_shortest}
use Rattle.shortest.specs.Told.{told}
use Rattle.shortest.proofs.Answering.{form_refused, none_overshoots, fewest_few, some_overshoot}
use Rattle.shortest.proofs.answer_table.Goals as goal

-- the list has a place for each size
list_room : {t : List ℕ} {n first working list : ℕ} → Passed t working list → Fewest t n first → n ≤ list
list_room {t} {n} {first} p f = omega (arith, p.list_room, fewest_few t p.form n first f)

-- the capacity of the rows
row_capacity : {t : List ℕ} {working list : ℕ} (first : ℕ) (second row : List ℕ) → Passed t working list → working ≡ min first (length second) → length row ≡ length (take (length t) second) → length row - 1 ≡ table_capacity t
row_capacity {t} first second row p is same =
    omega (arith, same, length-take-le (length t) second (omega (arith, p.working_room)), capacity_is t)

-- a buffer whose first places were written
front_length : (n : ℕ) (front buffer : List ℕ) → n ≤ length buffer → length front ≡ length (take n buffer) → length (front ++ drop n buffer) ≡ length buffer
front_length n front buffer room same =
    omega (arith, length-append front (drop n buffer), length-drop n buffer, length-take-le n buffer room, same)

-- so both working buffers are as long as they were
working_rooms : {t : List ℕ} {working list : ℕ} (first second : List ℕ) → Passed t working list → working ≡ min (length first) (length second) → (length t ≤ length first) × (length t ≤ length second)
working_rooms first second p is = omega (arith, p.working_room)

pub returns-in_err-check_form : goal.returns-in_err-check_form
returns-in_err-check_form c =
    let refusal = c.in_err-check_form.field-0.0 in
    let same : told c.from_residual.result ≡ refused_shortest (number_of refusal) = search rules in
    rw same (form_refused _ _ _ _ _ (rw c.min.ensures at c.in_err-check_form.ensures.number) (number_positive refusal))

pub returns-in_default : goal.returns-in_default
returns-in_default c =
    let passed = c.in_ok-check_form.ensures in
    let rooms = working_rooms c.args.working.now c.args.second.now passed.passed c.min.ensures in
    none_overshoots _ _ _ _ (sym (rw c.min.ensures at passed.number)) _ _
    (front_length (length c.args.table.now) _ c.args.working.now rooms.0 c.fewest.auto.fewer)
    (front_length (length c.args.table.now) _ c.args.second.now rooms.1 c.fewest.auto.row)
    c.in_default.ensures

pub slice_bounds-put_halves-end : goal.slice_bounds-put_halves-end
slice_bounds-put_halves-end c = list_room c.in_ok-check_form.ensures.passed c.in-Some.ensures

pub slice_bounds-put_halves-end-2 : goal.slice_bounds-put_halves-end-2
slice_bounds-put_halves-end-2 c =
    sym (length-take-le _ c.args.list.now (list_room c.in_ok-check_form.ensures.passed c.in-Some.ensures))

pub put_halves-requires-clause-within : goal.put_halves-requires-clause-within
put_halves-requires-clause-within c =
    let passed = c.in_ok-check_form.ensures.passed in
    omega (arith, c.in-Some.ensures.within, row_capacity _ _ _ passed c.min.ensures c.fewest.auto.row, capacity_is c.args.table.now, passed.form.least)

pub returns : goal.returns
returns c =
    let passed = c.in_ok-check_form.ensures in
    let count = length-take-le c.in-Some.split.sizes c.args.list.now (list_room passed.passed c.in-Some.ensures) in
    let rooms = working_rooms c.args.working.now c.args.second.now passed.passed c.min.ensures in
    some_overshoot _ _ _ _ (sym (rw c.min.ensures at passed.number)) _ _
    (front_length (length c.args.table.now) _ c.args.working.now rooms.0 (c.put_halves.auto.fewer ∙ c.fewest.auto.fewer))
    (front_length (length c.args.table.now) _ c.args.second.now rooms.1 (c.put_halves.auto.row ∙ c.fewest.auto.row))
    _ _ _ c.in-Some.ensures (c.put_halves.auto.list ∙ count)
    (rw (count, row_capacity _ _ _ passed.passed c.min.ensures c.fewest.auto.row) at c.put_halves.ensures)
