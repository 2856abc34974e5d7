-- `try_two` meets its contract: a place that is found, or not, by rows k - 1 and k or by row k twice.
use mathlib.Core.Path.{◌≡◌, ◌∙◌, refl, sym}
use mathlib.Core.List.{List}
use Prim.Native.Nat.{ℕ, ◌-◌}
use native.Mathlib.Omega.{arith}
use lib.ListN.{length}
use Rattle.tables.specs.Table.{table_capacity}
use Rattle.tables.proofs.Entries.{capacity_is, scale_is_last}
use Rattle.shortest.proofs.Greatest.{fewer_small, last_small}
use Rattle.shortest.proofs.Seeking.{found, missed}
use Rattle.shortest.proofs.seek.try_two.Goals as goal

-- the capacity of a row of the whole table
whole_row : (t row : List ℕ) → length row ≡ length t → table_capacity t ≡ length row - 1
whole_row t row whole = omega (arith, capacity_is t)

pub place_over-requires-clause-small : goal.place_over-requires-clause-small
place_over-requires-clause-small c = fewer_small c.requires.rows

pub place_over-requires-clause-small_rest : goal.place_over-requires-clause-small_rest
place_over-requires-clause-small_rest c = last_small c.requires.rows

pub returns-in-Some : goal.returns-in-Some
returns-in-Some c =
    let rows = c.requires.rows in
    let scale = c.from-scale.ensures ∙ sym (scale_is_last c.args.table.now) in
    found rows.fewer_is rows.row_is rows.room.same (omega arith) (whole_row _ _ (rows.room.same ∙ c.requires.whole)) _ _ (omega arith) (omega arith) c.requires.least (rw scale at c.in-Some.ensures)

pub place_over-requires-2-clause-small : goal.place_over-requires-2-clause-small
place_over-requires-2-clause-small c = last_small c.requires.rows

pub place_over-requires-2-clause-small_rest : goal.place_over-requires-2-clause-small_rest
place_over-requires-2-clause-small_rest c = last_small c.requires.rows

pub returns-in_err-first : goal.returns-in_err-first
returns-in_err-first c =
    let rows = c.requires.rows in
    let scale = c.from-scale.ensures ∙ sym (scale_is_last c.args.table.now) in
    rw c.from_residual.ensures (missed rows.row_is rows.row_is refl rows.room.some (whole_row _ _ c.requires.whole) _ (omega arith) (omega arith) (rw scale at c.in_err-first.ensures))

pub returns : goal.returns
returns c =
    let rows = c.requires.rows in
    let scale = c.from-scale.ensures ∙ sym (scale_is_last c.args.table.now) in
    let least = missed rows.fewer_is rows.row_is rows.room.same (omega arith) (whole_row _ _ (rows.room.same ∙ c.requires.whole)) _ (omega arith) (omega arith) (rw scale at c.in_default.ensures) in
    found rows.row_is rows.row_is refl rows.room.some (whole_row _ _ c.requires.whole) _ _ (omega arith) (omega arith) least (rw scale at c.in_ok-first.ensures)
