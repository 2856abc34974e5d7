-- `first_row` meets its contract: the value is a right side and the coefficients behind it.
use mathlib.Core.Path.{◌≡◌, refl}
use native.Mathlib.Omega.{arith}
use Prim.Native.Nat.{◌%◌, ◌≤◌}
use lib.ListN.{length, length-drop}
use Rattle.fields.specs.Reading.{first_field}
use Rattle.fields.specs.Parts.{row_of}
use Rattle.fields.specs.Record.{row_in}
use Rattle.fields.proofs.Headers.{to_the_end}
use Rattle.fields.proofs.Walking.{row_value}
use Rattle.fields.proofs.rows.first_row.Goals.{After-field_value-value}
use Rattle.fields.proofs.rows.first_row.Goals as goal

value_fits : (c : After-field_value-value) → (length c.field_value-value.result.now % 4 ≡ 0) × (4 ≤ length c.field_value-value.result.now)
value_fits c = rw c.field_value-value.ensures (row_value _ c.requires)

pub word_at-requires : goal.word_at-requires
word_at-requires c = (value_fits (goal.at.word_at-requires c).After-field_value-value).1

pub slice_bounds-result-count : goal.slice_bounds-result-count
slice_bounds-result-count c = (value_fits (goal.at.slice_bounds-result-count c).After-field_value-value).1

pub slice_bounds-result-start : goal.slice_bounds-result-start
slice_bounds-result-start c = omega (arith, value_fits (goal.at.slice_bounds-result-start c).After-field_value-value)

pub returns : goal.returns
unfolding row_in row_of first_field
returns c =
    let fits = value_fits (goal.at.returns c).After-field_value-value in
    let rest = to_the_end c.field_value-value.result.now 4 fits.1 in
    record {
      row_is = rw (c.word_at.ensures.0, rest, c.field_value-value.ensures) refl;
      rest_is = c.field_rest.ensures;
      whole = rw rest (omega (arith, fits, length-drop 4 c.field_value-value.result.now));
      small = c.word_at.ensures.1;
    }
