-- Fields where they stand in the job, one behind the other, and the rows among them.
use mathlib.Core.Path.{◌≡◌, refl, ap, ◌∙◌}
use mathlib.Core.Bool.{Bool, true, false}
use mathlib.Core.List.{List, [], ◌∷◌, ◌++◌}
use Prim.Native.Nat.{ℕ, ◌+◌, ◌≤◌}
use native.Mathlib.Omega.{arith}
use lib.ListN.{length, length-drop}
use Rattle.fields.specs.Bytes.{header_bytes, field_tag, field_length, field_value, field_rest}
use Rattle.fields.specs.Parts.{Field, is_row, chosen, Row, row_of, job_rows, coefficient_count}
use Rattle.fields.specs.Grammar.{length_right}
use Rattle.fields.specs.Reading.{first_field}
use Rattle.fields.specs.Record.{FieldAt, Stand}
use Rattle.fields.proofs.Headers.{within_facts, value_length, rest_is}
use Rattle.fields.proofs.Following.{tag_is_six}
use Rattle.fields.proofs.Filling.{row_length, row_count}

-- one field more at the end
pub stand_more : (rest : List ℕ) (fields : List Field) (behind : List ℕ) (f : Field) → Stand rest fields behind → FieldAt behind f → Stand rest (fields ++ (f ∷ [])) (field_rest behind)
unfolding Stand
stand_more rest [] behind f here there = rw here (there, refl)
stand_more rest (g ∷ fields) behind f here there = (here.0, stand_more (field_rest rest) fields behind f here.1 there)

-- a field's length is that of its header
module _ (rest : List ℕ) (f : Field) (h : FieldAt rest f) where
  pub tag_at : f.tag ≡ field_tag rest
  unfolding first_field
  tag_at = ap (λ (g : Field). g.tag) h.is_first

  pub value_at : f.value ≡ field_value rest
  unfolding first_field
  value_at = ap (λ (g : Field). g.value) h.is_first

  pub length_at : length f.value ≡ field_length rest
  length_at = ap length value_at ∙ value_length rest h.within

  pub field_end : header_bytes + length f.value + length (field_rest rest) ≡ length rest
  field_end = omega (arith, length_at, within_facts rest h.within, ap length (rest_is rest h.within), length-drop (header_bytes + field_length rest) rest)

-- the rows of one field more at the start
module _ (f : Field) (fields : List Field) where
  pub row_first : is_row f.tag ≡ true → job_rows (f ∷ fields) ≡ row_of f ∷ job_rows fields
  unfolding job_rows chosen
  row_first is = rw is

  pub row_skipped : is_row f.tag ≡ false → job_rows (f ∷ fields) ≡ job_rows fields
  unfolding job_rows chosen
  row_skipped is = rw is

no_rows_within : length (job_rows []) + coefficient_count (job_rows []) ≡ 0
unfolding job_rows chosen coefficient_count
no_rows_within = refl

row_counted : (sizes : ℕ) (f : Field) (rows : List Row) → length_right sizes 6 (length f.value) ≡ true → length (row_of f ∷ rows) + coefficient_count (row_of f ∷ rows) ≤ length f.value + length rows + coefficient_count rows
unfolding coefficient_count row_of
row_counted sizes f rows right = omega (arith, row_count sizes f.value right, row_length sizes (length f.value) right)

-- rows and coefficients take bytes
pub rows_within : (rest : List ℕ) (fields : List Field) (behind : List ℕ) → Stand rest fields behind → length (job_rows fields) + coefficient_count (job_rows fields) + length behind ≤ length rest
unfolding Stand
rows_within rest [] behind here = omega (arith, ap length here, no_rows_within)
rows_within rest (f ∷ fields) behind here = go (is_row f.tag) refl (rows_within (field_rest rest) fields behind here.1)
  where
    go : (test : Bool) → is_row f.tag ≡ test → length (job_rows fields) + coefficient_count (job_rows fields) + length behind ≤ length (field_rest rest) → length (job_rows (f ∷ fields)) + coefficient_count (job_rows (f ∷ fields)) + length behind ≤ length rest
    go false is next = rw (row_skipped f fields is) (omega (arith, next, field_end rest f here.0))
    go true is next = rw (row_first f fields is) (omega (arith, next, field_end rest f here.0, row_counted _ f (job_rows fields) (rw (tag_is_six f.tag is) at here.0.right_length)))
