-- The rows of a job found one after the other, from field to field.
use mathlib.Core.Path.{◌≡◌, refl, ap, sym, ◌∙◌}
use mathlib.Core.Bool.{true}
use mathlib.Core.List.{List, [], ◌∷◌}
use Prim.Native.Nat.{ℕ, ◌+◌, ◌%◌, ◌≤◌, ◌<◌}
use native.Mathlib.Numerals.{add-one}
use native.Mathlib.Omega.{arith}
use lib.ListN.{length, get_or, drop, length-drop}
use lib.Seq.{get_or-drop, drop-drop}
use Rattle.fields.specs.Bytes.{header_bytes, field_tag, field_value, field_rest}
use Rattle.fields.specs.Parts.{Field, is_row, chosen, Row, row_of, job_rows}
use Rattle.fields.specs.Grammar.{length_right}
use Rattle.fields.specs.Record.{FieldAt, Stand, RowsLeft, no_row, RowHere, RowRead, RowFound}
use Rattle.fields.specs.declared.JobRow.{JobRow}
use Rattle.fields.proofs.Following.{row_tag_is, tag_is_six, no_row_lem}
use Rattle.fields.proofs.Filling.{row_length}
use Rattle.fields.proofs.Standing.{tag_at, value_at, field_end, row_first, row_skipped}

-- before the first row, all are left
pub all_left : (job : List ℕ) (fields : List Field) → Stand job fields [] → RowsLeft fields 0 job
all_left job fields stand = record { left = fields; stand = stand; rows_left = refl }

-- the first field of a rest in which there is a row
pub record FieldAhead (fields : List Field) (k : ℕ) (rest : List ℕ) : Type 0 where
  pub first : Field
  pub behind : List Field
  pub there : FieldAt rest first
  pub stand : Stand (field_rest rest) behind []
  pub rows_are : job_rows (first ∷ behind) ≡ drop k (job_rows fields)

no_rows : length (job_rows []) ≡ 0
unfolding job_rows chosen
no_rows = refl

pub field_ahead : (fields : List Field) (k : ℕ) (rest : List ℕ) → RowsLeft fields k rest → k < length (job_rows fields) → FieldAhead fields k rest
unfolding Stand
field_ahead fields k rest l more = go l.left l.stand l.rows_left
  where
    go : (left : List Field) → Stand rest left [] → job_rows left ≡ drop k (job_rows fields) → FieldAhead fields k rest
    go [] stand none = absurd (omega (arith, ap length none, no_rows, length-drop k (job_rows fields)))
    go (f ∷ left) stand rows = record { first = f; behind = left; there = stand.0; stand = stand.1; rows_are = rows }

module _ (fields : List Field) (k : ℕ) (rest : List ℕ) (n : FieldAhead fields k rest) where
  -- its tag is the first byte
  tag_is : n.first.tag ≡ get_or rest 0 0
  unfolding field_tag
  tag_is = tag_at rest n.first n.there

  pub within_rest : header_bytes + length n.first.value + length (field_rest rest) ≡ length rest
  within_rest = field_end rest n.first n.there

  pub skipped : (get_or rest 0 0 ≡ 6 → ⊥) → RowsLeft fields k (field_rest rest)
  skipped other =
      record { left = n.behind; stand = n.stand; rows_left = sym (row_skipped n.first n.behind (no_row_lem _ (λ six. other (sym tag_is ∙ six)))) ∙ n.rows_are }

  module _ (six : get_or rest 0 0 ≡ 6) where
    tag_is_row : is_row n.first.tag ≡ true
    tag_is_row = row_tag_is _ (tag_is ∙ six)

    pub row_here : RowHere rest
    row_here = record { field = n.first; there = n.there; tag_is_row = tag_is_row }

    rows_from : drop k (job_rows fields) ≡ row_of n.first ∷ job_rows n.behind
    rows_from = sym n.rows_are ∙ row_first n.first n.behind tag_is_row

    pub row_found : (r : JobRow) → RowRead rest r → RowFound fields k r
    row_found r read =
        record {
          row_is = ap (λ (i : ℕ). get_or (job_rows fields) i no_row) (omega arith) ∙ sym (get_or-drop k (job_rows fields) 0 no_row) ∙ ap (λ (rows : List Row). get_or rows 0 no_row) rows_from ∙ ap row_of n.there.is_first ∙ sym read.row_is;
          behind =
              rw read.rest_is
              (record { left = n.behind; stand = n.stand; rows_left = sym (ap (drop 1) rows_from) ∙ drop-drop 1 k (job_rows fields) ∙ ap (λ (i : ℕ). drop i (job_rows fields)) (add-one k) });
        }

-- the row in the first field of a rest: its right side, and whole coefficients behind it
module _ (rest : List ℕ) (h : RowHere rest) where
  right : length_right h.there.sizes 6 (length (field_value rest)) ≡ true
  right = rw (← (tag_is_six _ h.tag_is_row), ← (value_at rest h.field h.there)) h.there.right_length

  pub row_value : (length (field_value rest) % 4 ≡ 0) × (4 ≤ length (field_value rest))
  row_value = row_length _ (length (field_value rest)) right
