-- The starred rows of document 01, "Checked by reckoning", as one table. `proofs/Rows.antt` proves that all of them hold, by computation.
use Rattle.std.specs.Prelude.{Bool, true, false, cond, ◌&&◌, List, [], ◌∷◌, ◌++◌, map, ℕ, eqb, length}
use Rattle.functions.specs.Rows.{ImageRow, image_rows, image_row_holds}
use Rattle.tables.specs.Table.{table_capacity, counterexample}
use Rattle.tables.specs.Check.{table_refusal}

-- a table, the number that refuses it or 0, and the counterexample at 11
pub record TableRow : Type 0 where
  pub entries : List ℕ
  pub number : ℕ
  pub list : List ℕ

pub data Row : Type 0 where
  on_family : ImageRow → Row
  on_table : TableRow → Row

unfoldable pub table_rows : List TableRow
table_rows =
    record { entries = 0 ∷ 1 ∷ 1 ∷ 2 ∷ []; number = 11; list = 1 ∷ 1 ∷ 1 ∷ [] }
    ∷ record { entries = 0 ∷ 0 ∷ 2 ∷ 1 ∷ []; number = 11; list = 1 ∷ 2 ∷ [] }
    ∷ record { entries = 0 ∷ 1 ∷ 1 ∷ 1 ∷ 1 ∷ 5 ∷ []; number = 0; list = [] }
    ∷ []

unfoldable pub rows : List Row
rows = map on_family image_rows ++ map on_table table_rows

unfoldable pub same_list : List ℕ → List ℕ → Bool
same_list [] [] = true
same_list [] (y ∷ ys) = false
same_list (x ∷ xs) [] = false
same_list (x ∷ xs) (y ∷ ys) = eqb x y && same_list xs ys

-- with buffers of just the lengths that refusal 7 asks
unfoldable pub table_row_holds : TableRow → Bool
table_row_holds r =
    eqb (table_refusal r.entries (length r.entries) (table_capacity r.entries)) r.number
    && same_list (cond (eqb r.number 11) (counterexample r.entries) []) r.list

unfoldable pub holds : Row → Bool
holds (on_family r) = image_row_holds r
holds (on_table r) = table_row_holds r

unfoldable pub all_hold : List Row → Bool
all_hold [] = true
all_hold (r ∷ rs) = holds r && all_hold rs
