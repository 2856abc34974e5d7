-- The table check of document 01, "Operations and what they refuse": the answer, and what the lent buffers hold afterwards.
use Rattle.std.specs.Prelude.{◌≡◌, Bool, true, cond, not, ◌&&◌, ◌||◌, List, [], ◌∷◌, ◌++◌, ℕ, ◌-◌, ◌≤◌, leb, ltb, eqb, length, drop}
use Rattle.functions.specs.Words.{limit}
use Rattle.tables.specs.Table.{entry, table_capacity, table_scale, best, all_bests, counterexample}
use Rattle.tables.specs.declared.TableAnswer.{TableAnswer}

-- the most entries of a table
abbrev pub most_entries : ℕ
most_entries = 2_048

-- refusal 10 is that this is false
unfoldable pub within_limit : List ℕ → Bool
within_limit [] = true
within_limit (x ∷ xs) = leb x limit && within_limit xs

-- the number that refuses a table for its form, or 0
unfoldable pub form_refusal : List ℕ → ℕ
form_refusal t =
    cond (not (eqb (entry t 0) 0)) 8
    (cond (eqb (table_scale t) 0) 9
    (cond (not (within_limit t)) 10 0))

-- document 01's form: 2 to 2,048 entries, the first 0, the last at least 1, none over the limit. Refusals 6 and 8 to 10 test it
pub record TableForm (t : List ℕ) : Type 0 where
  pub least : 2 ≤ length t
  pub most : length t ≤ most_entries
  pub first : entry t 0 ≡ 0
  pub last : 1 ≤ table_scale t
  pub small : (x : ℕ) → entry t x ≤ limit

-- the number that refuses a table for its entries, or 0
unfoldable pub entries_refusal : List ℕ → ℕ
entries_refusal t =
    cond (eqb (form_refusal t) 0)
    (cond (ltb (table_scale t) (best t (table_capacity t))) 11 0)
    (form_refusal t)

-- the number that refuses a number of entries and buffers of two lengths, or 0
unfoldable pub length_refusal : ℕ → ℕ → ℕ → ℕ
length_refusal entries working list =
    cond (ltb entries 2 || ltb most_entries entries) 6
    (cond (ltb working entries || ltb list (entries - 1)) 7 0)

-- the number that refuses a table for its form or for the lengths, or 0
unfoldable pub shape_refusal : List ℕ → ℕ → ℕ → ℕ
shape_refusal t working list =
    cond (eqb (length_refusal (length t) working list) 0) (form_refusal t) (length_refusal (length t) working list)

-- what refusals 6 to 10 leave
pub record Passed (t : List ℕ) (working list : ℕ) : Type 0 where
  pub form : TableForm t
  pub working_room : length t ≤ working
  pub list_room : table_capacity t ≤ list

-- the number that refuses a table check, or 0
unfoldable pub table_refusal : List ℕ → ℕ → ℕ → ℕ
table_refusal t working list =
    cond (eqb (length_refusal (length t) working list) 0) (entries_refusal t) (length_refusal (length t) working list)

-- the whole answer: the number, and at 11 the length of the counterexample
unfoldable pub table_answer : List ℕ → ℕ → ℕ → TableAnswer
table_answer t working list =
    record {
      number = table_refusal t working list;
      length = cond (eqb (table_refusal t working list) 11) (length (counterexample t)) 0;
    }

-- a buffer with xs from its first place on, and the other places as they were
unfoldable pub at_front : List ℕ → List ℕ → List ℕ
at_front xs buffer = xs ++ drop (length xs) buffer

-- the working buffer afterwards: best 0 to best C, unless 6 to 10 refused
unfoldable pub working_after : List ℕ → List ℕ → List ℕ → List ℕ
working_after t working list =
    cond (eqb (table_refusal t (length working) (length list)) 0 || eqb (table_refusal t (length working) (length list)) 11)
    (at_front (all_bests t) working)
    working

-- the list buffer afterwards: at 11 the counterexample, else as it was
unfoldable pub list_after : List ℕ → List ℕ → List ℕ → List ℕ
list_after t working list =
    cond (eqb (table_refusal t (length working) (length list)) 11) (at_front (counterexample t) list) list
