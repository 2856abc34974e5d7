-- What is promised of tables. `proofs/Promise.antt` proves it as `table_promise` and `counterexample_promise`, `proofs/Best.antt` as `best_bounds` and `best_reached`.
use Rattle.std.specs.Prelude.{◌≡◌, List, map, ◌↔◌, ℕ, ◌≤◌, ◌<◌, length}
use Rattle.functions.specs.Words.{total, DualFeasible}
use Rattle.functions.specs.Promise.{StepPromise}
use Rattle.tables.specs.Table.{entry, table_capacity, table_scale, best}
use Rattle.tables.specs.Check.{TableForm, table_refusal}

-- a list that fits c and reaches best c
pub record Reached (t : List ℕ) (c : ℕ) : Type 0 where
  pub sizes : List ℕ
  pub fits : total sizes ≤ c
  pub reaches : total (map (entry t) sizes) ≡ best t c

-- a table of document 01's form that is dual_feasible
pub record Feasible (t : List ℕ) : Type 0 where
  pub form : TableForm t
  pub dual_feasible : DualFeasible (entry t) (table_capacity t) (table_scale t)

-- with buffers that are long enough a check answers 0 exactly for these
abbrev pub AcceptedExactly : List ℕ → ℕ → ℕ → ℕ → Type 0
AcceptedExactly t working list number = length t ≤ working → table_capacity t ≤ list → (number ≡ 0) ↔ Feasible t

-- of a check with buffers of these lengths: accepted exactly when feasible, and then a step like any other
pub record TablePromise (t : List ℕ) (working list : ℕ) : Type 0 where
  pub accepted_exactly : AcceptedExactly t working list (table_refusal t working list)
  pub step : table_refusal t working list ≡ 0 → StepPromise (entry t) (table_capacity t) (table_scale t)

-- a list that fits the table's capacity, with images that total more than its scale
pub record Overshoots (t xs : List ℕ) : Type 0 where
  pub fits : total xs ≤ table_capacity t
  pub images_over : table_scale t < total (map (entry t) xs)
