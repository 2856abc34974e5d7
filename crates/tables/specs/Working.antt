-- What the functions that fill and read the working buffer ask of it.
use Rattle.std.specs.Prelude.{◌≡◌, List, ℕ, ◌≤◌, ◌<◌, length, get_or}
use Rattle.tables.specs.Table.{best}
use Rattle.tables.specs.Check.{TableForm}

-- a table whose form passed, and its bests from best 0 on, as many as there are totals
pub record AreBests (t totals : List ℕ) : Type 0 where
  pub form : TableForm t
  pub in_table : length totals ≤ length t
  pub holds : (j : ℕ) → j < length totals → get_or totals j 0 ≡ best t j
