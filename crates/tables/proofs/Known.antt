-- What the bests that are known so far say of the sums that a loop reads.
use mathlib.Core.Path.{◌≡◌}
use mathlib.Core.List.{List}
use Prim.Native.Nat.{ℕ, ◌+◌, ◌-◌, ◌*◌, ◌≤◌, ◌<◌}
use native.Mathlib.Omega.{arith}
use lib.ListN.{length, get_or}
use Rattle.functions.specs.Words.{limit}
use Rattle.tables.specs.Table.{entry, best}
use Rattle.tables.specs.Check.{most_entries}
use Rattle.tables.specs.Working.{AreBests}
use Rattle.tables.proofs.Entries.{entry_is}
use Rattle.tables.proofs.Best.{best_most}

module _ (t totals : List ℕ) (b : AreBests t totals) where
  pub known_small : (j : ℕ) → j < length totals → get_or totals j 0 ≤ limit * most_entries
  known_small j l = omega (arith, b.holds j l, best_most t b.form j, b.in_table, b.form.most)

  -- an entry and the best of what it leaves
  pub entry_sum : (c y : ℕ) → c < length totals → get_or t y 0 + get_or totals (c - y) 0 ≡ entry t y + best t (c - y)
  entry_sum c y l = omega (arith, entry_is t y, b.holds (c - y) (omega arith))
