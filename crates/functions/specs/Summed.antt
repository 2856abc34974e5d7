-- Sums of count times number over a list, as the loops make them; within this crate and for those above it.
use Rattle.std.specs.Prelude.{◌≡◌, cond, List, map, ℕ, ◌*◌, ◌^◌, ◌≤◌, ◌<◌, eqb, length, take}
use Rattle.functions.specs.Words.{limit, most_count, weighted}

-- the sum over the first i places of the sizes, where no number is over d
pub record Summed (f : ℕ → ℕ) (d : ℕ) (counts sizes : List ℕ) (sum i : ℕ) : Type 0 where
  pub passed : i ≤ length sizes
  pub sum_is : sum ≡ weighted (take i counts) (map f (take i sizes))
  pub sum_most : sum ≤ i * (most_count * d)

-- 1 for the size v, and 0 for every other: counted, the copies of v
unfoldable pub same_as : ℕ → ℕ → ℕ
same_as v x = cond (eqb x v) 1 0

pub record CopiesOf (v : ℕ) (counts sizes : List ℕ) (n : ℕ) : Type 0 where
  pub copies_are : n ≡ weighted counts (map (same_as v) sizes)
  pub copies_most : n ≤ length sizes * most_count

-- a list whose sum can be carried on: a count for each size, and neither counts nor sums pass their width
pub record Carriable (sizes counts : List ℕ) : Type 0 where
  pub one_each : length counts ≡ length sizes
  pub few_counts : length sizes * most_count < 2 ^ 32
  pub few_sums : 2 * (length sizes * (most_count * limit)) < 2 ^ 64
