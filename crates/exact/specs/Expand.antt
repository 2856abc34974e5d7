-- Within the crate: the copies of a list in the first places of a buffer.
use Rattle.std.specs.Prelude.{◌≡◌, List, ℕ, ◌≤◌, length, take}
use Rattle.functions.specs.Words.{limit, total, EachWithin}
use Rattle.jobs.specs.Packing.{copies}
use Rattle.exact.specs.Exact.{most_copies}

pub record Expanded (sizes counts : List ℕ) (n : ℕ) (places : List ℕ) : Type 0 where
  pub count_is : n ≡ total counts
  pub copies_are : take n places ≡ copies counts sizes

-- a short list at a capacity, and what a search starts from
pub record Measurable (c : ℕ) (sizes : List ℕ) : Type 0 where
  pub capacity_positive : 1 ≤ c
  pub capacity_within_limit : c ≤ limit
  pub within_sizes : EachWithin c sizes
  pub few : length sizes ≤ most_copies

pub record Searchable (c : ℕ) (sizes windows : List ℕ) : Type 0 where
  pub measurable : Measurable c sizes
  pub place_for_each : length sizes ≤ length windows
