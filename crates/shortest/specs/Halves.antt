-- Within the crate: sizes in two halves, each with a part of the capacity.
use Rattle.std.specs.Prelude.{List, ℕ, ◌+◌, ◌-◌, ◌*◌, ◌/◌, ◌≤◌, ◌<◌, length, get_or}
use Rattle.functions.specs.Words.{total}
use Rattle.tables.specs.Table.{table_capacity, table_scale}
use Rattle.tables.specs.Promise.{Overshoots}
use Rattle.shortest.specs.Rows.{Bounding, Greatest, image_total}

-- what the first row has at a place, and the second at the same place from its end
abbrev pub pair_sum : List ℕ → List ℕ → ℕ → ℕ
pair_sum first rest i = get_or first i 0 + get_or rest (length first - 1 - i) 0

-- up to the middle, no such sum is over v
pub record PairsWithin (first rest : List ℕ) (v : ℕ) : Type 0 where
  pub within : (i : ℕ) → 2 * i < length first → pair_sum first rest i ≤ v

-- one is, at s
pub record PairOver (first rest : List ℕ) (v s : ℕ) : Type 0 where
  pub in_half : 2 * s < length first
  pub over : v < pair_sum first rest s

-- the greatest is at s
pub record GreatestPair (first rest : List ℕ) (s : ℕ) : Type 0 where
  pub in_half : 2 * s < length first
  pub most : PairsWithin first rest (pair_sum first rest s)

-- of n sizes, half reach at most `half` in the part s of c, and the others at most `others` in the rest
pub record Parts (t : List ℕ) (n c s half others : ℕ) : Type 0 where
  pub half_is : Greatest t (n / 2) s half
  pub others_is : Greatest t (n - n / 2) (c - s) others

-- a list that fits c and reaches what both parts reach
pub record PartsWritten (t : List ℕ) (n c s : ℕ) (xs : List ℕ) : Type 0 where
  pub fits : total xs ≤ c
  pub reaches : (half others : ℕ) → Parts t n c s half others → half + others ≤ image_total t xs

-- both parts together reach what n sizes reach in c
pub record Halves (t : List ℕ) (n c s : ℕ) : Type 0 where
  pub within : s ≤ c
  pub half : ℕ
  pub others : ℕ
  pub parts : Parts t n c s half others
  pub most : Bounding t n c (half + others)

-- a list that fits c, and no list of at most as many sizes that fits c has a greater total of images
pub record GreatestList (t : List ℕ) (c : ℕ) (xs : List ℕ) : Type 0 where
  pub fits : total xs ≤ c
  pub most : Bounding t (length xs) c (image_total t xs)

-- no list of fewer sizes than n overshoots
abbrev pub AtLeast : List ℕ → ℕ → Type 0
AtLeast t n = (xs : List ℕ) → Overshoots t xs → n ≤ length xs

-- n sizes overshoot, half of them in the part s of the capacity, and no fewer do
pub record Fewest (t : List ℕ) (n s : ℕ) : Type 0 where
  pub within : s ≤ table_capacity t
  pub half : ℕ
  pub others : ℕ
  pub parts : Parts t n (table_capacity t) s half others
  pub over : table_scale t < half + others
  pub least : AtLeast t n
