-- The words of document 01, "Words".
use Rattle.std.specs.Prelude.{List, [], ◌∷◌, map, Bool, ◌&&◌, ℕ, ◌+◌, ◌*◌, ◌≤◌, ◌<◌, leb, length, get_or}

-- the greatest capacity, parameter, scale and table entry
abbrev pub limit : ℕ
limit = 4_000_000_000

-- refusal 1 is that this is false
unfoldable pub capacity_fits : ℕ → Bool
capacity_fits c = leb 1 c && leb c limit

-- the sum of a list
unfoldable pub total : List ℕ → ℕ
total [] = 0
total (x ∷ xs) = x + total xs

-- the greatest count, and the total of count × number
abbrev pub most_count : ℕ
most_count = 65_535

unfoldable pub weighted : List ℕ → List ℕ → ℕ
weighted [] xs = 0
weighted (n ∷ counts) [] = 0
weighted (n ∷ counts) (x ∷ xs) = n * x + weighted counts xs

-- each number of a list is at most c
abbrev pub EachWithin : ℕ → List ℕ → Type 0
EachWithin c xs = (i : ℕ) → i < length xs → get_or xs i 0 ≤ c

-- f is dual_feasible from the capacity c to the scale d: the images of each list that fits c total at most d
unfoldable pub DualFeasible : (ℕ → ℕ) → ℕ → ℕ → Type 0
DualFeasible f c d = (xs : List ℕ) → total xs ≤ c → total (map f xs) ≤ d
