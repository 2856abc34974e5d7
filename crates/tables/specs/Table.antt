-- Tables of document 01, "Tables": entries, the greatest totals and the counterexample.
-- t is a table, c a capacity up to the table's own, and y a size.
use Rattle.std.specs.Prelude.{cond, List, [], ◌∷◌, reverse, ℕ, zero, suc, ◌+◌, ◌-◌, max, eqb, length, get_or, drop}

-- the image of a size
unfoldable pub entry : List ℕ → ℕ → ℕ
entry t x = get_or t x 0

unfoldable pub table_capacity : List ℕ → ℕ
table_capacity t = length t - 1

-- the last entry, document 01's D
unfoldable pub table_scale : List ℕ → ℕ
table_scale t = entry t (table_capacity t)

-- the greatest sum of a number of the first list and the one in its place in the second, or 0
unfoldable pub greatest_sum : List ℕ → List ℕ → ℕ
greatest_sum [] bs = 0
greatest_sum (x ∷ xs) [] = 0
greatest_sum (x ∷ xs) (b ∷ bs) = max (x + b) (greatest_sum xs bs)

-- best c, …, best 1, best 0: a list of sizes that fits is empty, or has a first size y, and entry y is added to best (c - y)
unfoldable pub bests : List ℕ → ℕ → List ℕ
bests t zero = 0 ∷ []
bests t (suc c) = greatest_sum (drop 1 t) (bests t c) ∷ bests t c

-- the greatest total of images over lists of sizes with total at most c
unfoldable pub best : List ℕ → ℕ → ℕ
best t c = get_or (bests t c) 0 0

-- best 0, best 1, …, best C
unfoldable pub all_bests : List ℕ → List ℕ
all_bests t = reverse (bests t (table_capacity t))

-- the least size from y on, of at most k more, with entry y + best (c - y) = best c
unfoldable pub least_from : List ℕ → ℕ → ℕ → ℕ → ℕ
least_from t c y zero = y
least_from t c y (suc k) = cond (eqb (entry t y + best t (c - y)) (best t c)) y (least_from t c (suc y) k)

unfoldable pub least_size : List ℕ → ℕ → ℕ
least_size t c = least_from t c 1 (c - 1)

-- the counterexample from c on; c falls with each size, so k = c sizes are enough
unfoldable pub walk : List ℕ → ℕ → ℕ → List ℕ
walk t zero c = []
walk t (suc k) c = cond (eqb (best t c) 0) [] (least_size t c ∷ walk t k (c - least_size t c))

unfoldable pub counterexample : List ℕ → List ℕ
counterexample t = walk t (table_capacity t) (table_capacity t)
