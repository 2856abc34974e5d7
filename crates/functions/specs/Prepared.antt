-- Within the crate: the greatest p that a family takes at all, and what of a step no size changes.
use Rattle.std.specs.Prelude.{cond, ℕ, ◌%◌, eqb}
use Rattle.functions.specs.Words.{limit}
use Rattle.functions.specs.Families.{quotient, vanderbeck, letchford_lodi}

-- only family 2 takes a p over the capacity
abbrev pub greatest_p : ℕ → ℕ → ℕ
greatest_p c family = cond (eqb family 2) limit c

-- the value at the capacity of what families 3, 4 and 6 mirror
unfoldable pub top_of : ℕ → ℕ → ℕ → ℕ → ℕ
top_of c family p q =
    cond (eqb family 3) (quotient p c)
    (cond (eqb family 4) (vanderbeck c p c)
    (cond (eqb family 6) (letchford_lodi p q (c % p) c) 0))

-- only family 1 takes p = 0, and its formula has no remainder
abbrev pub remainder_of : ℕ → ℕ → ℕ → ℕ
remainder_of c family p = cond (eqb family 1) 0 (c % p)
