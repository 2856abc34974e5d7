-- A packing renumbered by first use: the bin that is used first becomes 0, the next other one 1, and so on.
use Rattle.std.specs.Prelude.{cond, List, [], ◌∷◌, ◌++◌, map, ℕ, suc, eqb}
use Rattle.jobs.specs.Packing.{member}

-- `seen`, and behind it the bins of a packing that are not in it, in the order of their first use
unfoldable pub used_from : List ℕ → List ℕ → List ℕ
used_from seen [] = seen
used_from seen (b ∷ bins) = used_from (cond (member b seen) seen (seen ++ (b ∷ []))) bins

-- the place of a bin in a list, counted from 0; behind the end where it is not there
unfoldable pub place_of : List ℕ → ℕ → ℕ
place_of [] b = 0
place_of (a ∷ seen) b = cond (eqb a b) 0 (suc (place_of seen b))

unfoldable pub renumbered : List ℕ → List ℕ
renumbered bins = map (place_of (used_from [] bins)) bins
