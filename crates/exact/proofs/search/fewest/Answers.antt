-- `fewest` meets its contract: the search begins with one window more than there are copies.
use native.Mathlib.Numerals.{add-one}
use Rattle.exact.proofs.Least.{search_fewest}
use Rattle.exact.proofs.search.fewest.Goals as goal

pub returns : goal.returns
returns c = search_fewest _ _ c.requires.measurable _ c.least_windows-least.ensures _ _ _ _ (rw add-one at c.place.ensures)
