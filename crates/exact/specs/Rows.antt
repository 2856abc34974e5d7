-- The definitions of renumbering at small inputs. `proofs/Renaming.antt` proves these rows, by computation.
use Rattle.std.specs.Prelude.{◌≡◌, [], ◌∷◌}
use Rattle.exact.specs.Renumber.{used_from, place_of, renumbered}

pub record RenumberRows : Type 0 where
  pub used_once : used_from [] (4 ∷ 1 ∷ 4 ∷ 7 ∷ []) ≡ 4 ∷ 1 ∷ 7 ∷ []
  pub used_before : used_from (1 ∷ []) (4 ∷ 1 ∷ []) ≡ 1 ∷ 4 ∷ []
  pub place_there : place_of (4 ∷ 1 ∷ 7 ∷ []) 7 ≡ 2
  pub place_nowhere : place_of (4 ∷ 1 ∷ 7 ∷ []) 5 ≡ 3
  pub by_first_use : renumbered (4 ∷ 1 ∷ 4 ∷ 7 ∷ []) ≡ 0 ∷ 1 ∷ 0 ∷ 2 ∷ []
