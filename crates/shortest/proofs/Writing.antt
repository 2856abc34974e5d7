-- Lists of one size and of none, and the invariant of the loop that looks for one size.
use mathlib.Core.Path.{◌≡◌, refl, ap}
use mathlib.Core.List.{List, [], ◌∷◌}
use mathlib.Core.Logic.{⊎_elim}
use Prim.Native.Nat.{ℕ, suc, ◌+◌, ◌-◌, ◌≤◌, ◌<◌, zero-le}
use native.Mathlib.Nat.{eq-or-lt_of_le}
use native.Mathlib.Omega.{arith}
use lib.ListN.{length, set}
use Rattle.functions.specs.Words.{total}
use Rattle.tables.specs.Table.{entry}
use Rattle.shortest.specs.Rows.{image_total, GreatestEntry}
use Rattle.shortest.specs.Halves.{GreatestList}
use Rattle.shortest.proofs.Greatest.{none_most}

pub greatest_start : (t : List ℕ) → GreatestEntry t 1 0
greatest_start t = record { in_row = omega arith; most = λ y l. let here : y ≡ 0 = omega arith in omega (arith, ap (entry t) here) }

module _ {t : List ℕ} {y size : ℕ} (g : GreatestEntry t y size) where
  at : (z m : ℕ) → entry t y ≤ m → suc z ≡ y + 1 → entry t z ≤ m
  at z m l e = let here : y ≡ z = omega arith in omega (arith, ap (entry t) here)

  pub greatest_kept : entry t y ≤ entry t size → GreatestEntry t (y + 1) size
  greatest_kept less =
      record { in_row = omega (arith, g.in_row); most = λ z l. ⊎_elim (at z (entry t size) less) (λ m. g.most z (omega arith)) (eq-or-lt_of_le l) }

  pub greatest_taken : entry t size < entry t y → GreatestEntry t (y + 1) y
  greatest_taken more =
      record { in_row = omega arith; most = λ z l. ⊎_elim (at z (entry t y) (omega arith)) (λ m. omega (arith, g.most z (omega arith))) (eq-or-lt_of_le l) }

-- no size, and one
module _ (t : List ℕ) (c : ℕ) where
  pub greatest_none : GreatestList t c []
  unfolding total
  greatest_none = record { fits = zero-le; most = record { bounds = none_most t c } }

  pub greatest_one : (places size : ℕ) → GreatestEntry t places size → c ≡ places - 1 → 1 ≤ places → GreatestList t c (size ∷ [])
  unfolding total
  greatest_one places size g last some = record { fits = omega (arith, g.in_row); most = record { bounds = one } }
    where
      one : (xs : List ℕ) → length xs ≤ 1 → total xs ≤ c → image_total t xs ≤ image_total t (size ∷ [])
      one [] few fits = zero-le
      one (x ∷ []) few fits = omega (arith, g.most x (omega arith))
      one (x ∷ y ∷ xs) few fits = absurd (omega arith)

pub one_set : (xs : List ℕ) (v : ℕ) → length xs ≡ 1 → set xs 0 v ≡ v ∷ []
one_set [] v e = absurd (omega arith)
one_set (x ∷ []) v e = refl
one_set (x ∷ y ∷ xs) v e = absurd (omega arith)
