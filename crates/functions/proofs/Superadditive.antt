-- From superadditive to dual-feasible: one lemma for all seven families.
use mathlib.Core.Path.{◌≡◌, refl, ap}
use mathlib.Core.List.{List, [], ◌∷◌, ◌++◌, map}
use mathlib.Core.Logic.{⊎_elim}
use Prim.Native.Nat.{ℕ, zero, suc, ◌+◌, ◌-◌, ◌*◌, ◌≤◌, ◌<◌, zero-le}
use native.Mathlib.Nat.{le_trans, le_refl, eq-zero-or-pos, mul-le-mul_left}
use native.Mathlib.Omega.{arith}
use lib.ListN.{replicate}
use Rattle.functions.specs.Words.{total, DualFeasible}
pub use Rattle.functions.specs.Promise.{Superadditive}

pub total_append : (xs ys : List ℕ) → total (xs ++ ys) ≡ total xs + total ys
unfolding total
total_append [] ys = omega arith
total_append (x ∷ xs) ys = omega (arith, total_append xs ys)

module _ (f : ℕ → ℕ) (c : ℕ) (h : Superadditive f c) where
  pub monotone : (x y : ℕ) → x ≤ y → y ≤ c → f x ≤ f y
  monotone x y le fits =
      let split : x + (y - x) ≡ y = omega arith in
      let sum : f x + f (y - x) ≤ f (x + (y - x)) = h.sums x (y - x) (omega arith) in
      omega (arith, sum, ap f split)

  -- the images of a list that fits total at most the image of its total
  pub images_total : (xs : List ℕ) → total xs ≤ c → total (map f xs) ≤ f (total xs)
  unfolding total
  images_total [] fits = zero-le
  images_total (x ∷ xs) fits =
      let rest : total (map f xs) ≤ f (total xs) = images_total xs (omega arith) in
      let sum : f x + f (total xs) ≤ f (x + total xs) = h.sums x (total xs) fits in
      omega (arith, rest, sum)

  pub dual_feasible : DualFeasible f c (f c)
  unfolding DualFeasible
  dual_feasible xs fits = le_trans (images_total xs fits) (monotone (total xs) c fits (le_refl c))

-- "It follows that f(0) = 0": more zeros than the scale fit any capacity
module _ (f : ℕ → ℕ) where
  zeros : (n : ℕ) → total (replicate n 0) ≡ 0
  unfolding total
  zeros zero = refl
  zeros (suc n) = omega (arith, zeros n)

  zeros_images : (n : ℕ) → total (map f (replicate n 0)) ≡ n * f 0
  unfolding total
  zeros_images zero = omega arith
  zeros_images (suc n) = omega (arith, zeros_images n)

  pub image_of_zero : (c d : ℕ) → DualFeasible f c d → f 0 ≡ 0
  unfolding DualFeasible
  image_of_zero c d h = ⊎_elim (λ e. e) positive (eq-zero-or-pos (f 0))
    where
      most : total (map f (replicate (suc d) 0)) ≤ d
      most = h (replicate (suc d) 0) (omega (arith, zeros (suc d)))

      positive : 0 < f 0 → f 0 ≡ 0
      positive l = absurd (omega (arith, most, zeros_images (suc d), mul-le-mul_left (suc d) l))
