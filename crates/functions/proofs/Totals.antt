-- Sums of lists, and dual_feasible functions, for the crates above: they need unfold neither `total` nor `DualFeasible`.
use mathlib.Core.Path.{◌≡◌, refl, ap, ◌∙◌}
use mathlib.Core.List.{List, [], ◌∷◌, map, map-id, map-map}
use Prim.Native.Nat.{ℕ, zero, suc, ◌+◌, ◌*◌, ◌≤◌}
use native.Mathlib.Omega.{arith}
use lib.ListN.{replicate, take, drop}
use Rattle.functions.specs.Words.{limit, total, weighted, DualFeasible}
use Rattle.functions.specs.Promise.{StepPromise}

pub total_none : total [] ≡ 0
unfolding total
total_none = refl

pub total_cons : (x : ℕ) (xs : List ℕ) → total (x ∷ xs) ≡ x + total xs
unfolding total
total_cons x xs = refl

pub weighted_no_counts : (xs : List ℕ) → weighted [] xs ≡ 0
unfolding weighted
weighted_no_counts xs = refl

pub weighted_none : (counts : List ℕ) → weighted counts [] ≡ 0
unfolding weighted
weighted_none [] = refl
weighted_none (n ∷ counts) = refl

pub weighted_cons : (n : ℕ) (counts : List ℕ) (x : ℕ) (xs : List ℕ) → weighted (n ∷ counts) (x ∷ xs) ≡ n * x + weighted counts xs
unfolding weighted
weighted_cons n counts x xs = refl

pub weighted_split : (m : ℕ) (counts xs : List ℕ) → weighted counts xs ≡ weighted (take m counts) (take m xs) + weighted (drop m counts) (drop m xs)
unfolding weighted
weighted_split zero counts xs = omega arith
weighted_split (suc m) [] xs = refl
weighted_split (suc m) (n ∷ counts) [] = omega (arith, weighted_none (drop m counts))
weighted_split (suc m) (n ∷ counts) (x ∷ xs) = omega (arith, weighted_split m counts xs)

pub total_first : (n : ℕ) (xs : List ℕ) → total (take n xs) ≤ total xs
unfolding total
total_first zero xs = omega arith
total_first (suc n) [] = omega arith
total_first (suc n) (x ∷ xs) = omega (arith, total_first n xs)

pub total_plus : (f g : ℕ → ℕ) (xs : List ℕ) → total (map (λ x. f x + g x) xs) ≡ total (map f xs) + total (map g xs)
unfolding total
total_plus f g [] = refl
total_plus f g (x ∷ xs) = omega (arith, total_plus f g xs)

pub total_repeated : (f : ℕ → ℕ) (n a : ℕ) → total (map f (replicate n a)) ≡ n * f a
unfolding total
total_repeated f zero a = omega arith
total_repeated f (suc n) a = omega (arith, total_repeated f n a)

pub feasible_images : {f : ℕ → ℕ} {c d : ℕ} → StepPromise f c d → (xs : List ℕ) → total xs ≤ c → total (map f xs) ≤ d
unfolding DualFeasible
feasible_images p = p.dual_feasible

-- no step at all
pub identity_promise : (c : ℕ) → 1 ≤ c → c ≤ limit → StepPromise (λ x. x) c c
unfolding DualFeasible
identity_promise c l m =
    record {
      dual_feasible = λ xs h. rw map-id h;
      scale_is_image = refl;
      scale_positive = l;
      scale_within_limit = m;
      image_within_scale = λ x h. h;
    }

-- two functions of which the second's capacity is the first's scale
pub composed_promise : (f g : ℕ → ℕ) (c d e : ℕ) → StepPromise f c d → StepPromise g d e → StepPromise (λ x. g (f x)) c e
unfolding DualFeasible
composed_promise f g c d e F G =
    record {
      dual_feasible = λ xs h. rw (← (map-map g f xs)) (G.dual_feasible (map f xs) (F.dual_feasible xs h));
      scale_is_image = ap g F.scale_is_image ∙ G.scale_is_image;
      scale_positive = G.scale_positive;
      scale_within_limit = G.scale_within_limit;
      image_within_scale = λ x h. G.image_within_scale (f x) (F.image_within_scale x h);
    }
