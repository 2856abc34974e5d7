-- What is promised of each accepted step. `proofs/Promise.antt` proves it of each family step that refusals 1 to 4 leave, as `family_promise`.
use Rattle.std.specs.Prelude.{◌≡◌, ℕ, ◌+◌, ◌≤◌}
use Rattle.functions.specs.Words.{limit, DualFeasible}
use Rattle.functions.specs.Families.{family_image, family_scale}
use Rattle.functions.specs.Image.{family_refusal}

-- f is the step's function, c its capacity and d its scale
pub record StepPromise (f : ℕ → ℕ) (c d : ℕ) : Type 0 where
  pub dual_feasible : DualFeasible f c d
  pub scale_is_image : f c ≡ d
  pub scale_positive : 1 ≤ d
  pub scale_within_limit : d ≤ limit
  pub image_within_scale : (x : ℕ) → x ≤ c → f x ≤ d

abbrev pub FamilyPromise : ℕ → ℕ → ℕ → ℕ → Type 0
FamilyPromise c family p q = StepPromise (family_image c family p q) c (family_scale c family p q)

-- f is superadditive up to c, and nothing comes of nothing
pub record Superadditive (f : ℕ → ℕ) (c : ℕ) : Type 0 where
  pub at_zero : f 0 ≡ 0
  pub sums : (x y : ℕ) → x + y ≤ c → f x + f y ≤ f (x + y)

-- an accepted step that changes no size and no capacity
pub record Identity (c family p q : ℕ) : Type 0 where
  pub accepted : family_refusal c family p q ≡ 0
  pub scale_is : family_scale c family p q ≡ c
  pub image_is : (x : ℕ) → x ≤ c → family_image c family p q x ≡ x
