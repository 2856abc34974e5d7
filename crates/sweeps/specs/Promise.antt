-- What a sweep's answer means, in document 01's words. `proofs/Swept.antt` proves it as `sweep_largest` and `sweep_none`, with `end` one behind high.
use Rattle.std.specs.Prelude.{◌≡◌, true, List, ℕ, ◌≤◌, ◌<◌}
use Rattle.sweeps.specs.Sweep.{sweep_floor, passes}

-- q stands from `low` on and before `end`, and passes 3 and 4
pub record Eligible (c family low end q : ℕ) : Type 0 where
  pub least : low ≤ q
  pub most : q < end
  pub passes_both : passes c family q ≡ true

-- p gives the largest floor, and each p before it a smaller one
pub record Largest (c family : ℕ) (sizes counts : List ℕ) (low end floor p : ℕ) : Type 0 where
  pub eligible : Eligible c family low end p
  pub floor_is : sweep_floor c family sizes counts p ≡ floor
  pub largest_is : (q : ℕ) → Eligible c family low end q → sweep_floor c family sizes counts q ≤ floor
  pub least_is : (q : ℕ) → Eligible c family low end q → q < p → sweep_floor c family sizes counts q < floor

abbrev pub NoneEligible : ℕ → ℕ → ℕ → ℕ → Type 0
NoneEligible c family low end = (q : ℕ) → Eligible c family low end q → ⊥
