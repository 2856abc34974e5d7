-- Within the crate: what the loop over p keeps, and the answer that it leaves.
use Rattle.std.specs.Prelude.{◌≡◌, List, [], ◌∷◌, ◌++◌, map, ℕ, ◌+◌, ◌-◌, ◌*◌, ◌≤◌, length, Option, Some, None, IfSome, Result, Ok, Err}
use Rattle.refusals.specs.Number.{number_of}
use Rattle.refusals.specs.declared.Refusal.{Refusal}
use Rattle.functions.specs.Words.{limit, most_count, weighted}
use Rattle.functions.specs.Families.{family_image}
use Rattle.sweeps.specs.Sweep.{sweep_floor, passing, refused_sweep, best_of}
use Rattle.sweeps.specs.declared.SweepAnswer.{SweepAnswer}
use Rattle.sweeps.specs.declared.sweep.Best.{Best}
use Rattle.sweeps.specs.declared.sweep.Sweep.{Sweep}
use Rattle.sweeps.specs.declared.sweep.Swept.{Swept}

-- the weighted sum of the step with p alone, and how great it is
pub record SumAt (s : Sweep) (p sum : ℕ) : Type 0 where
  pub sum_is : sum ≡ weighted s.list.counts.now (map (family_image s.list.capacity s.family p 0) s.list.sizes.now)
  pub sum_most : sum ≤ length s.list.sizes.now * (most_count * limit)

-- the sum of the number before p, where it is known
abbrev pub SumBefore : Sweep → ℕ → Option ℕ → Type 0
SumBefore s p before = IfSome before (λ sum. (1 ≤ p) × SumAt s (p - 1) sum)

abbrev pub floors : Sweep → ℕ → ℕ
floors s = sweep_floor s.list.capacity s.family s.list.sizes.now s.list.counts.now

-- the answer for the best parameter, or for none
abbrev pub found : Best → SweepAnswer
found best = record { number = 0; floor = best.floor; p = best.p }

abbrev pub answer_of : Option Best → SweepAnswer
answer_of None = refused_sweep 20
answer_of (Some best) = found best

abbrev pub told : Result Best Refusal → SweepAnswer
told (Ok best) = found best
told (Err refusal) = refused_sweep (number_of refusal)

-- the better of the best so far and p with its floor
abbrev pub Better : Option Best → ℕ → ℕ → Best → Type 0
Better best floor p next =
    (f : ℕ → ℕ) (ps : List ℕ) → answer_of best ≡ best_of f ps → floor ≡ f p → answer_of (Some next) ≡ best_of f (ps ++ (p ∷ []))

-- n numbers of the range were tried
pub record SweptTo (s : Sweep) (n : ℕ) (swept : Swept) : Type 0 where
  pub best_is : answer_of swept.best ≡ best_of (floors s) (passing s.list.capacity s.family s.low n)
  pub sum_before : SumBefore s (s.low + n) swept.sum
