-- The sweep of document 01, "Operations and what they refuse", and document 02, request 4: the largest one_step floor over a range of p, and the least p that gives it.
use Rattle.std.specs.Prelude.{Bool, cond, not, ◌&&◌, ◌||◌, List, [], ◌∷◌, ◌++◌, map, ℕ, zero, suc, ◌+◌, ◌-◌, max, leb, ltb, eqb}
use Rattle.functions.specs.Words.{capacity_fits}
use Rattle.fields.specs.Parts.{on_family}
use Rattle.chains.specs.Chain.{step_refusal, chain_floor}
use Rattle.lists.specs.Counted.{counted_refusal}
use Rattle.sweeps.specs.declared.SweepAnswer.{SweepAnswer}

-- the most that high is above low
abbrev pub widest : ℕ
widest = 4_095

unfoldable pub range_refusal : ℕ → ℕ → ℕ
range_refusal low high = cond (ltb high low || ltb widest (high - low)) 19 0

-- refusals 1, 2, those of the list, and 19, in the papers' order; 20 is that no p of the range passes 3 and 4
unfoldable pub sweep_refusal : ℕ → ℕ → List ℕ → List ℕ → ℕ → ℕ → ℕ
sweep_refusal c family sizes counts low high =
    cond (not (capacity_fits c)) 1
    (cond (not (leb 1 family && leb family 5)) 2
    (cond (eqb (counted_refusal c sizes counts) 0) (range_refusal low high) (counted_refusal c sizes counts)))

-- the floor of the step with p alone
unfoldable pub sweep_floor : ℕ → ℕ → List ℕ → List ℕ → ℕ → ℕ
sweep_floor c family sizes counts p = chain_floor c (on_family family p 0 ∷ []) counts sizes

-- p passes 3 and 4, where 1 and 2 are passed
unfoldable pub passes : ℕ → ℕ → ℕ → Bool
passes c family p = eqb (step_refusal c (on_family family p 0)) 0

-- those of the n numbers from `low` on that pass, ascending
unfoldable pub passing : ℕ → ℕ → ℕ → ℕ → List ℕ
passing c family low zero = []
passing c family low (suc n) = passing c family low n ++ cond (passes c family (low + n)) ((low + n) ∷ []) []

-- the largest of a list
unfoldable pub largest : List ℕ → ℕ
largest [] = 0
largest (x ∷ xs) = max x (largest xs)

-- the first p of a list with the floor v
unfoldable pub first_with : (ℕ → ℕ) → ℕ → List ℕ → ℕ
first_with f v [] = 0
first_with f v (p ∷ ps) = cond (eqb (f p) v) p (first_with f v ps)

abbrev pub refused_sweep : ℕ → SweepAnswer
refused_sweep number = record { number = number; floor = 0; p = 0 }

-- the largest floor of an ascending list, and the least p that gives it; 20 for the empty list
unfoldable pub best_of : (ℕ → ℕ) → List ℕ → SweepAnswer
best_of f [] = refused_sweep 20
best_of f (p ∷ ps) = record { number = 0; floor = largest (map f (p ∷ ps)); p = first_with f (largest (map f (p ∷ ps))) (p ∷ ps) }

-- the whole operation
unfoldable pub sweep_answer : ℕ → ℕ → List ℕ → List ℕ → ℕ → ℕ → SweepAnswer
sweep_answer c family sizes counts low high =
    cond (eqb (sweep_refusal c family sizes counts low high) 0)
    (best_of (sweep_floor c family sizes counts) (passing c family low (suc (high - low))))
    (refused_sweep (sweep_refusal c family sizes counts low high))
