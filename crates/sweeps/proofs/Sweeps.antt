-- The sweep: the best parameter so far, turn by turn, and the safety of the largest floor.
use Rattle.std.specs.Prelude.{Option, Some, None, IfSome, Result, Ok, Err, IfOk, MatchResult}
use mathlib.Core.Path.{◌≡◌, subst, refl, ap, sym, ◌∙◌}
use mathlib.Core.Bool.{Bool, true, false, cond, not, ◌&&◌, ◌||◌, false≢true}
use mathlib.Core.List.{List, [], ◌∷◌, ◌++◌, map, append-nil}
use mathlib.Core.Logic.{◌⊎◌, inl, inr, ⊎_elim}
use Prim.Native.Nat.{ℕ, zero, suc, ◌+◌, ◌-◌, ◌*◌, ◌^◌, ◌≤◌, ◌<◌, max, zero-le}
use native.Mathlib.Nat.{eq-zero-or-pos}
use native.Mathlib.Numerals.{add-one}
use native.Mathlib.Omega.{arith}
use borrow.Author.Tests.{ltb-false, eqb-true, eq-eqb, ne_eqb}
use lib.Dec.{leb, ltb, eqb}
use lib.ListN.{length}
use Rattle.std.proofs.lemmas.Bool.{cases_lt, or_parts}
use Rattle.std.proofs.lemmas.List.{map-append}
use Rattle.functions.specs.Words.{limit, capacity_fits, most_count, EachWithin}
use Rattle.functions.specs.Families.{◌up◌, family_scale}
use Rattle.functions.specs.Image.{family_refusal}
use Rattle.functions.specs.Summed.{Carriable}
use Rattle.functions.proofs.Cases.{not_refused, of_both, then_zero}
use Rattle.functions.proofs.Legal.{passed, capacity_bounds}
use Rattle.fields.specs.Parts.{on_family}
use Rattle.chains.specs.Chain.{step_image, step_scale, step_refusal, chain_image, chain_scale, ChainAccepted, chain_floor}
use Rattle.jobs.specs.Packing.{copies, Fits, bins_used}
use Rattle.lists.specs.Counted.{counted_refusal, CountedList}
use Rattle.lists.proofs.Passed.{counted, of_counted}
use Rattle.sweeps.specs.Sweep.{widest, range_refusal, sweep_refusal, sweep_floor, passes, passing, largest, first_with, refused_sweep, best_of, sweep_answer}
use Rattle.refusals.specs.Number.{number_of, number_in}
use Rattle.refusals.specs.declared.Refusal.{Refusal}
use Rattle.refusals.proofs.Numbers.{number_positive}
use Rattle.sweeps.specs.Progress.{SumAt, Better, SweptTo, floors, found, told}
use Rattle.sweeps.specs.declared.SweepAnswer.{SweepAnswer}
use Rattle.sweeps.specs.declared.sweep.Best.{Best}
use Rattle.sweeps.specs.declared.sweep.Sweep.{Sweep}
use Rattle.sweeps.specs.declared.sweep.Swept.{Swept}
use Rattle.jobs.proofs.Promise.{chain_is_safe}
use Rattle.chains.proofs.SizeTests.{sizes_most}

largest_append : (xs ys : List ℕ) → largest (xs ++ ys) ≡ max (largest xs) (largest ys)
unfolding largest
largest_append [] ys = omega arith
largest_append (x ∷ xs) ys = omega (arith, largest_append xs ys)

module _ (f : ℕ → ℕ) where
  largest_more : (ps qs : List ℕ) → largest (map f (ps ++ qs)) ≡ max (largest (map f ps)) (largest (map f qs))
  largest_more ps qs = ap largest (map-append f ps qs) ∙ largest_append (map f ps) (map f qs)

  largest_one : (p : ℕ) → largest (map f (p ∷ [])) ≡ f p
  unfolding largest
  largest_one p = omega arith

  -- some p of the list has the floor v
  Reaches : ℕ → List ℕ → Type 0
  Reaches v [] = ⊥
  Reaches v (p ∷ ps) = (f p ≡ v) ⊎ Reaches v ps

  largest_reached : (p : ℕ) (ps : List ℕ) → Reaches (largest (map f (p ∷ ps))) (p ∷ ps)
  unfolding Reaches largest
  largest_reached p [] = inl (omega arith)
  largest_reached p (q ∷ ps) = go (largest_reached q ps) (cases_lt (f p) (largest (map f (q ∷ ps))))
    where
      go : Reaches (largest (map f (q ∷ ps))) (q ∷ ps) → (f p < largest (map f (q ∷ ps))) ⊎ (largest (map f (q ∷ ps)) ≤ f p) → Reaches (max (f p) (largest (map f (q ∷ ps)))) (p ∷ q ∷ ps)
      go later (inl less) =
          let same : max (f p) (largest (map f (q ∷ ps))) ≡ largest (map f (q ∷ ps)) = omega arith in
          subst (λ (v : ℕ). Reaches v (p ∷ q ∷ ps)) (sym same) (inr later)
      go later (inr more) = inl (omega arith)

  -- what the list has is found before what stands behind it
  first_kept : (v : ℕ) (ps qs : List ℕ) → Reaches v ps → first_with f v (ps ++ qs) ≡ first_with f v ps
  unfolding Reaches first_with
  first_kept v [] qs r = absurd r
  first_kept v (p ∷ ps) qs r = go (eqb (f p) v) refl r (first_kept v ps qs)
    where
      go : (test : Bool) → eqb (f p) v ≡ test → (f p ≡ v) ⊎ Reaches v ps → (Reaches v ps → first_with f v (ps ++ qs) ≡ first_with f v ps) → cond test p (first_with f v (ps ++ qs)) ≡ cond test p (first_with f v ps)
      go true is r rest = refl
      go false is (inl here) rest = absurd (false≢true (sym is ∙ eq-eqb (f p) v here))
      go false is (inr later) rest = rest later

  -- what the list has not is found behind it
  first_new : (v p : ℕ) (ps : List ℕ) → largest (map f ps) < v → f p ≡ v → first_with f v (ps ++ (p ∷ [])) ≡ p
  unfolding first_with largest
  first_new v p [] l e = rw (eq-eqb (f p) v e)
  first_new v p (q ∷ ps) l e = rw (ne_eqb (f q) v (omega arith)) (first_new v p ps (omega arith) e)

  -- the best of a list by its largest floor and the first p with that
  best_is : (ps : List ℕ) (q v w : ℕ) → largest (map f (q ∷ ps)) ≡ v → first_with f v (q ∷ ps) ≡ w → record { number = 0; floor = v; p = w } ≡ best_of f (q ∷ ps)
  unfolding best_of
  best_is ps q v w floor first =
      let at : ℕ → ℕ → SweepAnswer = λ a b. record { number = 0; floor = a; p = b } in
      sym (ap (λ (a : ℕ). at a (first_with f a (q ∷ ps))) floor ∙ ap (at v) first)

  module _ (best : SweepAnswer) (p : ℕ) where
    -- p is no better than the best so far
    pub best_kept : (ps : List ℕ) → best ≡ best_of f ps → best.number ≡ 0 → f p ≤ best.floor → best ≡ best_of f (ps ++ (p ∷ []))
    unfolding best_of
    best_kept [] is found l = absurd (omega (arith, ap (λ (a : SweepAnswer). a.number) is))
    best_kept (q ∷ ps) is found l =
        let floor : best.floor ≡ largest (map f (q ∷ ps)) = ap (λ (a : SweepAnswer). a.floor) is in
        let same : largest (map f ((q ∷ ps) ++ (p ∷ []))) ≡ largest (map f (q ∷ ps)) = omega (arith, largest_more (q ∷ ps) (p ∷ []), largest_one p) in
        is ∙ best_is _ q _ _ same (first_kept (largest (map f (q ∷ ps))) (q ∷ ps) (p ∷ []) (largest_reached q ps))

    -- p is better, or the first
    pub best_replaced : (ps : List ℕ) → best ≡ best_of f ps → (best.number ≡ 0 → best.floor < f p) → record { number = 0; floor = f p; p = p } ≡ best_of f (ps ++ (p ∷ []))
    unfolding best_of first_with
    best_replaced [] is better = rw (largest_one p, eq-eqb (f p) (f p) refl)
    best_replaced (q ∷ ps) is better =
        let floor : best.floor ≡ largest (map f (q ∷ ps)) = ap (λ (a : SweepAnswer). a.floor) is in
        let less : best.floor < f p = better (ap (λ (a : SweepAnswer). a.number) is) in
        let same : largest (map f ((q ∷ ps) ++ (p ∷ []))) ≡ f p = omega (arith, largest_more (q ∷ ps) (p ∷ []), largest_one p) in
        best_is _ q _ _ same (first_new (f p) p (q ∷ ps) (omega arith) refl)

module _ (c : ℕ) (sizes counts : List ℕ) (fine : CountedList c sizes counts) where
  pub sizes_each : EachWithin c sizes
  sizes_each = sizes_most 1 c sizes fine.within

  pub few_enough : length sizes * (most_count * limit) < 2 ^ 64
  few_enough = omega (arith, fine.few)

  pub carriable : Carriable sizes counts
  carriable = record { one_each = fine.one_each; few_counts = omega (arith, fine.few); few_sums = omega (arith, fine.few) }

-- p passes exactly where its step is accepted
pub refused_fails : (c family p : ℕ) → (family_refusal c family p 0 ≡ 0 → ⊥) → passes c family p ≡ false
unfolding passes step_refusal
refused_fails c family p some = ne_eqb _ 0 some

pub passes_accepted : (c family p : ℕ) → passes c family p ≡ true → family_refusal c family p 0 ≡ 0
unfolding passes step_refusal
passes_accepted c family p e = eqb-true _ 0 e

pub accepted_passes : (c family p : ℕ) → family_refusal c family p 0 ≡ 0 → passes c family p ≡ true
unfolding passes step_refusal
accepted_passes c family p e = eq-eqb _ 0 e

-- where p passes, its step is accepted at the number after the one before it, as a sum of family 1 is carried on
pub accepted_next : (c p : ℕ) → 1 ≤ p → passes c 1 p ≡ true → family_refusal c 1 (p - 1 + 1) 0 ≡ 0
accepted_next c p l e =
    let same : p - 1 + 1 ≡ p = omega arith in
    rw same (passes_accepted c 1 p e)

pub passing_next : (c family low i : ℕ) → passing c family low (i + 1) ≡ passing c family low i ++ cond (passes c family (low + i)) ((low + i) ∷ []) []
unfolding passing
passing_next c family low i = rw add-one

-- the floor of a step that passes, as the code computes it
pub floor_is : (s : Sweep) (p sum scale floor : ℕ) → SumAt s p sum → scale ≡ family_scale s.list.capacity s.family p 0 → floor ≡ (sum up scale) → floor ≡ floors s p
unfolding sweep_floor chain_floor chain_image chain_scale step_image step_scale
floor_is s p sum scale floor summed scaled rounded = rounded ∙ rw (summed.sum_is, scaled)

-- p is better than the best so far, or not
module _ (floor p : ℕ) where
  pub better_found : (best : Option Best) → IfSome best (λ so_far. so_far.floor < floor) → Better best floor p (record { floor = floor; p = p })
  better_found None better f ps is floored = rw floored (best_replaced f _ p ps is (λ found. absurd (omega arith)))
  better_found (Some so_far) better f ps is floored = rw floored (best_replaced f _ p ps is (λ _. omega (arith, better, floored)))

  pub better_kept : (best : Best) → floor ≤ best.floor → Better (Some best) floor p best
  better_kept best l f ps is floored = best_kept f _ p ps is refl (omega (arith, floored))

-- before the loop
pub swept_none : (s : Sweep) → SweptTo s 0 (record { best = None; sum = None })
unfolding passing best_of
swept_none s = record { best_is = refl; sum_before = tt }

-- a turn of the loop
module _ (s : Sweep) (n : ℕ) (swept : Swept) (done : SweptTo s n swept) where
  abbrev here : ℕ
  here = s.low + n

  next : passing s.list.capacity s.family s.low (n + 1) ≡ passing s.list.capacity s.family s.low n ++ cond (passes s.list.capacity s.family here) (here ∷ []) []
  next = passing_next s.list.capacity s.family s.low n

  pub turn_fails : (family_refusal s.list.capacity s.family here 0 ≡ 0 → ⊥) → SweptTo s (n + 1) (record { best = swept.best; sum = None })
  turn_fails some =
      let fails : passes s.list.capacity s.family here ≡ false = refused_fails s.list.capacity s.family here some in
      record { best_is = rw (next, fails, append-nil (passing s.list.capacity s.family s.low n)) done.best_is; sum_before = tt }

  pub turn_passes : (best : Best) (sum floor : ℕ) → family_refusal s.list.capacity s.family here 0 ≡ 0 → SumAt s here sum → floor ≡ floors s here → Better swept.best floor here best → SweptTo s (n + 1) (record { best = Some best; sum = Some sum })
  turn_passes best sum floor accepted summed floored better =
      let behind : s.low + (n + 1) - 1 ≡ here = omega arith in
      record {
        best_is = rw (next, accepted_passes s.list.capacity s.family here accepted) (better (floors s) _ done.best_is floored);
        sum_before = (omega arith, rw behind summed);
      }

-- what bounds the floor of each p that passes bounds the largest
largest_most : (f : ℕ → ℕ) (k c family low : ℕ) → ((p : ℕ) → passes c family p ≡ true → f p ≤ k) → (n : ℕ) → largest (map f (passing c family low n)) ≤ k
unfolding passing largest
largest_most f k c family low safe zero = zero-le
largest_most f k c family low safe (suc n) = go (passes c family (low + n)) refl (largest_most f k c family low safe n)
  where
    go : (test : Bool) → passes c family (low + n) ≡ test → largest (map f (passing c family low n)) ≤ k → largest (map f (passing c family low n ++ cond test ((low + n) ∷ []) [])) ≤ k
    go true is before = omega (arith, largest_more f (passing c family low n) ((low + n) ∷ []), largest_one f (low + n), safe (low + n) is)
    go false is before = omega (arith, largest_more f (passing c family low n) [])

best_floor : (f : ℕ → ℕ) (ps : List ℕ) → (best_of f ps).floor ≡ largest (map f ps)
unfolding best_of largest
best_floor f [] = refl
best_floor f (p ∷ ps) = refl

-- what refusals 1 to 19 leave
pub record SweepFine (c : ℕ) (sizes counts : List ℕ) (low high : ℕ) : Type 0 where
  pub capacity_positive : 1 ≤ c
  pub capacity_within_limit : c ≤ limit
  pub list : CountedList c sizes counts
  pub ascending : low ≤ high
  pub narrow : high - low ≤ widest

module _ (c family : ℕ) (sizes counts : List ℕ) (low high : ℕ) where
  pub sweep_fine : sweep_refusal c family sizes counts low high ≡ 0 → SweepFine c sizes counts low high
  unfolding sweep_refusal range_refusal
  sweep_fine e =
      let one = passed (capacity_fits c) 1 _ (omega arith) e in
      let two = passed (leb 1 family && leb family 5) 2 _ (omega arith) one.1 in
      let both = then_zero (counted_refusal c sizes counts) (range_refusal low high) two.1 in
      let nineteen = or_parts (ltb high low) (ltb widest (high - low)) (not_refused _ 19 0 (omega arith) both.1).0 in
      let capacity = capacity_bounds c one.0 in
      record {
        capacity_positive = capacity.0;
        capacity_within_limit = capacity.1;
        list = counted c sizes counts both.0;
        ascending = ltb-false high low nineteen.0;
        narrow = ltb-false widest (high - low) nineteen.1;
      }

  abbrev Other : ℕ → Type 0
  Other n = n ≡ 20 → ⊥

  -- 20 is told of a range alone
  pub sweep_other : sweep_refusal c family sizes counts low high ≡ 20 → ⊥
  unfolding sweep_refusal range_refusal
  sweep_other =
      of_both Other (not (capacity_fits c)) 1 _ (λ e. omega arith)
      (of_both Other (not (leb 1 family && leb family 5)) 2 _ (λ e. omega arith)
      (of_both Other (eqb (counted_refusal c sizes counts) 0) (range_refusal low high) (counted_refusal c sizes counts)
      (of_both Other (ltb high low || ltb widest (high - low)) 19 0 (λ e. omega arith) (λ e. omega arith))
      (of_counted c sizes counts Other (λ e. omega arith) (λ e. omega arith) (λ e. omega arith) (λ e. omega arith))))

  pub sweep_refused : (sweep_refusal c family sizes counts low high ≡ 0 → ⊥) → sweep_answer c family sizes counts low high ≡ refused_sweep (sweep_refusal c family sizes counts low high)
  unfolding sweep_answer
  sweep_refused some = rw (ne_eqb (sweep_refusal c family sizes counts low high) 0 some)

  pub sweep_accepted : sweep_refusal c family sizes counts low high ≡ 0 → sweep_answer c family sizes counts low high ≡ best_of (sweep_floor c family sizes counts) (passing c family low (suc (high - low)))
  unfolding sweep_answer
  sweep_accepted none = rw none

  -- what is told of an accepted sweep and of a refused one
  pub sweep_told : (sweep : Result Sweep Refusal) (best : Result Best Refusal) → number_in sweep ≡ sweep_refusal c family sizes counts low high → IfOk sweep (λ s. (s.list.capacity ≡ c) × (s.family ≡ family) × (s.list.sizes.now ≡ sizes) × (s.list.counts.now ≡ counts) × (s.low ≡ low) × (s.high ≡ high)) → MatchResult sweep (λ s. told best ≡ best_of (floors s) (passing s.list.capacity s.family s.low (suc (s.high - s.low)))) (λ refusal. best ≡ Err refusal) → told best ≡ sweep_answer c family sizes counts low high
  sweep_told (Ok sweep) best number same is =
      rw (same.0, same.1, same.2, same.3, same.4, same.5) at is ∙ sym (sweep_accepted (sym number))
  sweep_told (Err refusal) best number same is =
      rw (is, number) (sym (sweep_refused (λ none. omega (arith, number ∙ none, number_positive refusal))))

  module _ (bins : List ℕ) (fits : Fits c (copies counts sizes) bins) where
    one_step : SweepFine c sizes counts low high → (p : ℕ) → passes c family p ≡ true → sweep_floor c family sizes counts p ≤ bins_used bins
    unfolding passes sweep_floor ChainAccepted
    one_step fine p e = (chain_is_safe c (on_family family p 0 ∷ []) fine.capacity_positive fine.capacity_within_limit (eqb-true _ 0 e, Prim.tt)).floor_is_safe counts sizes bins fits

    -- P3 for the sweep: its floor is at most the bins of every packing that fits
    pub sweep_is_safe : (sweep_answer c family sizes counts low high).floor ≤ bins_used bins
    sweep_is_safe =
        ⊎_elim
        (λ none. rw (sweep_accepted none, best_floor (sweep_floor c family sizes counts) (passing c family low (suc (high - low)))) (largest_most (sweep_floor c family sizes counts) (bins_used bins) c family low (one_step (sweep_fine none)) (suc (high - low))))
        (λ some. rw (sweep_refused (omega arith)) zero-le)
        (eq-zero-or-pos (sweep_refusal c family sizes counts low high))

-- the answer of an outcome
pub told_is : (best : Result Best Refusal) (answer : SweepAnswer) → MatchResult best (λ best. answer ≡ found best) (λ refusal. answer ≡ refused_sweep (number_of refusal)) → answer ≡ told best
told_is (Ok best) answer is = is
told_is (Err refusal) answer is = is
