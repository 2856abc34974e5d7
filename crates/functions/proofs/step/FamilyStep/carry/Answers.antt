-- `carry` meets its contract: what the copies that get the whole capacity gain is added, and what the others lose is taken off.
use mathlib.Core.Path.{◌≡◌}
use mathlib.Core.List.{map}
use Prim.Native.Nat.{ℕ, ◌+◌, ◌-◌, ◌*◌, ◌≤◌}
use native.Mathlib.Nat.{mul-le-mul}
use native.Mathlib.Omega.{arith}
use lib.ListN.{length}
use Rattle.functions.specs.Words.{limit, most_count, weighted}
use Rattle.functions.specs.Families.{family_image}
use Rattle.functions.specs.Image.{family_refusal}
use Rattle.functions.proofs.Carried.{room, p_small, accepted_before, carried, sum_small}
use Rattle.functions.proofs.Legal.{accepted}
use Rattle.functions.proofs.step.FamilyStep.carry.Goals.{After-copies_of-moved, Start}
use Rattle.functions.proofs.step.FamilyStep.carry.Goals as goal

-- the step, said of its own family and of p - 1
first : (c : Start) → family_refusal c.args.self.capacity 1 (c.args.self.p - 1 + 1) 0 ≡ 0
first c =
    let pre = c.requires in
    let next : c.args.self.p - 1 + 1 ≡ c.args.self.p = omega arith in
    rw next (rw (pre.0, pre.2) at c.args.self.accepted)

-- what the two sums have in common, and how great they are
record Facts (length p sum next lost gained : ℕ) : Type 0 where
  moves : next + p * lost ≡ sum + p * gained
  sum_most : sum ≤ length * (most_count * limit)
  next_most : next ≤ length * (most_count * limit)
  gained_most : p * gained ≤ limit * (length * most_count)
  lost_most : p * lost ≤ limit * (length * most_count)

facts : (c : After-copies_of-moved) → family_refusal c.args.self.capacity 1 (c.args.self.p - 1 + 1) 0 ≡ 0 → Facts (length c.args.sizes.now) (c.args.self.p - 1) c.args.before (weighted c.args.counts.now (map (family_image c.args.self.capacity 1 (c.args.self.p - 1 + 1) 0) c.args.sizes.now)) c.copies_of-moved.result.first c.copies_of-moved.result.second
facts c e =
    let pre = c.requires in
    let copies = c.copies_of-moved.ensures in
    let small = sum_small _ _ e c.args.counts.now c.args.sizes.now pre.3 (λ i. omega (arith, c.type_inv.counts i)) in
    record {
      moves = rw (copies.0.copies_are, copies.1.copies_are, pre.5) (carried _ _ e c.args.counts.now c.args.sizes.now pre.3);
      sum_most = rw pre.5 (small _ (accepted_before _ _ e));
      next_most = small _ e;
      gained_most = mul-le-mul (omega (arith, p_small _ _ e)) copies.1.copies_most;
      lost_most = mul-le-mul (omega (arith, p_small _ _ e)) copies.0.copies_most;
    }

pub overflow_cast-p : goal.overflow_cast-p
overflow_cast-p c = omega (arith, p_small _ _ (first (goal.at.overflow_cast-p c).Start))

pub overflow_sub-self : goal.overflow_sub-self
overflow_sub-self c = omega (arith, room _ _ (first (goal.at.overflow_sub-self c).Start))

pub overflow_cast-self : goal.overflow_cast-self
overflow_cast-self c = omega (arith, (accepted _ _ _ _ c.args.self.accepted).capacity_within_limit)

pub copies_of-moved-requires : goal.copies_of-moved-requires
copies_of-moved-requires c = (c.requires.4.one_each, c.requires.4.few_counts)

pub overflow_mul-result : goal.overflow_mul-result
overflow_mul-result c = omega (arith, facts (goal.at.overflow_mul-result c).After-copies_of-moved (first (goal.at.overflow_mul-result c).Start), c.requires.4.few_sums)

pub overflow_add-result : goal.overflow_add-result
overflow_add-result c = omega (arith, facts (goal.at.overflow_add-result c).After-copies_of-moved (first (goal.at.overflow_add-result c).Start), c.requires.4.few_sums)

pub overflow_mul-result-2 : goal.overflow_mul-result-2
overflow_mul-result-2 c = omega (arith, facts (goal.at.overflow_mul-result-2 c).After-copies_of-moved (first (goal.at.overflow_mul-result-2 c).Start), c.requires.4.few_sums)

pub overflow_sub-result : goal.overflow_sub-result
overflow_sub-result c = omega (arith, facts (goal.at.overflow_sub-result c).After-copies_of-moved (first (goal.at.overflow_sub-result c).Start))

pub returns : goal.returns
returns c =
    let next : c.args.self.p - 1 + 1 ≡ c.args.self.p = omega arith in
    let f = rw next at (facts (goal.at.returns c).After-copies_of-moved (first (goal.at.returns c).Start)) in
    (omega (arith, f.moves), omega (arith, f.moves, f.next_most))
