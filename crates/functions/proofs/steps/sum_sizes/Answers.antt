-- `sum_sizes` meets its contract: each turn adds the next size's count times its image.
use mathlib.Core.Path.{◌≡◌, ap, ◌∙◌}
use Prim.Native.Nat.{ℕ, ◌+◌, ◌*◌, ◌≤◌}
use native.Mathlib.Omega.{arith}
use lib.ListN.{length}
use Rattle.std.proofs.lemmas.List.{length_push}
use Rattle.std.proofs.lemmas.Slice.Zip.{zip_turn, zip_end}
use Rattle.functions.specs.Words.{limit}
use Rattle.functions.specs.Families.{family_image}
use Rattle.functions.specs.Summed.{Summed}
use Rattle.functions.proofs.Promise.{image_small}
use Rattle.functions.proofs.Summed.{summed_start, summed_next, summed_end}
use Rattle.functions.proofs.steps.sum_sizes.Goals.{In-Some}
use Rattle.functions.proofs.steps.sum_sizes.Goals as goal

within : (c : In-Some) → c.in-Some.size.now ≤ c.of-prepared.result.step.capacity
within c =
    let at = zip_turn c.args.sizes.now c.args.counts.now c.loop-size.yielded _ _ c.next.new.self _ (cc) (cc) c.loop-size.yielded_by _ c.in-Some.is c.next.ensures.steps in
    rw (c.of-prepared.ensures, at.2 0) (c.requires.0 _ at.0)

-- what a turn does to the sum
turn : (c : In-Some) (count image : ℕ) → count ≡ c.in-Some.count.now → image ≡ family_image c.of-prepared.result.step.capacity c.of-prepared.result.step.family c.of-prepared.result.step.p c.of-prepared.result.step.q c.in-Some.size.now → Summed (family_image c.of-prepared.result.step.capacity c.of-prepared.result.step.family c.of-prepared.result.step.p c.of-prepared.result.step.q) limit c.args.counts.now c.args.sizes.now (c.loop-size.sum + count * image) (length c.loop-size.yielded + 1)
turn c count image count_is image_is =
    let step = c.of-prepared.result.step in
    let f = family_image step.capacity step.family step.p step.q in
    let at = zip_turn c.args.sizes.now c.args.counts.now c.loop-size.yielded _ _ c.next.new.self _ (cc) (cc) c.loop-size.yielded_by _ c.in-Some.is c.next.ensures.steps in
    summed_next _ _ _ _ c.requires.1 _ _ c.loop-size.invariant _ _ at.0 (count_is ∙ at.3 0) (image_is ∙ ap f (at.2 0))
    (omega (arith, count_is, at.3 0, c.type_inv.counts (length c.loop-size.yielded)))
    (rw image_is (image_small step.capacity step.family step.p step.q _ step.accepted (within c)))

pub loop-size-init : goal.loop-size-init
loop-size-init c = summed_start _ _ _ _ c.requires.1

pub image-requires : goal.image-requires
image-requires c = rw c.from-in-loop-size.ensures (within (goal.at.image-requires c).In-Some)

pub overflow_mul-sum : goal.overflow_mul-sum
overflow_mul-sum c = omega (arith, turn (goal.at.overflow_mul-sum c).In-Some c.from.result c.image.result c.from.ensures (rw c.from-in-loop-size.ensures at c.image.ensures), c.requires)

pub overflow_add-sum : goal.overflow_add-sum
overflow_add-sum c = omega (arith, turn (goal.at.overflow_add-sum c).In-Some c.from.result c.image.result c.from.ensures (rw c.from-in-loop-size.ensures at c.image.ensures), c.requires)

pub loop-size-preserved : goal.loop-size-preserved
loop-size-preserved c = rw (length_push c.loop-size.yielded (c.in-Some.size, c.in-Some.count)) (turn (goal.at.loop-size-preserved c).In-Some _ _ c.from.ensures (rw c.from-in-loop-size.ensures at c.image.ensures))

pub returns : goal.returns
returns c =
    let end = zip_end c.args.sizes.now c.args.counts.now c.loop-size.yielded _ _ c.next.new.self _ (cc) (cc) c.loop-size.yielded_by c.in-None.is c.next.ensures.steps in
    rw (← c.of-prepared.ensures) (summed_end _ _ _ _ c.requires.1 _ _ c.loop-size.invariant (omega arith), omega (arith, c.loop-size.invariant))
