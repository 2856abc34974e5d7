-- `map_sizes` meets its contract: each turn puts the next size's image in its place.
use Prim.Native.Nat.{◌≤◌, ◌<◌}
use native.Mathlib.Omega.{arith}
use lib.ListN.{length, get_or}
use Rattle.functions.proofs.Mapped.{mapped_start, mapped_within, mapped_next, mapped_end}
use Rattle.functions.proofs.Promise.{image_small}
use Rattle.functions.proofs.steps.map_sizes.Goals.{At-loop-size}
use Rattle.functions.proofs.steps.map_sizes.Goals as goal

-- the size that a turn reads
within : (c : At-loop-size) → c.loop-size.size-index < length c.args.sizes.now → get_or c.loop-size.sizes c.loop-size.size-index 0 ≤ c.of-prepared.result.step.capacity
within c more = rw c.of-prepared.ensures (mapped_within _ _ _ _ c.loop-size.invariant _ c.requires (omega (arith, c.loop-size.auto)))

pub loop-size-init : goal.loop-size-init
loop-size-init c = mapped_start _ _

pub image-requires : goal.image-requires
image-requires c = rw c.from.ensures (within (goal.at.image-requires c).At-loop-size c.loop-size-test.true)

pub overflow_cast-size : goal.overflow_cast-size
overflow_cast-size c =
    let step = c.of-prepared.result.step in
    let small = image_small step.capacity step.family step.p step.q c.from.result step.accepted (rw c.from.ensures (within (goal.at.overflow_cast-size c).At-loop-size c.loop-size-test.true)) in
    omega (arith, small, c.image.ensures)

pub loop-size-preserved : goal.loop-size-preserved
loop-size-preserved c = mapped_next _ _ _ _ c.loop-size.invariant _ (omega (arith, c.loop-size.auto)) (rw (← c.from.ensures) c.image.ensures)

pub returns : goal.returns
returns c = rw (← c.of-prepared.ensures) (mapped_end _ _ _ _ c.loop-size.invariant (omega (arith, c.loop-size.auto, c.loop-size-test.false)))
