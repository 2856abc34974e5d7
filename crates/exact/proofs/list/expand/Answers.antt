-- `expand` meets its contract: each turn writes the copies of the next size behind the others.
use mathlib.Core.Path.{◌≡◌, ◌∙◌}
use Prim.Native.Nat.{◌+◌, ◌≤◌, ◌<◌}
use native.Mathlib.Omega.{arith}
use lib.ListN.{length, get_or}
use Rattle.std.proofs.lemmas.Slice.Zip.{zip_turn, zip_end}
use Rattle.std.proofs.lemmas.List.{length_push}
use Rattle.exact.specs.Exact.{most_copies}
use Rattle.exact.proofs.Expanding.{expanding_none, places_there, expanding_next, expanded}
use Rattle.exact.proofs.list.expand.Goals.{In-Some}
use Rattle.exact.proofs.list.expand.Goals as goal

-- the place of this turn's size and count
turn : (c : In-Some) → (length c.loop-size.yielded < length c.args.list.sizes.now) × (c.in-Some.size.now ≡ get_or c.args.list.sizes.now (length c.loop-size.yielded) 0) × (c.in-Some.count.now ≡ get_or c.args.list.counts.now (length c.loop-size.yielded) 0)
turn c =
    let at = zip_turn c.args.list.sizes.now c.args.list.counts.now c.loop-size.yielded c.into_iter-size-iterator.result c.loop-size.size-iterator c.next.new.self _ (cc) (cc) c.loop-size.yielded_by _ c.in-Some.is c.next.ensures.steps in
    (at.0, at.2 0, at.3 0)

-- the places of its copies
there : (c : In-Some) → c.loop-size.n + c.in-Some.count.now ≤ most_copies
there c =
    let list = c.args.list.accepted in
    omega (arith, (turn c).2, places_there _ _ list.one_each c.requires.0 _ _ _ c.loop-size.invariant (turn c).0)

pub loop-size-init : goal.loop-size-init
loop-size-init c = expanding_none _ _ c.args.list.accepted.one_each c.requires.0 _ c.requires.1

pub overflow_add-end : goal.overflow_add-end
overflow_add-end c = omega (arith, there (goal.at.overflow_add-end c).In-Some)

pub offset_bounds-copies-n : goal.offset_bounds-copies-n
offset_bounds-copies-n c = omega (arith, there (goal.at.offset_bounds-copies-n c).In-Some)

pub slice_bounds-fill-end : goal.slice_bounds-fill-end
slice_bounds-fill-end c = omega (arith, there (goal.at.slice_bounds-fill-end c).In-Some, c.loop-size.invariant.ten_places)

pub loop-size-preserved : goal.loop-size-preserved
loop-size-preserved c =
    let at = turn (goal.at.loop-size-preserved c).In-Some in
    let next = length_push c.loop-size.yielded (c.in-Some.size, c.in-Some.count) in
    rw next (expanding_next _ _ c.args.list.accepted.one_each c.requires.0 _ _ _ c.loop-size.invariant at.0 _ _ (omega arith) (rw (c.from-in-loop-size.ensures ∙ at.1) at (c.fill.ensures.after (λ y e. cc))))

pub returns : goal.returns
returns c =
    let list = c.args.list in
    let all = zip_end list.sizes.now list.counts.now c.loop-size.yielded c.into_iter-size-iterator.result c.loop-size.size-iterator c.next.new.self _ (cc) (cc) c.loop-size.yielded_by c.in-None.is c.next.ensures.steps in
    expanded _ _ list.accepted.one_each c.requires.0 _ _ _ c.loop-size.invariant (omega (arith, list.accepted.one_each))
