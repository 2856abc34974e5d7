-- `copies_of` meets its contract: each turn adds the next size's count to what it is one of.
use mathlib.Core.Path.{◌≡◌, ap, ◌∙◌}
use Prim.Native.Nat.{ℕ, ◌+◌, ◌*◌}
use native.Mathlib.Omega.{arith}
use lib.ListN.{length}
use Rattle.std.proofs.lemmas.List.{length_push}
use Rattle.std.proofs.lemmas.Slice.Zip.{zip_turn, zip_end}
use Rattle.functions.specs.Summed.{Summed, CopiesOf, same_as}
use Rattle.functions.proofs.Carried.{same_most}
use Rattle.functions.proofs.Summed.{summed_start, summed_next, summed_end}
use Rattle.functions.proofs.copies.copies_of.Goals.{In-Some, In-None}
use Rattle.functions.proofs.copies.copies_of.Goals as goal

-- what a turn does to the copies of one size
turn : (c : In-Some) (v copies count more : ℕ) → Summed (same_as v) 1 c.args.counts.now c.args.sizes.now copies (length c.loop-size.yielded) → count ≡ c.in-Some.count.now → more ≡ count * same_as v c.in-Some.size.now → Summed (same_as v) 1 c.args.counts.now c.args.sizes.now (copies + more) (length c.loop-size.yielded + 1)
turn c v copies count more before count_is more_is =
    let at = zip_turn c.args.sizes.now c.args.counts.now c.loop-size.yielded _ _ c.next.new.self _ (cc) (cc) c.loop-size.yielded_by _ c.in-Some.is c.next.ensures.steps in
    rw more_is (summed_next _ _ _ _ c.requires.0 _ _ before _ _ at.0 (count_is ∙ at.3 0) (ap (same_as v) (at.2 0)) (omega (arith, count_is, at.3 0, c.type_inv.counts (length c.loop-size.yielded))) (same_most _ _))

whole : (c : In-None) (v copies : ℕ) → Summed (same_as v) 1 c.args.counts.now c.args.sizes.now copies (length c.loop-size.yielded) → CopiesOf v c.args.counts.now c.args.sizes.now copies
whole c v copies all =
    let end = zip_end c.args.sizes.now c.args.counts.now c.loop-size.yielded _ _ c.next.new.self _ (cc) (cc) c.loop-size.yielded_by c.in-None.is c.next.ensures.steps in
    record { copies_are = summed_end _ _ _ _ c.requires.0 _ _ all (omega arith); copies_most = omega (arith, all) }

pub loop-size-init : goal.loop-size-init
loop-size-init c =
    let each = c.requires.0 in
    record { first = summed_start _ _ _ _ each; second = summed_start _ _ _ _ each }

pub overflow_add-first : goal.overflow_add-first
overflow_add-first c = omega (arith, turn (goal.at.overflow_add-first c).In-Some _ _ _ _ c.loop-size.invariant.first c.from-count.ensures c.counted_if-first.ensures, c.requires.1)

pub overflow_add-second : goal.overflow_add-second
overflow_add-second c = omega (arith, turn (goal.at.overflow_add-second c).In-Some _ _ _ _ c.loop-size.invariant.second c.from-count.ensures c.counted_if-second.ensures, c.requires.1)

pub loop-size-preserved : goal.loop-size-preserved
loop-size-preserved c =
    let more = turn (goal.at.loop-size-preserved c).In-Some in
    let one = length_push c.loop-size.yielded (c.in-Some.size, c.in-Some.count) in
    record {
      first = rw one (more _ _ _ _ c.loop-size.invariant.first c.from-count.ensures c.counted_if-first.ensures);
      second = rw one (more _ _ _ _ c.loop-size.invariant.second c.from-count.ensures c.counted_if-second.ensures);
    }

pub returns : goal.returns
returns c =
    let all = c.loop-size.invariant in
    rw (c.from.ensures, c.from-2.ensures) (whole (goal.at.returns c).In-None _ _ all.first, whole (goal.at.returns c).In-None _ _ all.second)
