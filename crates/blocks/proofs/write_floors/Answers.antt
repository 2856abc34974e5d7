-- `write_floors` meets its contract: each turn writes the next block's floor and adds its sum and its floor.
use mathlib.Core.Path.{◌≡◌, ap, sym, ◌∙◌}
use Prim.Native.Nat.{ℕ, ◌+◌, ◌*◌, ◌≤◌, ◌<◌}
use native.Mathlib.Nat.{mul-le-mul, mul-le-mul_right}
use native.Mathlib.Numerals.{add-one}
use native.Mathlib.Omega.{arith}
use lib.ListN.{length, get_or, take, drop}
use Rattle.functions.specs.Words.{limit, total, most_count, weighted}
use Rattle.functions.proofs.Totals.{total_none, total_first}
use Rattle.fields.specs.Bytes.{halfwords}
use Rattle.fields.specs.Grammar.{most_sizes}
use Rattle.fields.proofs.Decoding.{halfwords_count, halfword_of_chunk}
use Rattle.chains.proofs.Counts.{counts_length}
use Rattle.blocks.specs.Sums.{counts_of}
use Rattle.blocks.proofs.Dividing.{fit}
use Rattle.blocks.proofs.Adding.{blocks_start, blocks_next, blocks_end, same_places, within_all, next_at, floor_small, nothing_passed, enough, passed_more, part_fits, part_summed}
use Rattle.blocks.proofs.write_floors.Goals.{After-from-n, After-sum_of-part, After-round_up-floor, Start}
use Rattle.blocks.proofs.write_floors.Goals as goal

room : (c : Start) → length (halfwords c.args.numbers.now) ≤ length c.args.floors.now
room c = omega (arith, (fit _ _ c.requires.fit).few, c.requires.room)

-- a turn reads the number of the next block
read : (c : After-from-n) → (c.loop-k.k < length (halfwords c.args.numbers.now)) × (c.from-n.result ≡ get_or (halfwords c.args.numbers.now) c.loop-k.k 0)
read c =
    (omega (arith, halfwords_count c.args.numbers.now, c.as_chunks.ensures.front_len, c.loop-k-test.true), c.from-n.ensures ∙ c.from_be_bytes.ensures ∙ halfword_of_chunk _ _ c.as_chunks.ensures.front _)

there : (c : After-from-n) → total (take c.loop-k.k (halfwords c.args.numbers.now)) + c.from-n.result ≤ length c.args.images.now
there c = omega (arith, (fit _ _ c.requires.fit).add_up, within_all _ _ _ _ _ _ _ _ _ _ c.loop-k.invariant.done (read c).0 _ (read c).1)

-- the sum of its images with their counts
summed : (c : After-sum_of-part) → total (take c.loop-k.k (halfwords c.args.numbers.now)) + c.from-n.result ≤ length c.args.images.now → (c.sum_of-part.result ≡ weighted (take c.from-n.result (drop (total (take c.loop-k.k (halfwords c.args.numbers.now))) (counts_of c.args.counts.now c.args.images.now))) (take c.from-n.result (drop (total (take c.loop-k.k (halfwords c.args.numbers.now))) c.args.images.now))) × (c.sum_of-part.result ≤ c.from-n.result * (most_count * c.args.scale))
summed c inside =
    let sum = part_summed _ _ _ c.from-n.result _ _ _ c.loop-k.invariant.left c.requires.counted inside c.min.ensures _ _ c.split_at-in-loop-k.ensures.front c.split_at.ensures.front _ c.sum_of-part.ensures in
    (sum.0, sum.1 _ c.requires.within)

pub loop-k-init : goal.loop-k-init
loop-k-init c = record { done = rw total_none (blocks_start _ _ _ _ _); left = nothing_passed _ _ _ total_none }

pub split_at-requires : goal.split_at-requires
split_at-requires c = enough _ _ _ _ 0 _ _ c.loop-k.invariant.left c.requires.counted.none_or_each (there c)

pub sum_of-part-requires : goal.sum_of-part-requires
sum_of-part-requires c =
    part_fits _ _ _ c.from-n.result _ _ _ c.loop-k.invariant.left c.requires.counted (there (goal.at.sum_of-part-requires c).After-from-n) c.min.ensures _ _ c.split_at-in-loop-k.ensures.front c.split_at.ensures.front

pub round_up-floor-requires : goal.round_up-floor-requires
round_up-floor-requires c =
    let inside = there (goal.at.round_up-floor-requires c).After-from-n in
    let few : c.from-n.result ≤ most_sizes = omega (arith, inside, c.requires.counted.few) in
    let most = mul-le-mul few (mul-le-mul_right most_count c.requires.in_limit) in
    (c.requires.positive, omega (arith, (summed c inside).1, most, c.requires.in_limit))

pub overflow_cast-floors : goal.overflow_cast-floors
overflow_cast-floors c =
    let at = goal.at.overflow_cast-floors c in
    let here = read at.After-from-n in
    let few : c.from-n.result ≤ most_sizes = omega (arith, there at.After-from-n, c.requires.counted.few) in
    let sum = summed at.After-sum_of-part (there at.After-from-n) in
    omega (arith, floor_small _ _ _ _ _ _ _ _ _ _ c.loop-k.invariant.done here.0 _ here.1 _ _ sum.0 sum.1 c.round_up-floor.ensures c.requires.positive few)

pub bounds-floors-k : goal.bounds-floors-k
bounds-floors-k c =
    let all = room (goal.at.bounds-floors-k c).Start in
    omega (arith, (read (goal.at.bounds-floors-k c).After-from-n).0, all, same_places _ _ _ _ _ _ _ _ _ _ c.loop-k.invariant.done all)

pub loop-k-preserved : goal.loop-k-preserved
loop-k-preserved c =
    let at = goal.at.loop-k-preserved c in
    let here = read at.After-from-n in
    let sum = summed at.After-sum_of-part (there at.After-from-n) in
    let inv = c.loop-k.invariant in
    let numbers = halfwords c.args.numbers.now in
    let place : total (take (c.loop-k.k + 1) numbers) ≡ total (take c.loop-k.k numbers) + c.from-n.result = ap (λ (k : ℕ). total (take k numbers)) (add-one c.loop-k.k) ∙ sym (next_at _ _ _ _ _ _ _ _ _ _ inv.done here.0 _ here.1) in
    rw place
    (record {
      done = blocks_next _ _ _ _ _ _ _ _ _ _ inv.done here.0 _ here.1 _ _ sum.0 sum.1 c.round_up-floor.ensures c.requires.positive (room at.Start);
      left = rw (c.split_at.ensures.back, c.split_at-in-loop-k.ensures.back) (passed_more _ _ _ c.from-n.result _ _ _ inv.left c.requires.counted.none_or_each (there at.After-from-n) c.min.ensures);
    })

-- what is summed stays small
sum_small : (c : After-round_up-floor) → c.loop-k.sum + c.sum_of-part.result ≤ most_sizes * (most_count * limit)
sum_small c =
    let inside : total (take (c.loop-k.k + 1) (halfwords c.args.numbers.now)) ≤ most_sizes = omega (arith, total_first (c.loop-k.k + 1) (halfwords c.args.numbers.now), (fit _ _ c.requires.fit).add_up, c.requires.counted.few) in
    omega (arith, (loop-k-preserved c).done.sum_most, mul-le-mul inside (mul-le-mul_right most_count c.requires.in_limit))

pub overflow_add-sum : goal.overflow_add-sum
overflow_add-sum c = omega (arith, sum_small (goal.at.overflow_add-sum c).After-round_up-floor)

pub overflow_add-total : goal.overflow_add-total
overflow_add-total c =
    let at = (goal.at.overflow_add-total c).After-round_up-floor in
    omega (arith, sum_small at, (loop-k-preserved at).done.all_most)

pub returns : goal.returns
returns c =
    let inv = c.loop-k.invariant.done in
    let fits = fit _ _ c.requires.fit in
    let all = blocks_end _ _ _ _ _ _ _ _ _ _ inv (omega (arith, halfwords_count c.args.numbers.now, c.as_chunks.ensures.front_len, c.loop-k-test.false)) (counts_length _ _ c.requires.counted.none_or_each) fits.add_up in
    let at_most : total (take c.loop-k.k (halfwords c.args.numbers.now)) ≤ most_sizes = omega (arith, total_first c.loop-k.k (halfwords c.args.numbers.now), fits.add_up, c.requires.counted.few) in
    record {
      floors_are = all.0;
      total_is = all.1;
      sum_is = all.2;
      sum_most = omega (arith, inv.sum_most, mul-le-mul at_most (mul-le-mul_right most_count c.requires.in_limit));
    }
