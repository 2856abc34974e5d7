-- `counted_sum` meets its contract: each turn adds the next count times its number.
use mathlib.Core.Path.{◌≡◌, ap, ◌∙◌}
use mathlib.Core.List.{[], map-id}
use Prim.Native.Nat.{ℕ, ◌+◌, ◌*◌}
use native.Mathlib.Omega.{arith}
use lib.ListN.{length}
use Rattle.std.specs.Int.{w16, from_be_bytes}
use Rattle.std.proofs.lemmas.List.{length_push}
use Rattle.std.proofs.lemmas.Slice.Zip.{zip_turn, zip_end}
use Rattle.functions.specs.Words.{EachWithin}
use Rattle.functions.specs.Summed.{Summed}
use Rattle.functions.proofs.Summed.{summed_start, summed_next, summed_end}
use Rattle.fields.specs.Bytes.{halfwords}
use Rattle.fields.proofs.Decoding.{halfwords_are, halfword_of_chunk}
use Rattle.chains.proofs.list.counted_sum.Goals.{Start, After-from-in-loop-count}
use Rattle.chains.proofs.list.counted_sum.Goals as goal

same_count : (c : Start) → length (halfwords c.args.bytes.now) ≡ length c.args.list.now
same_count c = (halfwords_are _ _ c.requires.0).count

turn : (c : After-from-in-loop-count) → length (halfwords c.args.bytes.now) ≡ length c.args.list.now → (most : ℕ) → EachWithin most c.args.list.now → Summed (λ x. x) most (halfwords c.args.bytes.now) c.args.list.now (c.loop-count.sum + c.from.result * c.from-in-loop-count.result) (length c.loop-count.yielded + 1)
turn c each most within =
    let at = zip_turn c.as_chunks.result.0.now c.args.list.now c.loop-count.yielded _ _ c.next.new.self _ (cc) (cc) c.loop-count.yielded_by _ c.in-Some.is c.next.ensures.steps in
    let count_is = c.from.ensures ∙ c.from_be_bytes.ensures ∙ ap (from_be_bytes w16) (at.2 []) ∙ halfword_of_chunk _ _ c.as_chunks.ensures.front _ in
    let number_is = c.from-in-loop-count.ensures ∙ at.3 0 in
    summed_next _ _ _ _ each _ _ (c.loop-count.invariant most within) _ _ at.1 count_is number_is (omega (arith, c.from.ensures, c.from_be_bytes.type_inv)) (rw number_is (within _ at.1))

pub loop-count-init : goal.loop-count-init
loop-count-init c most within = summed_start _ _ _ _ (same_count (goal.at.loop-count-init c).Start)

pub overflow_add-sum : goal.overflow_add-sum
overflow_add-sum c =
    let at = goal.at.overflow_add-sum c in
    let next = turn at.After-from-in-loop-count (same_count at.Start) 4294967295 (λ i l. omega (arith, c.type_inv.list i)) in
    omega (arith, next.sum_most, next.passed, c.requires)

pub loop-count-preserved : goal.loop-count-preserved
loop-count-preserved c most within =
    let at = goal.at.loop-count-preserved c in
    rw (length_push c.loop-count.yielded (c.in-Some.count, c.in-Some.x)) (turn at.After-from-in-loop-count (same_count at.Start) most within)

pub returns : goal.returns
returns c =
    let each = same_count (goal.at.returns c).Start in
    let end = zip_end c.as_chunks.result.0.now c.args.list.now c.loop-count.yielded _ _ c.next.new.self _ (cc) (cc) c.loop-count.yielded_by c.in-None.is c.next.ensures.steps in
    let all : length c.loop-count.yielded ≡ length c.args.list.now = omega (arith, end, c.as_chunks.ensures.front_len, c.requires.0) in
    let inv = c.loop-count.invariant in
    let whole = summed_end _ _ _ _ each _ _ (inv 4294967295 (λ i l. omega (arith, c.type_inv.list i))) (omega (arith, all)) in
    (rw map-id at whole, λ most within. rw all at (inv most within).sum_most)
