-- `answer_list` meets its contract: an accepted list, and the search over its copies.
use mathlib.Core.Path.{◌≡◌, refl, ap, sym, ◌∙◌}
use Prim.Native.Nat.{◌≤◌}
use native.Mathlib.Omega.{arith}
use lib.ListN.{length, take}
use lib.Seq.{length-take-le}
use Rattle.jobs.specs.Packing.{copies}
use Rattle.functions.specs.Words.{total}
use Rattle.exact.specs.Exact.{most_copies, exact_refusal}
use Rattle.exact.proofs.Answering.{ExactFine, exact_fine, exact_searchable, exact_accepted}
use Rattle.exact.proofs.answer_list.Goals.{After-expand-n, In_ok-list}
use Rattle.exact.proofs.answer_list.Goals as goal

none : (c : In_ok-list) → exact_refusal c.args.capacity c.args.sizes.now c.args.counts.now (length c.args.windows.now) ≡ 0
none c = sym c.in_ok-list.ensures.number

fine : (c : In_ok-list) → ExactFine c.args.capacity c.args.sizes.now c.args.counts.now (length c.args.windows.now)
fine c = exact_fine _ _ _ _ (none c)

written : (c : After-expand-n) → take c.expand-n.result c.expand-n.new.copies ≡ copies c.args.counts.now c.args.sizes.now
written c = rw (c.in_ok-list.ensures.list.1, c.in_ok-list.ensures.list.2) at c.expand-n.ensures.copies_are

few : (c : In_ok-list) → total c.in_ok-list.list.counts.now ≤ most_copies
few c = rw c.in_ok-list.ensures.list.2 (fine c).few

within : (c : After-expand-n) → c.expand-n.result ≤ length c.expand-n.new.copies
within c = omega (arith, c.expand-n.ensures.count_is ∙ ap total c.in_ok-list.ensures.list.2, (exact_fine _ _ _ _ (sym c.in_ok-list.ensures.number)).few, c.expand-n.auto.copies)

pub expand-n-requires : goal.expand-n-requires
expand-n-requires c = (few (goal.at.expand-n-requires c).In_ok-list, refl)

pub slice_bounds-copies-end : goal.slice_bounds-copies-end
slice_bounds-copies-end c = within (goal.at.slice_bounds-copies-end c).After-expand-n

pub slice_bounds-fewest-end : goal.slice_bounds-fewest-end
slice_bounds-fewest-end c = sym (length-take-le _ _ (within (goal.at.slice_bounds-fewest-end c).After-expand-n))

pub fewest-fewest-requires : goal.fewest-fewest-requires
fewest-fewest-requires c = rw (written (goal.at.fewest-fewest-requires c).After-expand-n) (exact_searchable _ _ _ _ (fine (goal.at.fewest-fewest-requires c).In_ok-list))

pub returns : goal.returns
returns c =
    let here = goal.at.returns c in
    exact_accepted _ _ _ _ (fine here.In_ok-list) (none here.In_ok-list) _ _ (rw (written here.After-expand-n) at c.fewest-fewest.ensures)
