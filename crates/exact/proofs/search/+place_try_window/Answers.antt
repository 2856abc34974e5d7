-- `place` and `try_window` meet their contracts: a copy is tried in each window in use and in the next one, and the others behind it.
use Rattle.std.proofs.Common.{refl, arith}
use Rattle.std.proofs.lemmas.List.{nil_from_length}
use Rattle.std.proofs.lemmas.Option.{MatchOption-at_none}
use native.Mathlib.Numerals.{add-one}
use Rattle.exact.proofs.Searching.{none_left, too_large, tried_not_better, tried_better, trying_all, last_tried, none_to_open}
use Rattle.exact.proofs.search.+place_try_window.Goals as goal

pub place-returns-in_default : goal.place-returns-in_default
place-returns-in_default t c =
    rw (nil_from_length c.args.copies.now (MatchOption-at_none _ _ c.in_default.is c.split_first.ensures.cases)) (none_left _ _ _ _ _ c.requires.1)

pub place-returns-then-fewest-used : goal.place-returns-then-fewest-used
place-returns-then-fewest-used t c =
    let split = c.in-Some.ensures.cases.0 in
    none_to_open _ _ _ _ _ _ _ _ _ _ c.loop-b.invariant.0 (rw split (omega arith)) c.loop-b-test.false c.if-fewest-used.true

pub place-returns : goal.place-returns
place-returns t c =
    let split = c.in-Some.ensures.cases.0 in
    let all = trying_all _ _ _ _ _ _ _ _ _ _ c.loop-b.invariant.0 c.loop-b-test.false in
    last_tried _ _ _ _ _ _ _ _ _ _ all _ _ _ (rw (← split) at c.try_window.ensures) (rw split (omega arith)) refl

pub try_window-returns-then-room-size : goal.try_window-returns-then-room-size
try_window-returns-then-room-size t c = too_large _ _ _ _ _ _ _ _ c.if-room-size.true

pub try_window-returns-then-best-fewer : goal.try_window-returns-then-best-fewer
try_window-returns-then-best-fewer t c =
    let pre = c.requires in
    tried_not_better _ _ _ _ _ pre.0 _ pre.1 _ _ _ (rw add-one at c.max.ensures) c.if-room-size.false _ _ _ c.place-fewer.ensures c.if-best-fewer.true

pub try_window-returns : goal.try_window-returns
try_window-returns t c =
    let pre = c.requires in
    tried_better _ _ _ _ _ pre.0 _ pre.1 _ _ _ (rw add-one at c.max.ensures) c.if-room-size.false _ _ _ c.place-fewer.ensures c.if-best-fewer.false
