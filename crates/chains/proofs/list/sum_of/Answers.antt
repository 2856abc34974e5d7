-- `sum_of` meets its contract: no counts are ones.
use mathlib.Core.Path.{sym, ◌∙◌}
use borrow.Author.Tests.{eqb-true, eqb-false}
use Rattle.chains.proofs.Counts.{one_each, sum_without, sum_most}
use Rattle.chains.proofs.list.sum_of.Goals as goal

pub returns-then-is_empty : goal.returns-then-is_empty
returns-then-is_empty c =
    let none = eqb-true _ 0 (sym c.is_empty.ensures ∙ c.if-is_empty.true) in
    (c.plain_sum.ensures ∙ sum_without c.args.list.now c.args.bytes.now none, λ most within. rw c.plain_sum.ensures (sum_most c.args.list.now most within))

pub counted_sum-requires : goal.counted_sum-requires
counted_sum-requires c =
    let some = eqb-false _ 0 (sym c.is_empty.ensures ∙ c.if-is_empty.false) in
    ((one_each _ _ some c.requires.0).0, c.requires.1)

pub returns : goal.returns
returns c =
    let some = eqb-false _ 0 (sym c.is_empty.ensures ∙ c.if-is_empty.false) in
    rw (one_each _ _ some c.requires.0).1 c.counted_sum.ensures
