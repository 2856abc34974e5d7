-- `with_field` meets its contract: in each arm the tag is known, and one part changes.
use mathlib.Core.Path.{ap, sym, ◌∙◌}
use mathlib.Core.Logic.{inl, inr}
use native.Mathlib.Omega.{arith}
use Rattle.fields.specs.Tags.{tag_number}
use Rattle.fields.proofs.Filling.{kind_length, capacity_length, family_length, row_length, with_kind, with_capacity, with_sizes, with_counts, with_blocks, with_row, with_step, family_same, table_same, table_within}
use Rattle.fields.proofs.parts.with_field.Goals as goal

pub bounds-value-0 : goal.bounds-value-0
bounds-value-0 c = omega (arith, kind_length _ _ (rw c.in-Kind.is at c.requires.right_length))

pub word_at-requires : goal.word_at-requires
word_at-requires c = omega (arith, capacity_length _ _ (rw c.in-Capacity.is at c.requires.right_length))

pub family_step-requires : goal.family_step-requires
family_step-requires c = family_length _ _ (rw c.in-Family.is at c.requires.right_length)

pub with_step-requires : goal.with_step-requires
with_step-requires c = (c.requires.room (inl (ap tag_number c.in-Family.is)), c.family_step.ensures.within)

pub overflow_add-result : goal.overflow_add-result
overflow_add-result c = omega (arith, c.requires.countable, row_length _ _ (rw c.in-Row.is at c.requires.right_length))

pub overflow_sub-result : goal.overflow_sub-result
overflow_sub-result c = omega (arith, row_length _ _ (rw c.in-Row.is at c.requires.right_length))

pub with_step-requires-in-Table : goal.with_step-requires-in-Table
with_step-requires-in-Table c =
    (c.requires.room (inr (ap tag_number c.in-Table.is)), c.table_step.ensures.within (table_within _ _ (rw c.in-Table.is at c.requires.right_length)))

pub returns-in-Kind : goal.returns-in-Kind
returns-in-Kind c = λ fields h n. with_kind fields _ h _ c.args.value n (ap tag_number c.in-Kind.is)

pub returns-in-Capacity : goal.returns-in-Capacity
returns-in-Capacity c = λ fields h n. with_capacity fields _ h _ c.args.value n (ap tag_number c.in-Capacity.is) _ c.word_at.ensures.0

pub returns-in-Sizes : goal.returns-in-Sizes
returns-in-Sizes c = λ fields h n. with_sizes fields _ h _ c.args.value n (ap tag_number c.in-Sizes.is)

pub returns-in-Family : goal.returns-in-Family
returns-in-Family c = λ fields h n.
    let four = ap tag_number c.in-Family.is in
    with_step fields _ h _ c.args.value n (inl four) _ (c.family_step.ensures.step ∙ sym (family_same fields _ h _ c.args.value n four)) _ c.with_step.ensures.items c.with_step.ensures.count

pub returns-in-Row : goal.returns-in-Row
returns-in-Row c = λ fields h n. with_row fields _ h _ c.args.value n (ap tag_number c.in-Row.is)

pub returns-in-Counts : goal.returns-in-Counts
returns-in-Counts c = λ fields h n. with_counts fields _ h _ c.args.value n (ap tag_number c.in-Counts.is)

pub returns-in-Blocks : goal.returns-in-Blocks
returns-in-Blocks c = λ fields h n. with_blocks fields _ h _ c.args.value n (ap tag_number c.in-Blocks.is)

pub returns-in-Table : goal.returns-in-Table
returns-in-Table c = λ fields h n.
    let five = ap tag_number c.in-Table.is in
    with_step fields _ h _ c.args.value n (inr five) _ (c.table_step.ensures.step ∙ sym (table_same fields _ h _ c.args.value n five)) _ c.with_step-in-Table.ensures.items c.with_step-in-Table.ensures.count
