-- `refuse_form` meets its contract: its tests are the definition's, in the same order.
use mathlib.Core.Path.{sym, ◌∙◌}
use borrow.Author.Tests.{eq-eqb, ne_eqb}
use Rattle.tables.specs.Table.{entry, table_capacity, table_scale}
use Rattle.tables.specs.Check.{form_refusal}
use Rattle.tables.proofs.form.refuse_form.Goals as goal

pub returns-then-table-ne0 : goal.returns-then-table-ne0
unfolding form_refusal entry table_scale table_capacity
returns-then-table-ne0 c = rw (ne_eqb _ 0 c.if-table-ne0.true)

pub returns-then-table-eq0 : goal.returns-then-table-eq0
unfolding form_refusal entry table_scale table_capacity
returns-then-table-eq0 c = rw (eq-eqb _ 0 c.if-table-ne0.false, eq-eqb _ 0 c.if-table-eq0.true)

pub returns-then-not-within_limit : goal.returns-then-not-within_limit
unfolding form_refusal entry table_scale table_capacity
returns-then-not-within_limit c = rw (eq-eqb _ 0 c.if-table-ne0.false, ne_eqb _ 0 c.if-table-eq0.false, sym c.within_limit.ensures ∙ c.if-not-within_limit.true)

pub returns : goal.returns
unfolding form_refusal entry table_scale table_capacity
returns c = rw (eq-eqb _ 0 c.if-table-ne0.false, ne_eqb _ 0 c.if-table-eq0.false, sym c.within_limit.ensures ∙ c.if-not-within_limit.false)
