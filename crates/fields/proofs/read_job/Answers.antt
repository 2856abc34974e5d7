-- `read_job` meets its contract: the loop's invariant is `SoFar`.
use mathlib.Core.Path.{sym, ◌∙◌}
use native.Mathlib.Omega.{arith}
use borrow.Author.Tests.{eqb-true, eqb-false}
use Rattle.fields.proofs.Headers.{tag_read}
use Rattle.fields.proofs.SoFar.{so_far_start, turn_refused, turn_next, turn_less, fillable, ends_early, job_read, job_unread}
use Rattle.fields.proofs.read_job.Goals as goal

pub loop-parts-init : goal.loop-parts-init
loop-parts-init c = so_far_start _ _ c.no_parts-parts.ensures

pub returns-in_err-tag : goal.returns-in_err-tag
returns-in_err-tag c = job_unread _ _ _ c.from_residual.ensures.1 (turn_refused _ _ _ _ c.loop-parts.invariant (eqb-false _ 0 (sym c.is_empty.ensures ∙ c.loop-parts-test.true)) _ (rw c.read_header-header.ensures at c.in_err-tag.ensures.refusal))

pub with_field-parts-requires : goal.with_field-parts-requires
with_field-parts-requires c =
    let passed = c.in_ok-tag.ensures in
    let read = c.read_header-header.ensures in
    rw (c.field_value.ensures, tag_read _ _ _ read passed.tag)
    (fillable _ _ _ _ c.loop-parts.invariant (eqb-false _ 0 (sym c.is_empty.ensures ∙ c.loop-parts-test.true)) (sym (rw read at passed.refusal)) (omega arith))

pub loop-parts-smaller : goal.loop-parts-smaller
loop-parts-smaller c =
    let passed = c.in_ok-tag.ensures in
    let read = c.read_header-header.ensures in
    rw c.field_rest-rest.ensures
    (turn_less _ _ _ _ c.loop-parts.invariant (eqb-false _ 0 (sym c.is_empty.ensures ∙ c.loop-parts-test.true)) (sym (rw read at passed.refusal)))

pub loop-parts-preserved : goal.loop-parts-preserved
loop-parts-preserved c =
    let passed = c.in_ok-tag.ensures in
    let read = c.read_header-header.ensures in
    let tag = tag_read _ _ _ read passed.tag in
    rw (c.field_rest-rest.ensures, tag)
    (turn_next _ _ _ _ c.loop-parts.invariant (eqb-false _ 0 (sym c.is_empty.ensures ∙ c.loop-parts-test.true)) (sym (rw read at passed.refusal)) _ (rw (c.field_value.ensures, tag) at c.with_field-parts.ensures))

pub returns-then-not-may_end : goal.returns-then-not-may_end
returns-then-not-may_end c = ends_early _ _ _ _ c.loop-parts.invariant (eqb-true _ 0 (sym c.is_empty.ensures ∙ c.loop-parts-test.false)) (sym c.may_end.ensures ∙ c.if-not-may_end.true)

pub returns : goal.returns
returns c = job_read _ _ _ _ c.loop-parts.invariant (eqb-true _ 0 (sym c.is_empty.ensures ∙ c.loop-parts-test.false)) (sym c.may_end.ensures ∙ c.if-not-may_end.false)
