-- `check` meets its contract: each way that it ends is a law of `Outcome`.
use mathlib.Core.Path.{◌≡◌, sym}
use native.Mathlib.Omega.{arith}
use Rattle.std.proofs.Common.{rules}
use Rattle.refusals.specs.Number.{number_of}
use Rattle.refusals.proofs.Numbers.{number_positive}
use Rattle.tables.specs.Told.{told}
use Rattle.tables.proofs.Outcome.{refused, all_known, ends_accepted, ends_refuted}
use Rattle.tables.proofs.check.Goals as goal

pub returns-in_err-check_form : goal.returns-in_err-check_form
returns-in_err-check_form c =
    let refusal = c.in_err-check_form.field-0.0 in
    let same : told c.from_residual.result ≡ record { number = number_of refusal; length = 0 } = search rules in
    rw same (refused _ _ _ _ c.in_err-check_form.ensures.number (number_positive refusal))

pub returns-then-working-last : goal.returns-then-working-last
returns-then-working-last c =
    ends_accepted _ _ _ (sym c.in_ok-check_form.ensures.number) _ c.fill_bests.ensures (omega (arith, c.if-working-last.true, c.from.ensures))

pub invariant_of-bests : goal.invariant_of-bests
invariant_of-bests c = record { known = all_known _ _ _ (sym c.in_ok-check_form.ensures.number) _ c.fill_bests.ensures }

pub returns : goal.returns
returns c =
    let written = c.write_counterexample.ensures in
    ends_refuted _ _ _ (sym c.in_ok-check_form.ensures.number) _ c.fill_bests.ensures _ _ (omega (arith, c.if-working-last.false, c.from.ensures)) written.length written.written
