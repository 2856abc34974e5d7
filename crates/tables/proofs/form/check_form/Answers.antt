-- `check_form` meets its contract: the form is looked at where the lengths pass.
use mathlib.Core.Path.{◌≡◌, sym, ◌∙◌}
use native.Mathlib.Omega.{arith}
use borrow.Author.Tests.{ne_eqb}
use Rattle.std.proofs.Common.{rules}
use Rattle.refusals.specs.Number.{number_of, number_in}
use Rattle.refusals.proofs.Numbers.{number_positive}
use Rattle.tables.specs.Check.{shape_refusal}
use Rattle.tables.proofs.Entries.{lengths, passed_at_ok}
use Rattle.tables.proofs.form.check_form.Goals as goal

pub returns-in_err-refuse_lengths-clause-number : goal.returns-in_err-refuse_lengths-clause-number
unfolding shape_refusal
returns-in_err-refuse_lengths-clause-number c =
    let refusal = c.in_err-refuse_lengths.field-0.0 in
    let same : number_in c.from_residual.result ≡ number_of refusal = search rules in
    same ∙ rw (← c.in_err-refuse_lengths.ensures, ne_eqb (number_of refusal) 0 (omega (arith, number_positive refusal)))

pub refuse_form-requires : goal.refuse_form-requires
refuse_form-requires c = (lengths _ _ _ (sym c.in_ok-refuse_lengths.ensures)).least

pub returns : goal.returns
unfolding shape_refusal
returns c =
    let number : number_in c.refuse_form.result ≡ shape_refusal c.args.table.now c.args.working c.args.list = c.refuse_form.ensures ∙ rw (← c.in_ok-refuse_lengths.ensures) in
    record { number = number; passed = passed_at_ok _ _ _ _ number }
