-- `judge_all` meets its contract: 21, and then the rows decide.
use mathlib.Core.Path.{◌≡◌, refl, sym, ◌∙◌}
use mathlib.Core.Bool.{true}
use Rattle.jobs.specs.Kinds.{rows_fit}
use Rattle.jobs.proofs.Judged.{fit_bounds}
use Rattle.chains.proofs.Present.{plain_refused}
use Rattle.jobs.proofs.rows.judge_all.Goals.{Else-not-rows_fit}
use Rattle.jobs.proofs.rows.judge_all.Goals as goal

fits : (c : Else-not-rows_fit) → rows_fit c.args.job.parts.rows c.args.job.parts.coefficients ≡ true
fits c = sym c.rows_fit.ensures ∙ c.if-not-rows_fit.false

pub returns-then-not-rows_fit : goal.returns-then-not-rows_fit
returns-then-not-rows_fit c = rw (sym c.rows_fit.ensures ∙ c.if-not-rows_fit.true, c.from.ensures) (plain_refused 21 _ _ refl)

pub judge_rows-requires : goal.judge_rows-requires
judge_rows-requires c = (fit_bounds _ _ (fits (goal.at.judge_rows-requires c).Else-not-rows_fit)).0

pub returns : goal.returns
returns c = rw (fits (goal.at.returns c).Else-not-rows_fit) c.judge_rows.ensures
