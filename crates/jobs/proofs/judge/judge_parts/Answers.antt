-- `judge_parts` meets its contract: the list or the rows decide.
use mathlib.Core.Path.{ap, sym, ◌∙◌}
use native.Mathlib.Omega.{arith}
use borrow.Author.Tests.{clash}
use Rattle.jobs.specs.Kinds.{least_of}
use Rattle.jobs.proofs.KindNumbers.{no_rows}
use Rattle.jobs.proofs.Taken.{parts_are}
use Rattle.jobs.proofs.Judged.{rows_kind_lem, list_kind}
use Rattle.jobs.proofs.judge.judge_parts.Goals as goal

pub returns-in-Rows-clause-judged : goal.returns-in-Rows-clause-judged
returns-in-Rows-clause-judged c =
    let h = parts_are c.args.job in
    rw (rows_kind_lem _ (sym (rw c.in-Rows.is at c.args.job.kind_is ∙ h.kind_is)), ← h.rows_count, ← h.coefficients_count) c.judge_all.ensures

pub judge_list-requires : goal.judge_list-requires
judge_list-requires c = (λ checked. absurd (clash checked), record { for_bests = omega (arith, c.told-working); for_list = omega (arith, c.told-list) })

pub returns-in-Floor-clause-judged : goal.returns-in-Floor-clause-judged
returns-in-Floor-clause-judged c =
    let h = parts_are c.args.job in
    let kind = c.args.job.kind_is ∙ h.kind_is in
    rw (list_kind _ (λ many. no_rows _ c.in-Floor.is (kind ∙ many)), ← c.blocks_right.ensures, ← (c.least.ensures ∙ ap least_of kind), ← h.capacity_is, ← h.sizes_are, ← h.counts_given, ← h.steps_are) c.judge_list.ensures
