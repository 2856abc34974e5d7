-- `judge_row` meets its contract: the list of its coefficients, at its right side.
use native.Mathlib.Omega.{arith}
use borrow.Author.Tests.{ltb-true}
use Rattle.std.proofs.Common.{rules}
use Rattle.jobs.proofs.Judged.{row_judged, in_row_judged}
use Rattle.jobs.proofs.rows.judge_row.Goals as goal

pub judge_list-requires : goal.judge_list-requires
judge_list-requires c =
    let pre = c.requires in
    (λ checked. pre.0 (ltb-true _ _ checked), record { for_bests = omega (arith, c.told-working); for_list = omega (arith, c.told-list) })

pub returns : goal.returns
returns c = in_row_judged _ _ _ _ _ _ (search rules) (rw (row_judged _ c.args.row) at c.judge_list.ensures)
