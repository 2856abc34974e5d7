-- `judge_step` meets its contract: a family or a table.
use mathlib.Core.Path.{sym}
use Rattle.refusals.proofs.Stopped.{stopped}
use Rattle.fields.specs.Record.{function_in}
use Rattle.chains.proofs.Judging.{family_refused, family_passes}
use Rattle.chains.proofs.judge.judge_step.Goals as goal

pub returns-in_err-accepted-in-Family : goal.returns-in_err-accepted-in-Family
unfolding function_in
returns-in_err-accepted-in-Family c =
    rw (stopped _ c.from_residual.ensures.1, c.in-Family.is) (family_refused _ _ _ _ _ _ c.in_err-accepted-in-Family.ensures.number)

pub returns-in_ok-accepted-in-Family : goal.returns-in_ok-accepted-in-Family
unfolding function_in
returns-in_ok-accepted-in-Family c =
    let passed = c.in_ok-accepted-in-Family in
    let same = passed.ensures.step in
    let scaled = rw (same.0, same.1, same.2, same.3) at passed.accepted.scaled in
    rw c.in-Family.is (family_passes _ _ _ _ _ (sym passed.ensures.number) _ scaled)

pub judge_table_step-requires : goal.judge_table_step-requires
unfolding function_in
judge_table_step-requires c = (c.requires.0 _ c.in-Table.is, λ checked. rw c.in-Table.is at (c.requires.1 checked))

pub returns-in-Table : goal.returns-in-Table
unfolding function_in
returns-in-Table c = rw c.in-Table.is c.judge_table_step.ensures.judged
