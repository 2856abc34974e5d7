-- `judge_list` meets its contract: 1, 17, 22 and 23, and then the steps decide.
use mathlib.Core.Path.{refl, sym}
use Prim.Native.Nat.{◌-◌}
use native.Mathlib.Omega.{arith}
use Rattle.std.proofs.lemmas.Option.{MatchOption-at_some}
use Rattle.refusals.proofs.Stopped.{stopped}
use Rattle.refusals.proofs.Numbers.{number_positive}
use Rattle.tables.specs.Check.{most_entries}
use Rattle.chains.proofs.Present.{plain_refused, judged_whole}
use Rattle.chains.proofs.Judged.{list_refused, list_passed}
use Rattle.chains.proofs.judge.judge_list.Goals as goal

pub returns-in_err-refuse_list : goal.returns-in_err-refuse_list
returns-in_err-refuse_list c =
    let refusal = c.in_err-refuse_list.field-0.0 in
    rw (stopped _ c.from_residual.ensures.1, list_refused _ _ _ _ _ _ _ (c.in_err-refuse_list.ensures) (λ none. omega (arith, none, number_positive refusal))) (plain_refused _ _ refusal refl)

pub returns : goal.returns
returns c =
    let list = (MatchOption-at_some _ _ _ c.unwrap-list.ensures c.first_chunk_mut-2.ensures.cases).same in
    let done = rw list at c.judge_steps.ensures in
    rw (list_passed _ _ _ _ _ _ (sym (c.in_ok-refuse_list.ensures))) (judged_whole _ (most_entries - 1) _ _ _ done.length done.judged)
