-- `windowfloor_sweep` meets its contract: the best parameter of an accepted sweep, or what refuses it; the definition's answer is safe.
use Rattle.std.proofs.Common.{rules, ap, ◌≡◌, ◌∙◌, arith}
use Rattle.sweeps.specs.Sweep.{sweep_answer}
use Rattle.sweeps.specs.declared.SweepAnswer.{SweepAnswer}
use Rattle.sweeps.proofs.Sweeps.{sweep_told, sweep_is_safe, told_is}
use Rattle.sweeps.proofs.windowfloor_sweep.Goals.{After-map_or_else}
use Rattle.sweeps.proofs.windowfloor_sweep.Goals as goal

answer : (c : After-map_or_else) → c.map_or_else.result ≡ sweep_answer c.args.capacity c.args.family c.args.sizes.now c.args.counts.now c.args.low c.args.high
answer c =
    told_is c.and_then.result _ (search rules)
    ∙ sweep_told _ _ _ _ _ _ c.accepted.result _ c.accepted.ensures.number c.accepted.ensures.sweep (search rules)

pub returns-clause-answer : goal.returns-clause-answer
returns-clause-answer = answer

pub returns-clause-safe : goal.returns-clause-safe
returns-clause-safe c bins fits =
    let args = c.args in
    omega (arith, ap (λ (a : SweepAnswer). a.floor) (answer c), sweep_is_safe args.capacity args.family args.sizes.now args.counts.now args.low args.high bins fits)
