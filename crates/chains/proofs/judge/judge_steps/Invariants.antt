-- `judge_steps` meets its contract: the loop's invariant is `Present`, with the list buffer as it was.
use mathlib.Core.Path.{◌≡◌}
use Rattle.fields.specs.Record.{steps_in}
use Rattle.chains.proofs.Present.{Present}
use Rattle.chains.proofs.judge.judge_steps.Given as goal

abbrev pub invariant-loop-i : goal.invariant-loop-i
invariant-loop-i l = Present l.capacity (steps_in l.fn.steps) l.present l.i-counter × (l.list ≡ l.initial.list)
