-- `apply_steps` meets its contract: the loop's invariant is `Through`.
use Rattle.fields.specs.Record.{steps_in}
use Rattle.chains.proofs.Applying.{Through}
use Rattle.chains.proofs.apply.apply_steps.Given as goal

abbrev pub invariant-loop-step : goal.invariant-loop-step
invariant-loop-step l = Through l.capacity (steps_in l.fn.steps) l.initial.images l.images l.present l.step-index
