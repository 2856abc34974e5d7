-- `best` meets its contract: after n turns the best is that of the first n numbers of the range.
use Rattle.sweeps.specs.Progress.{SweptTo}
use Rattle.sweeps.proofs.sweep.Sweep.best.Given as goal

abbrev pub invariant-loop-offset : goal.invariant-loop-offset
invariant-loop-offset l = SweptTo l.self l.offset l.swept
