-- `best` meets its contract: after n turns the best is that of the first n numbers of the range.
use Rattle.sweeps.proofs.Sweeps.{swept_none}
use Rattle.sweeps.proofs.sweep.Sweep.best.Goals as goal

pub loop-offset-init : goal.loop-offset-init
loop-offset-init c = swept_none c.args.self
