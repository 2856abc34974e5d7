-- `better` meets its contract: p takes the place of the best before it where its floor is larger, or where there is none.
use Rattle.sweeps.proofs.Sweeps.{better_found, better_kept}
use Rattle.sweeps.proofs.sweep.Swept.better.Goals as goal

pub returns-in-Some : goal.returns-in-Some
returns-in-Some c = rw c.in-Some.is (better_kept _ _ _ c.if-floor-best.true)

pub returns-in_default : goal.returns-in_default
returns-in_default c = better_found _ _ _ (rw c.in-Some.is c.if-floor-best.false)

pub returns-in_default-2 : goal.returns-in_default-2
returns-in_default-2 c = better_found _ _ _ (rw c.in_default.is tt)
