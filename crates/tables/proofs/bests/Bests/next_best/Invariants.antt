-- `next_best` meets its contract: the loop's invariant is `Halved`, and a turn takes it two sizes on.
use Prim.Native.Nat.{◌-◌}
use Rattle.tables.proofs.Halved.{Halved}
use Rattle.tables.proofs.bests.Bests.next_best.Given as goal

abbrev pub invariant-loop-y : goal.invariant-loop-y
invariant-loop-y l = Halved l.self.table.now l.c l.most l.y

abbrev pub decreases-loop-y : goal.decreases-loop-y
decreases-loop-y l = l.c - l.y
