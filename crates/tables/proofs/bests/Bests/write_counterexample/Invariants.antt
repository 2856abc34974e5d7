-- `write_counterexample` meets its contract: the loop's invariant is `Written`.
use Rattle.tables.proofs.Written.{Written}
use Rattle.tables.proofs.bests.Bests.write_counterexample.Given as goal

abbrev pub invariant-loop-c : goal.invariant-loop-c
invariant-loop-c l = Written l.self.table.now l.initial.list l.list l.c l.n

abbrev pub decreases-loop-c : goal.decreases-loop-c
decreases-loop-c l = l.c
