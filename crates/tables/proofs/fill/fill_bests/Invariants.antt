-- `fill_bests` meets its contract: the loop's invariant is `Filled`.
use Rattle.tables.proofs.Filled.{Filled}
use Rattle.tables.proofs.fill.fill_bests.Given as goal

abbrev pub invariant-loop-c : goal.invariant-loop-c
invariant-loop-c l = Filled l.table l.initial.working l.working l.c
