-- `expand` meets its contract: each turn writes the copies of the next size behind the others.
use lib.ListN.{length}
use Rattle.exact.proofs.Expanding.{Expanding}
use Rattle.exact.proofs.list.expand.Given as goal

abbrev pub invariant-loop-size : goal.invariant-loop-size
invariant-loop-size l = Expanding l.list.sizes.now l.list.counts.now l.copies l.n (length l.yielded)
