-- `copies_of` meets its contract: each turn adds the next size's count to what it is one of.
use lib.ListN.{length}
use Rattle.functions.specs.Summed.{Summed, same_as}
use Rattle.functions.proofs.copies.copies_of.Given as goal

abbrev pub invariant-loop-size : goal.invariant-loop-size
invariant-loop-size l =
    record {
      first : Summed (same_as l.v) 1 l.counts l.sizes l.first (length l.yielded);
      second : Summed (same_as l.w) 1 l.counts l.sizes l.second (length l.yielded);
    }
