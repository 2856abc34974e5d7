-- `write_floors` meets its contract: each turn writes the next block's floor and adds its sum and its floor.
use lib.ListN.{take}
use Rattle.functions.specs.Words.{total}
use Rattle.fields.specs.Bytes.{halfwords}
use Rattle.blocks.specs.Sums.{counts_of}
use Rattle.blocks.proofs.Adding.{BlocksDone, Left}
use Rattle.blocks.proofs.write_floors.Given as goal

abbrev pub invariant-loop-k : goal.invariant-loop-k
invariant-loop-k l =
    let at = total (take l.k (halfwords l.numbers)) in
    record {
      done : BlocksDone (halfwords l.numbers) (counts_of l.counts l.images) l.images l.scale l.initial.floors l.sum l.total at l.k l.floors;
      left : Left l.counts l.images at l.left_counts l.left;
    }
