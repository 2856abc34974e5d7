-- The measure: a list of two sizes or more is longer than both of its parts.
use Prim.Native.Nat.{◌+◌, ◌-◌, ◌*◌}
use lib.ListN.{length}
use Rattle.shortest.proofs.put.+put_put_halves.Given as goal

abbrev pub decreases-put : goal.decreases-put
decreases-put l = 2 * (length l.list.now - 1)

abbrev pub decreases-put_halves : goal.decreases-put_halves
decreases-put_halves l = 2 * (length l.list.now - 2) + 1
