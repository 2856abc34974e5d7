-- `counted_sum` meets its contract: each turn adds the next count times its number.
use Prim.Native.Nat.{ℕ}
use lib.ListN.{length}
use Rattle.functions.specs.Words.{EachWithin}
use Rattle.functions.specs.Summed.{Summed}
use Rattle.fields.specs.Bytes.{halfwords}
use Rattle.chains.proofs.list.counted_sum.Given as goal

abbrev pub invariant-loop-count : goal.invariant-loop-count
invariant-loop-count l =
    (most : ℕ) → EachWithin most l.list → Summed (λ x. x) most (halfwords l.bytes) l.list l.sum (length l.yielded)
