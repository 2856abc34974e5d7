-- `next_row` meets its contract: the loop passes the fields that are no row.
use Prim.Native.Nat.{ℕ, ◌<◌}
use mathlib.Core.List.{List}
use lib.ListN.{length}
use Rattle.fields.specs.Parts.{Field, job_rows}
use Rattle.fields.specs.Record.{RowsLeft}
use Rattle.fields.proofs.rows.next_row.Given as goal

abbrev pub invariant-loop-ahead : goal.invariant-loop-ahead
invariant-loop-ahead l = (fields : List Field) (k : ℕ) → RowsLeft fields k l.rest → k < length (job_rows fields) → RowsLeft fields k l.ahead

abbrev pub decreases-loop-ahead : goal.decreases-loop-ahead
decreases-loop-ahead l = length l.ahead
