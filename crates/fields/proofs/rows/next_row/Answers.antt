-- `next_row` meets its contract: the loop passes the fields that are no row.
use Prim.Native.Nat.{ℕ, ◌<◌}
use mathlib.Core.List.{List}
use native.Mathlib.Omega.{arith}
use lib.ListN.{length}
use Rattle.fields.specs.Parts.{Field, job_rows}
use Rattle.fields.specs.Record.{RowsLeft}
use Rattle.fields.proofs.Walking.{FieldAhead, field_ahead, within_rest, skipped, row_here, row_found}
use Rattle.fields.proofs.rows.next_row.Goals.{Start}
use Rattle.fields.proofs.rows.next_row.Goals as goal

-- the first field of the rest that a turn has reached
first : (c : Start) (rest : List ℕ) → ((fields : List Field) (k : ℕ) → RowsLeft fields k c.args.rest.now → k < length (job_rows fields) → RowsLeft fields k rest) → FieldAhead c.requires.fields c.requires.k rest
first c rest inv = field_ahead _ _ rest (inv _ _ c.requires.there c.requires.more) c.requires.more

pub bounds-ahead-0 : goal.bounds-ahead-0
bounds-ahead-0 c = omega (arith, within_rest _ _ _ (first (goal.at.bounds-ahead-0 c).Start _ c.loop-ahead.invariant))

pub loop-ahead-smaller : goal.loop-ahead-smaller
loop-ahead-smaller c = rw c.field_rest-ahead.ensures (omega (arith, within_rest _ _ _ (first (goal.at.loop-ahead-smaller c).Start _ c.loop-ahead.invariant)))

pub loop-ahead-preserved : goal.loop-ahead-preserved
loop-ahead-preserved c = λ fields k left more.
    rw c.field_rest-ahead.ensures (skipped _ _ _ (field_ahead _ _ _ (c.loop-ahead.invariant fields k left more) more) c.loop-ahead-test.true)

pub first_row-requires : goal.first_row-requires
first_row-requires c = row_here _ _ _ (first (goal.at.first_row-requires c).Start _ c.loop-ahead.invariant) c.loop-ahead-test.false

pub returns : goal.returns
returns c =
    let read = c.first_row.ensures in
    record {
      found = λ fields k left more. row_found _ _ _ (field_ahead _ _ _ (c.loop-ahead.invariant fields k left more) more) c.loop-ahead-test.false _ read;
      whole = read.whole;
      small = read.small;
    }
