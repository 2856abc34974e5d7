-- `first_rows` meets its contract: the loop's invariant is `FirstRow`.
use native.Mathlib.Omega.{arith}
use Rattle.std.proofs.Common.{rules}
use Rattle.tables.specs.Table.{entry}
use Rattle.shortest.proofs.Filling.{first_row_start, first_row_next, first_rows_end}
use Rattle.shortest.proofs.rows.first_rows.Goals as goal

pub loop-c-init : goal.loop-c-init
loop-c-init c = first_row_start _ _

pub loop-c-preserved : goal.loop-c-preserved
unfolding entry
loop-c-preserved c = first_row_next c.requires.form c.loop-c.invariant _ (omega arith) (search rules)

pub returns : goal.returns
returns c = first_rows_end c.requires c.loop-c.invariant (c.fill.ensures.after (λ y e. e)) (omega arith) (omega arith) (omega arith)
