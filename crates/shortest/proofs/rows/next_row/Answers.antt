-- `next_row` meets its contract: the loop's invariant is `Stepped`.
use native.Mathlib.Omega.{arith}
use Rattle.tables.specs.Table.{entry}
use Rattle.shortest.proofs.Greatest.{row_small}
use Rattle.shortest.proofs.Filling.{copied, stepped_start, stepped_over, stepped_next, stepped_rows}
use Rattle.shortest.proofs.rows.next_row.Goals as goal
use Rattle.shortest.proofs.rows.next_row.Goals.{then-top-image, else-top-image}

pub loop-size-init : goal.loop-size-init
loop-size-init c = rw c.copy_from_slice.ensures.after (stepped_start c.requires.positive c.requires.before)

pub offer-requires-clause-small : goal.offer-requires-clause-small
offer-requires-clause-small c =
    rw c.copy_from_slice.ensures.after (row_small c.requires.room.form c.requires.room.in_table c.requires.before)

pub offer-requires-clause-small_image : goal.offer-requires-clause-small_image
unfolding entry
offer-requires-clause-small_image c = omega (arith, c.from-image.ensures, c.requires.room.form.small c.loop-size.size)

pub loop-size-preserved : goal.loop-size-preserved
unfolding entry
loop-size-preserved c =
    let before = copied c.requires.before c.copy_from_slice.ensures.after in
    let image = c.from-image.ensures in
    elim c.if-top-image.branch [
      | then-top-image w ↦ rw (w.row-is, w.top-is, image) (stepped_next c.requires.positive before c.loop-size.invariant _ (omega arith) (omega arith) (rw image at w.offer.ensures))
      | else-top-image w ↦ rw (w.row-is, w.top-is) (stepped_over c.requires.positive before c.loop-size.invariant (omega arith))
    ]

pub returns : goal.returns
returns c =
    let before = copied c.requires.before c.copy_from_slice.ensures.after in
    stepped_rows c.requires.room c.requires.positive before c.loop-size.invariant (omega arith) (omega arith) (omega arith)
