-- `greatest_place` meets its contract: the loop's invariant is `Splitting`.
use native.Mathlib.Omega.{arith}
use Rattle.shortest.proofs.Splitting.{splitting_start, splitting_taken, splitting_left, splitting_end}
use Rattle.shortest.proofs.rows.greatest_place.Goals as goal
use Rattle.shortest.proofs.rows.greatest_place.Goals.{then-most-sum, else-most-sum}

pub loop-s-init : goal.loop-s-init
loop-s-init c = splitting_start _ _ c.requires.some

pub loop-s-preserved : goal.loop-s-preserved
loop-s-preserved c =
    elim c.if-most-sum.branch [
      | then-most-sum w ↦ rw (w.most-is, w.place-is) (splitting_taken _ _ c.loop-s.invariant (omega arith) w.if-most-sum.true)
      | else-most-sum w ↦ rw (w.most-is, w.place-is) (splitting_left _ _ c.loop-s.invariant (omega (arith, w.if-most-sum.false)))
    ]

pub returns : goal.returns
returns c = splitting_end _ _ c.loop-s.invariant (omega arith)
