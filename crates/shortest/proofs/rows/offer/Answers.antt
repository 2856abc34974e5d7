-- `offer` meets its contract: the loop's invariant is `OfferedTo`.
use native.Mathlib.Omega.{arith}
use Rattle.shortest.proofs.Filling.{offer_start, offer_next, offer_end}
use Rattle.shortest.proofs.rows.offer.Goals as goal

pub loop-c-init : goal.loop-c-init
loop-c-init c = offer_start _ _ _ _ _

pub loop-c-preserved : goal.loop-c-preserved
loop-c-preserved c = offer_next _ _ _ _ _ _ _ _ c.loop-c.invariant (omega arith) (omega arith) c.max.ensures

pub returns : goal.returns
returns c = offer_end _ _ _ _ _ _ _ c.loop-c.invariant (omega arith)
