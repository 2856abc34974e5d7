-- `put_values` meets its contract: each turn puts the next value.
use Rattle.report.proofs.Values.{values_none, values_next}
use Rattle.report.proofs.put.put_values.Goals as goal

pub loop-value-init : goal.loop-value-init
loop-value-init c = values_none _ _ c.requires

pub loop-value-preserved : goal.loop-value-preserved
loop-value-preserved c = values_next _ _ c.loop-value.invariant c.loop-value-test.true (rw (← c.from.ensures) c.put_value-next.ensures)
