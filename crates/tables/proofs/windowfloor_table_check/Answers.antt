-- `windowfloor_table_check` meets its contract: what it promises beyond the check follows from the check's clauses.
use Rattle.tables.proofs.Outcome.{answered}
use Rattle.tables.proofs.windowfloor_table_check.Goals as goal

pub returns-in-Ok : goal.returns-in-Ok
returns-in-Ok c = answered _ _ _ _ _ _ c.in-Ok.ensures

pub returns-in-Err : goal.returns-in-Err
returns-in-Err c = rw c.from.ensures (answered _ _ _ _ _ _ c.in-Err.ensures)
