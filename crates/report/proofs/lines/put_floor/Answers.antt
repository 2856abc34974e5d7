-- `put_floor` meets its contract.
use Rattle.report.proofs.Texts.{floor_put}
use Rattle.report.proofs.lines.put_floor.Goals as goal

pub returns : goal.returns
returns c = floor_put _ _ c.put_number_line-behind.ensures c.put_number_line-next.ensures c.put_cut.ensures
