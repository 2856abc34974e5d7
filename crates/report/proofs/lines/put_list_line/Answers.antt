-- `put_list_line` meets its contract.
use Rattle.report.proofs.Values.{line_put}
use Rattle.report.proofs.lines.put_list_line.Goals as goal

pub returns : goal.returns
returns c = line_put _ _ c.put_bytes-behind.ensures c.put_values-end.ensures c.put_byte.ensures
