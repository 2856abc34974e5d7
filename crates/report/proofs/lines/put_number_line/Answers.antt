-- `put_number_line` meets its contract.
use Rattle.report.proofs.Values.{line_put, value_put}
use Rattle.report.proofs.lines.put_number_line.Goals as goal

pub returns : goal.returns
returns c = line_put _ _ c.put_bytes-behind.ensures (value_put _ c.put_value-end.ensures) c.put_byte.ensures
