-- `put_refused_line` meets its contract.
use Rattle.report.proofs.Values.{line_put, values_three}
use Rattle.report.proofs.lines.put_refused_line.Goals as goal

pub returns : goal.returns
returns c = line_put _ _ c.put_bytes-behind.ensures (values_three _ _ _ c.put_value-first.ensures c.put_row-second.ensures c.put_value-end.ensures) c.put_byte.ensures
