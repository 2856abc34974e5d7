-- `put_cut` meets its contract.
use Rattle.report.proofs.Texts.{cut_put}
use Rattle.report.proofs.lines.put_cut.Goals as goal

pub returns : goal.returns
returns c = cut_put _ _ c.put_number_line-next.ensures c.put_list_line.ensures
