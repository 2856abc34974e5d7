-- `put_byte` meets its contract.
use Rattle.report.proofs.Puts.{put_one, put_full}
use Rattle.report.proofs.put.put_byte.Goals as goal

pub returns-then-at-out : goal.returns-then-at-out
returns-then-at-out c = put_one _ _ _ c.if-at-out.true

pub returns : goal.returns
returns c = put_full _ _ _ c.requires c.if-at-out.false
