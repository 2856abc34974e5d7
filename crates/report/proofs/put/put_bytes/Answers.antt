-- `put_bytes` meets its contract.
use native.Mathlib.Omega.{arith}
use Rattle.report.proofs.Puts.{put_part}
use Rattle.report.proofs.put.put_bytes.Goals as goal

pub returns : goal.returns
returns c = rw c.copy_from_slice.ensures.after (put_part _ _ _ _ _ c.requires c.min-count.ensures (omega arith))
