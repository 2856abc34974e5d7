-- `put_each` meets its contract: what a run reads does not grow the text.
use Rattle.std.proofs.Common.{arith}
use Rattle.runs.proofs.put_each.Goals as goal

pub loop-preserved : goal.loop-preserved
loop-preserved g c =
    let read = c.requires.forward _ _ _ _ c.put.ensures in
    omega (arith, read)
