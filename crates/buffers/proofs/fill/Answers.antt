-- `fill` meets its contract: each place holds its value as it is.
use Rattle.std.proofs.Common.{rules}
use Rattle.buffers.proofs.fill.Goals as goal

pub returns : goal.returns
returns c = λ i within. let made = c.fill_by.ensures i within 0 in search rules
