-- `fourth_byte` meets its contract: a byte behind the end counts as 0.
use Rattle.std.proofs.Common.{rules}
use Rattle.std.proofs.lemmas.Option.{unwrap_or-slice_get}
use Rattle.report.specs.Text.{fourth_byte}
use Rattle.report.proofs.lines.fourth_byte.Goals as goal

pub returns : goal.returns
unfolding fourth_byte
returns c = search (rules, unwrap_or-slice_get)
