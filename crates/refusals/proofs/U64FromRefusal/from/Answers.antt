use Rattle.refusals.proofs.Numbers.{number_is}
use Rattle.refusals.proofs.U64FromRefusal.from.Goals as goal

pub returns : goal.returns
returns c = number_is c.args.refusal
