-- `counts_fit` meets its contract: the closure's test is the definition's.
use Rattle.std.proofs.Common.{rules, tests, leb}
use Rattle.lists.proofs.Slices.{each_from_all}
use Rattle.lists.proofs.counts_fit.Goals as goal

pub returns : goal.returns
returns c = each_from_all (leb 1) c.args.counts.now c.all.ensures.ran (cc) (λ x b q k. search (rules, tests))
