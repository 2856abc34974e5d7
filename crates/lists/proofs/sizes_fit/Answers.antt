-- `sizes_fit` meets its contract: the closure's test is the definition's.
use mathlib.Core.Bool.{◌&&◌}
use Rattle.std.proofs.Common.{rules, tests, leb}
use Rattle.lists.proofs.Slices.{each_from_all}
use Rattle.lists.proofs.sizes_fit.Goals as goal

pub returns : goal.returns
returns c = each_from_all (λ x. leb 1 x && leb x c.args.capacity) c.args.sizes.now c.all.ensures.ran (cc) (λ x b q k. search (rules, tests))
