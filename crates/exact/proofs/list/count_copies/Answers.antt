-- `count_copies` meets its contract: the library's sum is the definition's.
use mathlib.Core.Path.{sym, ◌∙◌}
use Rattle.std.proofs.Common.{rules}
use Rattle.std.proofs.lemmas.Iterator.{YieldsList-from_slice, YieldsList-from_map}
use Rattle.std.proofs.lemmas.Iterator.Consumers.{YieldsList-at, sum_by_from_yields_List}
use Rattle.exact.proofs.Expanding.{total_is_sum}
use Rattle.exact.proofs.list.count_copies.Goals as goal

pub returns : goal.returns
returns c =
    let xs = c.args.counts.now in
    sum_by_from_yields_List (λ x. x) xs _ _ c.sum.ensures.ran (YieldsList-from_map _ (λ x. x) (YieldsList-at c.map.ensures.source (YieldsList-from_slice xs cc)) c.map.ensures.closure (λ x b q k. search rules))
    ∙ sym (total_is_sum xs)
