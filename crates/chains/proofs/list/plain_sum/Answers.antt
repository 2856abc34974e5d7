-- `plain_sum` meets its contract: the library's sum is the definition's.
use mathlib.Core.Path.{ap, ◌∙◌}
use mathlib.Core.List.{map-id}
use Rattle.std.proofs.Common.{rules}
use Rattle.std.proofs.lemmas.Iterator.{YieldsList-from_slice, YieldsList-from_map}
use Rattle.std.proofs.lemmas.Iterator.Consumers.{YieldsList-at, sum_by_from_yields_List}
use Rattle.functions.specs.Words.{total}
use Rattle.chains.proofs.Counts.{total_by}
use Rattle.chains.proofs.list.plain_sum.Goals as goal

pub returns : goal.returns
returns c =
    let xs = c.args.list.now in
    sum_by_from_yields_List (λ x. x) xs _ _ c.sum.ensures.ran (YieldsList-from_map _ (λ x. x) (YieldsList-at c.map.ensures.source (YieldsList-from_slice xs cc)) c.map.ensures.closure (λ x b q k. search rules))
    ∙ total_by (λ x. x) xs
    ∙ ap total (map-id xs)
