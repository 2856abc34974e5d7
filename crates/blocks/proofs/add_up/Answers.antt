-- `add_up` meets its contract: the library's sum over the chunks is the definition's over the numbers.
use mathlib.Core.Path.{ap, ◌∙◌}
use mathlib.Core.List.{map}
use Prim.Native.Nat.{◌^◌}
use native.Mathlib.Omega.{arith}
use Rattle.std.proofs.Common.{rules, tests}
use Rattle.std.specs.Int.{w16, from_be_bytes}
use Rattle.std.proofs.lemmas.Iterator.{YieldsList-from_slice, YieldsList-from_map}
use Rattle.std.proofs.lemmas.Iterator.Consumers.{YieldsList-at, sum_by_from_yields_List}
use Rattle.std.proofs.lemmas.Iterator.Adapters.{fits_from_length, at_most_from_yields_List}
use Rattle.functions.specs.Words.{total}
use Rattle.fields.proofs.Decoding.{halfwords_in_chunks}
use Rattle.fields.specs.Grammar.{most_blocks}
use Rattle.chains.proofs.Counts.{total_by}
use Rattle.blocks.proofs.add_up.Goals as goal

pub sum-requires-clause-fits : goal.sum-requires-clause-fits
sum-requires-clause-fits c =
    fits_from_length _ _ most_blocks (2 ^ 64) (at_most_from_yields_List (YieldsList-at c.map.ensures.source (YieldsList-from_slice c.as_chunks.result.0.now cc)) (omega (arith, c.as_chunks.ensures.front_len, c.requires))) c.map.ensures.closure (omega arith) (λ x r q k. search (rules, tests))

pub returns : goal.returns
returns c =
    let chunks = c.as_chunks.result.0.now in
    sum_by_from_yields_List (from_be_bytes w16) chunks _ _ c.sum.ensures.ran (YieldsList-from_map _ (from_be_bytes w16) (YieldsList-at c.map.ensures.source (YieldsList-from_slice chunks cc)) c.map.ensures.closure (λ x b q k. search rules))
    ∙ total_by (from_be_bytes w16) chunks
    ∙ ap total (ap (map (from_be_bytes w16)) c.as_chunks.ensures.front ∙ halfwords_in_chunks c.args.numbers.now)
