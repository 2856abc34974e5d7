-- `sizes_within` meets its contract: the closure's test of a chunk is the definition's of its number.
use mathlib.Core.Path.{ap, ◌∙◌}
use mathlib.Core.Bool.{◌&&◌}
use mathlib.Core.List.{map}
use Rattle.std.proofs.Common.{rules, tests, leb}
use Rattle.std.specs.Int.{w32, from_be_bytes}
use Rattle.std.proofs.lemmas.Iterator.{YieldsList-from_slice}
use Rattle.std.proofs.lemmas.Iterator.Search.{all_from_yields_List}
use Rattle.fields.proofs.Decoding.{words_in_chunks}
use Rattle.chains.proofs.SizeTests.{each_of_chunks}
use Rattle.chains.proofs.list.sizes_within.Goals as goal

pub returns : goal.returns
returns c =
    let chunks = c.as_chunks.result.0.now in
    all_from_yields_List (λ chunk. leb c.args.least (from_be_bytes w32 chunk) && leb (from_be_bytes w32 chunk) c.args.capacity) _ _ _ c.all.ensures.ran (YieldsList-from_slice chunks cc) (λ x b q k. search (rules, tests))
    ∙ each_of_chunks _ (from_be_bytes w32) chunks _ (ap (map (from_be_bytes w32)) c.as_chunks.ensures.front ∙ words_in_chunks c.args.bytes.now)
