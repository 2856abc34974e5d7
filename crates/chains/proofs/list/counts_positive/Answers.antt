-- `counts_positive` meets its contract: the closure's test of a chunk is the definition's of its number.
use mathlib.Core.Path.{ap, ◌∙◌}
use mathlib.Core.List.{map}
use Rattle.std.proofs.Common.{rules, tests, leb}
use Rattle.std.specs.Int.{w16, from_be_bytes}
use Rattle.std.proofs.lemmas.Iterator.{YieldsList-from_slice}
use Rattle.std.proofs.lemmas.Iterator.Search.{all_from_yields_List}
use Rattle.fields.proofs.Decoding.{halfwords_in_chunks}
use Rattle.chains.proofs.SizeTests.{each_of_chunks}
use Rattle.chains.proofs.list.counts_positive.Goals as goal

pub returns : goal.returns
returns c =
    let chunks = c.as_chunks.result.0.now in
    all_from_yields_List (λ chunk. leb 1 (from_be_bytes w16 chunk)) _ _ _ c.all.ensures.ran (YieldsList-from_slice chunks cc) (λ x b q k. search (rules, tests))
    ∙ each_of_chunks (leb 1) (from_be_bytes w16) chunks _ (ap (map (from_be_bytes w16)) c.as_chunks.ensures.front ∙ halfwords_in_chunks c.args.bytes.now)
