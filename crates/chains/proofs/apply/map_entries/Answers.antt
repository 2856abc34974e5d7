-- `map_entries` meets its contract: each turn puts the next size's entry in its place.
use mathlib.Core.Path.{sym, ◌∙◌}
use native.Mathlib.Omega.{arith}
use Rattle.functions.proofs.Mapped.{mapped_within, mapped_next}
use Rattle.tables.proofs.Entries.{entry_is}
use Rattle.fields.proofs.Decoding.{word_of_chunk}
use Rattle.chains.proofs.apply.map_entries.Goals as goal

pub bounds-numbers-image : goal.bounds-numbers-image
bounds-numbers-image c = omega (arith, mapped_within _ _ _ _ c.loop-image.invariant _ c.requires.within (omega (arith, c.loop-image.auto, c.loop-image-test.true)), c.requires.some, c.as_chunks.ensures.front_len)

pub loop-image-preserved : goal.loop-image-preserved
loop-image-preserved c =
    let read = c.from_be_bytes.ensures ∙ word_of_chunk _ _ c.as_chunks.ensures.front _ ∙ sym (entry_is _ _) in
    mapped_next _ _ _ _ c.loop-image.invariant _ (omega (arith, c.loop-image.auto)) read
