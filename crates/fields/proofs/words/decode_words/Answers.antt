-- `decode_words` meets its contract: each turn writes the next number.
use mathlib.Core.Path.{◌≡◌, ◌∙◌}
use native.Mathlib.Omega.{arith}
use lib.ListN.{length}
use Rattle.functions.proofs.Pasted.{pasting_length, pasting_next, pasting_end}
use Rattle.fields.specs.Bytes.{words}
use Rattle.fields.proofs.Decoding.{words_count, word_of_chunk}
use Rattle.fields.proofs.words.decode_words.Goals.{Start}
use Rattle.fields.proofs.words.decode_words.Goals as goal

same_count : (c : Start) → length (words c.args.bytes.now) ≡ length c.args.out.now
same_count c = omega (arith, words_count c.args.bytes.now, c.requires)

pub loop-i-preserved : goal.loop-i-preserved
loop-i-preserved c =
    let loop = c.loop-i in
    let same = same_count (goal.at.loop-i-preserved c).Start in
    let kept = pasting_length _ _ same _ _ loop.invariant in
    pasting_next _ _ same _ loop.i loop.invariant _ (omega (arith, c.loop-i-test.true, c.as_chunks.ensures.front_len, c.requires, kept))
    (c.from_be_bytes.ensures ∙ word_of_chunk _ _ c.as_chunks.ensures.front loop.i)

pub returns : goal.returns
returns c =
    let same = same_count (goal.at.returns c).Start in
    let kept = pasting_length _ _ same _ _ c.loop-i.invariant in
    pasting_end _ _ same _ _ c.loop-i.invariant (omega (arith, c.loop-i-test.false, c.as_chunks.ensures.front_len, c.requires, kept))
