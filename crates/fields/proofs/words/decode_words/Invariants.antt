-- `decode_words` meets its contract: each turn writes the next number.
use Rattle.functions.proofs.Pasted.{Pasting}
use Rattle.fields.specs.Bytes.{words}
use Rattle.fields.proofs.words.decode_words.Given as goal

abbrev pub invariant-loop-i : goal.invariant-loop-i
invariant-loop-i l = Pasting (words l.bytes) l.initial.out l.out l.i
