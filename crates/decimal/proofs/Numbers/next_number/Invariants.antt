-- `next_number`: what is left goes on with the number, and a turn passes one byte.
use Rattle.std.proofs.Common.{◌≡◌, ◌≤◌, length}
use Rattle.decimal.specs.Reading.{value_from, behind}
use Rattle.decimal.proofs.Numbers.next_number.Given as goal

abbrev pub invariant-loop-byte : goal.invariant-loop-byte
invariant-loop-byte l = record {
  value : value_from l.value l.self-inside.text.now ≡ value_from 0 l.initial.self-inside.text.now;
  rest : behind l.self-inside.text.now ≡ behind l.initial.self-inside.text.now;
  forward : length l.self-inside.text.now ≤ length l.initial.self-inside.text.now;
}

abbrev pub decreases-loop-byte : goal.decreases-loop-byte
decreases-loop-byte l = length l.self-inside.text.now
