-- `skip_empty_lines`: behind the lines that are left stands the same text, and a turn passes one byte.
use Rattle.std.proofs.Common.{◌≡◌, ◌≤◌, length}
use Rattle.decimal.specs.Reading.{behind_empty_lines}
use Rattle.decimal.proofs.Numbers.skip_empty_lines.Given as goal

abbrev pub invariant-loop-rest : goal.invariant-loop-rest
invariant-loop-rest l = record {
  rest : behind_empty_lines l.self-inside.text.now ≡ behind_empty_lines l.initial.self-inside.text.now;
  forward : length l.self-inside.text.now ≤ length l.initial.self-inside.text.now;
}

abbrev pub decreases-loop-rest : goal.decreases-loop-rest
decreases-loop-rest l = length l.self-inside.text.now
