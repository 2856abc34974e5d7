-- `put_pairs` meets its contract: the text that is left never grows.
use Rattle.std.proofs.Common.{◌≤◌, length}
use Rattle.runs.proofs.put_pairs.Given as goal

abbrev pub invariant-loop : goal.invariant-loop
invariant-loop l = length l.numbers ≤ length l.initial.numbers
