-- `put_halves` meets its contract: the places before this one are filled, and each had a number.
use Rattle.std.proofs.Common.{◌≡◌, ℕ, ◌%◌, ◌<◌, ◌≤◌, length, get_or}
use Rattle.buffers.proofs.put_halves.Given as goal

abbrev pub invariant-loop-i : goal.invariant-loop-i
invariant-loop-i l = (l.i ≤ length l.numbers) × ((k : ℕ) → k < l.i → get_or l.places k 0 ≡ get_or l.numbers k 0 % 65536)
