-- The measure is how many copies there are, twice, and one more for `place`.
use Rattle.std.proofs.Common.{◌≡◌, ◌+◌, ◌*◌, length, suc}
use Rattle.exact.proofs.Searching.{Trying}
use Rattle.exact.proofs.search.+place_try_window.Given as goal

abbrev pub decreases-place : goal.decreases-place
decreases-place l = 2 * length l.copies.now + 1

abbrev pub decreases-try_window : goal.decreases-try_window
decreases-try_window l = 2 * suc (length l.others.now)

abbrev pub invariant-place-loop-b : goal.invariant-place-loop-b
invariant-place-loop-b l =
    Trying l.copies l.least l.best l.used l.initial.rooms l.initial.windows l.fewest l.rooms l.windows l.b
    × (length l.windows ≡ length l.initial.windows)
