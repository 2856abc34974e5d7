-- `fill_by` meets its contract: the places before this one are filled, and the value is this place's.
use Rattle.std.proofs.Common.{◌≡◌, ℕ, ◌+◌, ◌*◌, ◌%◌, ◌^◌, ◌<◌}
use Rattle.std.specs.List.{HoldsAt}
use Rattle.buffers.proofs.fill_by.Given as goal

abbrev pub invariant-loop-place : goal.invariant-loop-place
invariant-loop-place g l =
    (l.value ≡ (l.first + l.place-index * l.step) % 2 ^ 32)
    × ((k : ℕ) → k < l.place-index → HoldsAt (λ made. goal.F-post g l.make ((l.first + k * l.step) % 2 ^ 32) made) l.places k)
