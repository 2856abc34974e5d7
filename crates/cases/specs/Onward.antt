-- What is asked of a case: that it passes some of the text.
use Rattle.std.specs.Prelude.{ℕ, ◌<◌, List, length, Result, OnOk}
use Rattle.std.specs.Borrow.{MutBor}

-- an answer that is `Ok` leaves less of a text that is not empty
abbrev pub PassesSome : {E : Type 0} → Result (Unit {0}) E → List ℕ → List ℕ → Type 0
PassesSome answer text left = 0 < length text → OnOk answer (length left < length text)

-- so does each call; post tells what a call may answer and leave
abbrev pub MovesOn : {W E : Type 0} → (MutBor W → MutBor (List ℕ) → Result (Unit {0}) E → MutBor W → MutBor (List ℕ) → Type 0) → Type 0
MovesOn {W} {E} post =
    (out : MutBor W) (text : MutBor (List ℕ)) (answer : Result (Unit {0}) E) (out' : MutBor W) (left : MutBor (List ℕ))
    → post out text answer out' left → PassesSome answer text.now left.now
