-- What is asked of the step that fills a run's places.
use Rattle.std.specs.Prelude.{ℕ, ◌≤◌, List, length}
use Rattle.std.specs.Borrow.{MutBor}

-- a call leaves no more of the text than there was; post tells what a call may leave
abbrev pub ReadsForward : {L : Type 0} → (MutBor (List ℕ) → MutBor L → Unit {0} → MutBor (List ℕ) → MutBor L → Type 0) → Type 0
ReadsForward {L} post =
    (text : MutBor (List ℕ)) (run : MutBor L) (left : MutBor (List ℕ)) (filled : MutBor L)
    → post text run tt left filled → length left.now ≤ length text.now
