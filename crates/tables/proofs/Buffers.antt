-- A buffer that a loop writes from its first place on, by one list.
use mathlib.Core.Path.{◌≡◌, ap, ◌∙◌}
use mathlib.Core.List.{List, ◌++◌}
use Prim.Native.Nat.{ℕ, ◌+◌, ◌<◌}
use native.Mathlib.Numerals.{add-one}
use native.Mathlib.Omega.{arith}
use lib.ListN.{length, get_or, drop, set}
use Rattle.functions.proofs.Pasted.{pasted, pasted_next, pasted_end}
use Rattle.tables.specs.Check.{at_front}

module _ (s old : List ℕ) (i : ℕ) where
  pub pasted_write : (buffer : List ℕ) (v : ℕ) → buffer ≡ pasted s old i → v ≡ get_or s i 0 → i < length s → i < length old → set buffer i v ≡ pasted s old (i + 1)
  pasted_write buffer v is e l m =
      ap (λ (xs : List ℕ). set xs i v) is ∙ ap (set (pasted s old i) i) e ∙ pasted_next s old i l m ∙ rw add-one

  pub pasted_whole : i ≡ length s → pasted s old i ≡ at_front s old
  unfolding at_front
  pasted_whole e = pasted_end s old i (omega arith) ∙ ap (λ (n : ℕ). s ++ drop n old) e
