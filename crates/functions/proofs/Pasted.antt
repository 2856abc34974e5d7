-- A list that a loop writes from its first place on: the first i places are those of s, and the others as they were in `old`.
use mathlib.Core.Path.{◌≡◌, refl, ap, sym, ◌∙◌}
use mathlib.Core.List.{List, [], ◌∷◌, ◌++◌, append_assoc, append-nil}
use Prim.Native.Nat.{ℕ, suc, ◌+◌, ◌≤◌, ◌<◌}
use native.Mathlib.Numerals.{add-one}
use native.Mathlib.Omega.{arith}
use lib.ListN.{length, get_or, take, drop, set, length-append, length-drop, drop_of_length-le}
use lib.Seq.{take-suc, drop-cons, set_at, get_or_at, length-take-le, take_all}

abbrev pub pasted : List ℕ → List ℕ → ℕ → List ℕ
pasted s old i = take i s ++ drop i old

module _ (s old : List ℕ) (i : ℕ) where
  pub pasted_length : i ≤ length s → i ≤ length old → length (pasted s old i) ≡ length old
  pasted_length l m = simp (length-append, length-drop) (omega (arith, length-take-le i s l))

  split : i < length old → pasted s old i ≡ take i s ++ (get_or old i 0 ∷ drop (suc i) old)
  split m = ap (λ (rest : List ℕ). take i s ++ rest) (drop-cons old i 0 m)

  -- the place that is written next is as it was
  pub pasted_here : i ≤ length s → i < length old → get_or (pasted s old i) i 0 ≡ get_or old i 0
  pasted_here l m =
      ap (λ (xs : List ℕ). get_or xs i 0) (split m) ∙ get_or_at (take i s) (get_or old i 0) (drop (suc i) old) 0 i (length-take-le i s l)

  pub pasted_next : i < length s → i < length old → set (pasted s old i) i (get_or s i 0) ≡ pasted s old (suc i)
  pasted_next l m =
      ap (λ (xs : List ℕ). set xs i (get_or s i 0)) (split m)
      ∙ set_at (take i s) (get_or old i 0) (drop (suc i) old) (get_or s i 0) i (length-take-le i s (omega arith))
      ∙ sym (ap (λ (xs : List ℕ). xs ++ drop (suc i) old) (take-suc s i 0 l) ∙ append_assoc (take i s) (get_or s i 0 ∷ []) (drop (suc i) old))

  pub pasted_end : length s ≤ i → pasted s old i ≡ s ++ drop i old
  pasted_end l = ap (λ (xs : List ℕ). xs ++ drop i old) (take_all i s l)

-- the invariant of a loop that writes a list of the same length over `old`
pub record Pasting (s old list : List ℕ) (i : ℕ) : Type 0 where
  pub within : i ≤ length old
  pub list_is : list ≡ pasted s old i

module _ (s old : List ℕ) (same : length s ≡ length old) where
  pub pasting_start : Pasting s old old 0
  pasting_start = record { within = omega arith; list_is = refl }

  module _ (list : List ℕ) (i : ℕ) (p : Pasting s old list i) where
    pub pasting_length : length list ≡ length old
    pasting_length = ap length p.list_is ∙ pasted_length s old i (omega (arith, p.within)) p.within

    pub pasting_next : (v : ℕ) → i < length list → v ≡ get_or s i 0 → Pasting s old (set list i v) (i + 1)
    pasting_next v l e =
        let here : i < length old = omega (arith, pasting_length) in
        record {
          within = omega arith;
          list_is = ap (λ (xs : List ℕ). set xs i v) p.list_is ∙ ap (set (pasted s old i) i) e ∙ pasted_next s old i (omega arith) here ∙ rw add-one;
        }

    pub pasting_end : length list ≤ i → list ≡ s
    pasting_end l =
        p.list_is
        ∙ pasted_end s old i (omega (arith, pasting_length))
        ∙ ap (λ (rest : List ℕ). s ++ rest) (drop_of_length-le old {i = i} (omega (arith, pasting_length)))
        ∙ append-nil s
