-- A list that a loop maps in place: the invariant and what a turn does to it.
use mathlib.Core.Path.{◌≡◌, ap, sym, ◌∙◌}
use mathlib.Core.List.{List, map}
use Prim.Native.Nat.{ℕ, ◌+◌, ◌≤◌, ◌<◌}
use native.Mathlib.Omega.{arith}
use lib.ListN.{length, get_or, set, length-map}
use Rattle.std.proofs.lemmas.List.{get_or-map}
use Rattle.functions.specs.Words.{EachWithin}
use Rattle.functions.proofs.Pasted.{Pasting, pasted_here, pasting_start, pasting_length, pasting_next, pasting_end}

-- the first i places of `old` hold their images
pub record Mapped (f : ℕ → ℕ) (old sizes : List ℕ) (i : ℕ) : Type 0 where
  pub pasting : Pasting (map f old) old sizes i

module _ (f : ℕ → ℕ) (old : List ℕ) where
  images : length (map f old) ≡ length old
  images = length-map old f

  pub mapped_start : Mapped f old old 0
  mapped_start = record { pasting = pasting_start (map f old) old images }

  module _ (sizes : List ℕ) (i : ℕ) (m : Mapped f old sizes i) where
    pub mapped_length : length sizes ≡ length old
    mapped_length = pasting_length (map f old) old images sizes i m.pasting

    -- the place that is mapped next is as it was
    mapped_here : i < length sizes → get_or sizes i 0 ≡ get_or old i 0
    mapped_here l =
        let here : i < length old = omega (arith, mapped_length) in
        ap (λ (xs : List ℕ). get_or xs i 0) m.pasting.list_is ∙ pasted_here (map f old) old i (omega (arith, images, here)) here

    pub mapped_within : (d : ℕ) → EachWithin d old → i < length sizes → get_or sizes i 0 ≤ d
    mapped_within d within l = rw (mapped_here l) (within i (omega (arith, mapped_length)))

    pub mapped_next : (v : ℕ) → i < length sizes → v ≡ f (get_or sizes i 0) → Mapped f old (set sizes i v) (i + 1)
    mapped_next v l e =
        let here : i < length old = omega (arith, mapped_length) in
        record { pasting = pasting_next (map f old) old images sizes i m.pasting v l (e ∙ ap f (mapped_here l) ∙ sym (get_or-map f old i 0 0 here)) }

    pub mapped_end : length sizes ≤ i → sizes ≡ map f old
    mapped_end l = pasting_end (map f old) old images sizes i m.pasting l
