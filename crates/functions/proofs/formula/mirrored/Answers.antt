-- `mirrored` meets its contract: the middle, and twice the side off it.
use Rattle.std.proofs.lemmas.Bool.{cases_lt}
use mathlib.Core.Path.{◌≡◌, ap}
use mathlib.Core.Logic.{◌⊎◌, inl, inr}
use Prim.Native.Nat.{ℕ, ◌-◌, ◌*◌, ◌≤◌, ◌<◌, min}
use native.Mathlib.Omega.{arith}
use Rattle.functions.proofs.Mirror.{mirror_low, mirror_middle, mirror_high}
use Rattle.functions.specs.Families.{mirror}
use Rattle.functions.proofs.formula.mirrored.Goals as goal

-- twice the side, off the middle
off_middle : (c x least top part side : ℕ) (f : ℕ → ℕ) → x ≤ c → least ≡ min x (c - x) → (x ≡ c - x → ⊥) → f c ≡ top → part ≡ f least → (x < c - x → side ≡ part) → (c - x ≤ x → side ≡ top - part) → 2 * side ≡ mirror c f x
off_middle c x least top part side f within lesser off at_top at_part low high = go (cases_lt x (c - x))
  where
    go : (x < c - x) ⊎ (c - x ≤ x) → 2 * side ≡ mirror c f x
    go (inl l) =
        let less : least ≡ x = omega arith in
        omega (arith, at_part, ap f less, mirror_low c f x (omega arith), low l)
    go (inr l) =
        let less : least ≡ c - x = omega arith in
        omega (arith, at_top, at_part, ap f less, mirror_high c f x (omega (arith, off)), high l)

pub returns-then-x-rest : goal.returns-then-x-rest
returns-then-x-rest g c = λ f top part. omega (arith, top, mirror_middle c.args.capacity f c.args.x (omega arith))

pub returns : goal.returns
returns g c = λ f top part.
    let half = c.side-side.ensures in
    off_middle _ _ _ _ _ _ f c.requires.range.0 c.min.ensures c.if-x-rest.false top (part _ _ (omega arith) c.half-part.ensures) half.1.0 half.1.1
