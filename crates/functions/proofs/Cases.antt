-- Proofs by cases: two numbers by their order, and tests that did not refuse.
use Rattle.std.proofs.lemmas.Bool.{cases_lt}
use mathlib.Core.Path.{◌≡◌, refl}
use mathlib.Core.Bool.{Bool, true, false, cond}
use mathlib.Core.Logic.{◌⊎◌, inl, inr, ⊎_elim}
use Prim.Native.Nat.{ℕ, ◌≤◌, ◌<◌}
use native.Mathlib.Nat.{eq-zero-or-pos}
use native.Mathlib.Omega.{arith}
use borrow.Author.Tests.{eq-eqb, ne_eqb}
use lib.Dec.{eqb}

pub data Order (a b : ℕ) : Type 0 where
  below : a < b → Order a b
  equal : a ≡ b → Order a b
  above : b < a → Order a b

pub order : (a b : ℕ) → Order a b
order a b = go (cases_lt a b) (cases_lt b a)
  where
    go : (a < b) ⊎ (b ≤ a) → (b < a) ⊎ (a ≤ b) → Order a b
    go (inl h) k = below h
    go (inr h) (inl k) = above k
    go (inr h) (inr k) = equal (omega arith)

-- a refusal that did not happen
pub not_refused : (test : Bool) (number rest : ℕ) → 0 < number → cond test number rest ≡ 0 → (test ≡ false) × (rest ≡ 0)
not_refused true number rest l e = absurd (omega arith)
not_refused false number rest l e = (refl, e)

-- what holds of two numbers holds of the one that a test takes
pub of_both : (P : ℕ → Type 0) (test : Bool) (a b : ℕ) → P a → P b → P (cond test a b)
of_both P true a b one other = one
of_both P false a b one other = other

-- a number that lets a second one decide where it is 0: it is not what came out, so the second is
pub then_decided : (n m k : ℕ) → (0 < n → n ≡ k → ⊥) → cond (eqb n 0) m n ≡ k → (n ≡ 0) × (m ≡ k)
then_decided n m k other e = ⊎_elim (λ none. (none, rw (eq-eqb n 0 none) at e)) (λ some. absurd (other some (rw (ne_eqb n 0 (omega arith)) at e))) (eq-zero-or-pos n)

pub then_zero : (n m : ℕ) → cond (eqb n 0) m n ≡ 0 → (n ≡ 0) × (m ≡ 0)
then_zero n m e = then_decided n m 0 (λ some none. omega arith) e
