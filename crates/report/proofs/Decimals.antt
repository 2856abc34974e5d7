-- A number's digits are those that the library writes, and the last one stands behind those of the number without it.
use mathlib.Core.Path.{◌≡◌, refl, ap}
use mathlib.Core.Bool.{cond}
use mathlib.Core.List.{List, [], ◌∷◌, ◌++◌}
use mathlib.Core.Logic.{◌⊎◌, inl, inr}
use Prim.Native.Nat.{ℕ, zero, suc, ◌+◌, ◌/◌, ◌%◌, ◌^◌, ◌≤◌, ◌<◌}
use native.Mathlib.Omega.{arith}
use borrow.Author.Tests.{eq-eqb, ne_eqb, lt-ltb, le-ltb}
use lib.Dec.{eqb}
use Rattle.std.specs.Fmt.{decimal as written}
use Rattle.std.proofs.lemmas.Bool.{cases_lt}
use Rattle.std.proofs.lemmas.Fmt.{AppendsLastDigit, decimal_from_appends, length-decimal-le_succ}
use Rattle.report.specs.Text.{digits, decimal}

appends : AppendsLastDigit digits
unfolding digits
appends =
    record {
      one = λ k n one. rw (lt-ltb n 10 one) refl;
      more = λ k n more. rw (le-ltb n 10 more) refl;
    }

pub decimal_is : (n : ℕ) → n < 2 ^ 64 → decimal n ≡ written n
unfolding decimal
decimal_is n small = decimal_from_appends digits appends (suc n) n small (omega (arith, length-decimal-le_succ n small))

-- as many digits as the number is enough
digits_same : (k j n : ℕ) → n < k → n < j → digits k n ≡ digits j n
unfolding digits
digits_same zero j n l m = absurd (omega arith)
digits_same (suc k) zero n l m = absurd (omega arith)
digits_same (suc k) (suc j) n l m = go (cases_lt n 10) (digits_same k j (n / 10))
  where
    go : (n < 10) ⊎ (10 ≤ n) → (n / 10 < k → n / 10 < j → digits k (n / 10) ≡ digits j (n / 10)) → digits (suc k) n ≡ digits (suc j) n
    go (inl one) rest = rw (lt-ltb n 10 one) refl
    go (inr more) rest = rw (le-ltb n 10 more) (ap (λ (l : List ℕ). l ++ ((48 + n % 10) ∷ [])) (rest (omega arith) (omega arith)))

-- the digits before the last one
pub lead : ℕ → List ℕ
lead n = cond (eqb n 0) [] (decimal n)

pub last_digit : (n : ℕ) → decimal n ≡ lead (n / 10) ++ ((48 + n % 10) ∷ [])
unfolding decimal digits lead
last_digit n = go (cases_lt n 10)
  where
    go : (n < 10) ⊎ (10 ≤ n) → decimal n ≡ lead (n / 10) ++ ((48 + n % 10) ∷ [])
    go (inl one) =
        let none : n / 10 ≡ 0 = omega arith in
        let same : n % 10 ≡ n = omega arith in
        rw (lt-ltb n 10 one, eq-eqb (n / 10) 0 none, same) refl
    go (inr more) =
        rw (le-ltb n 10 more, ne_eqb (n / 10) 0 (omega arith))
        (ap (λ (l : List ℕ). l ++ ((48 + n % 10) ∷ [])) (digits_same n (suc (n / 10)) (n / 10) (omega arith) (omega arith)))
