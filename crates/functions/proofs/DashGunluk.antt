-- Family 7 is superadditive: Lemma 1 at what it adds for a remainder.
-- For a remainder a: b = a - r, n = b * q, and t = theta p q r a, which is n up (p - r).
use Rattle.std.proofs.lemmas.Bool.{cases_lt}
use mathlib.Core.Path.{◌≡◌, ap, sym, ◌∙◌, refl}
use mathlib.Core.Logic.{◌⊎◌, inl, inr, ⊎_elim}
use Prim.Native.Nat.{ℕ, ◌+◌, ◌-◌, ◌*◌, ◌/◌, ◌%◌, ◌≤◌, ◌<◌}
use native.Mathlib.Nat.{mul-le-mul_right, mul-le-mul_left, le_of_mul-le-mul_right, mul-mod_left, div-add-mod', eq-zero-or-pos, eq-or-lt_of_le}
use native.Mathlib.Omega.{arith}
use borrow.Author.Tests.{le-leb, lt-leb, eq-eqb, ne_eqb}
use Rattle.functions.specs.Families.{dash_gunluk, dash_gunluk_rest, theta, ◌up◌}
use Rattle.functions.proofs.Superadditive.{Superadditive}
use Rattle.functions.proofs.Quotient.{by_quotient_and_remainder, up_reaches, up_monotone, up_exact, up_whole}
use Rattle.functions.proofs.Remainder.{theta_of, theta_small, theta_monotone, theta_most, theta_within, theta_beyond}

-- k multiples of d are j multiples and n more: n is k - j multiples
multiple_less : (d k j n : ℕ) → 0 < d → k * d ≡ j * d + n → n ≡ (k - j) * d
multiple_less d k j n pos e =
    let fits : j ≤ k = le_of_mul-le-mul_right {m = j} {n = k} {k = d} (omega arith) pos in
    let sum : k ≡ j + (k - j) = omega arith in
    let all : k * d ≡ (j + (k - j)) * d = ap (λ (m : ℕ). m * d) sum in
    omega arith

module _ (p q r : ℕ) where
  pub rest_small : (a : ℕ) → a ≤ r → dash_gunluk_rest p q r a ≡ 0
  unfolding dash_gunluk_rest
  rest_small a l = simp (le-leb a r l)

  rest_divided : (a : ℕ) → r < a → q * (p - a) % (p - r) ≡ 0 → dash_gunluk_rest p q r a ≡ (q + 1) * (a - r)
  unfolding dash_gunluk_rest
  rest_divided a l e = simp (lt-leb a r l, eq-eqb (q * (p - a) % (p - r)) 0 e)

  rest_rounded : (a : ℕ) → r < a → 0 < q * (p - a) % (p - r) → dash_gunluk_rest p q r a ≡ theta p q r a * (p - r)
  unfolding dash_gunluk_rest
  rest_rounded a l e = simp (lt-leb a r l, ne_eqb (q * (p - a) % (p - r)) 0 (omega arith))

  module _ (less : r < p) where
    -- q * (p - a) and n make q whole gaps
    gaps : (a : ℕ) → r < a → a < p → q * (p - a) + (a - r) * q ≡ q * (p - r)
    gaps a l m =
        let sum : (p - a) + (a - r) ≡ p - r = omega arith in
        omega (arith, ap (λ (k : ℕ). q * k) sum)

    -- where the gap divides n it divides q * (p - a)
    pub rest_whole : (a k : ℕ) → r < a → a < p → (a - r) * q ≡ k * (p - r) → dash_gunluk_rest p q r a ≡ (a - r) * q + (a - r)
    rest_whole a k l m e =
        let others : q * (p - a) ≡ (q - k) * (p - r) = multiple_less (p - r) q k (q * (p - a)) (omega arith) (omega (arith, gaps a l m)) in
        rest_divided a l (ap (λ (n : ℕ). n % (p - r)) others ∙ mul-mod_left (q - k) (p - r)) ∙ omega arith

    pub data Part (a : ℕ) : Type 0 where
      whole : (a - r) * q ≡ theta p q r a * (p - r) → dash_gunluk_rest p q r a ≡ (a - r) * q + (a - r) → Part a
      broken : dash_gunluk_rest p q r a ≡ theta p q r a * (p - r) → Part a

    pub part : (a : ℕ) → a < p → Part a
    part a m = ⊎_elim (λ l. ⊎_elim (divided l) (λ n. broken (rest_rounded a l n)) (eq-zero-or-pos (q * (p - a) % (p - r)))) small (cases_lt r a)
      where
        small : a ≤ r → Part a
        small l =
            let b : a - r ≡ 0 = omega arith in
            whole (omega (arith, ap (λ (t : ℕ). t * (p - r)) (theta_small p q r less a l), ap (λ (n : ℕ). n * q) b)) (omega (arith, rest_small a l, ap (λ (n : ℕ). n * q) b))

        divided : r < a → q * (p - a) % (p - r) ≡ 0 → Part a
        divided l e =
            let k : ℕ = q * (p - a) / (p - r) in
            let left : q * (p - a) ≡ k * (p - r) = omega (arith, div-add-mod' (q * (p - a)) (p - r)) in
            let n_is : (a - r) * q ≡ (q - k) * (p - r) = multiple_less (p - r) q k ((a - r) * q) (omega arith) (omega (arith, gaps a l m)) in
            let t-is : theta p q r a ≡ q - k = theta_of p q r less a (a - r) refl ∙ ap (λ (n : ℕ). n up (p - r)) n_is ∙ up_exact (p - r) (omega arith) (q - k) in
            whole (n_is ∙ ap (λ (n : ℕ). n * (p - r)) (sym t-is)) (rest_divided a l e ∙ omega arith)

    -- the two cases by the test that n is theta gaps
    pub rest_divisible : (a : ℕ) → a < p → (a - r) * q ≡ theta p q r a * (p - r) → dash_gunluk_rest p q r a ≡ (a - r) * q + (a - r)
    rest_divisible a m e = ⊎_elim (λ l. rest_whole a (theta p q r a) l m e) small (cases_lt r a)
      where
        small : a ≤ r → dash_gunluk_rest p q r a ≡ (a - r) * q + (a - r)
        small l =
            let b : a - r ≡ 0 = omega arith in
            omega (arith, rest_small a l, ap (λ (n : ℕ). n * q) b)

    pub rest_indivisible : (a : ℕ) → a < p → ((a - r) * q ≡ theta p q r a * (p - r) → ⊥) → dash_gunluk_rest p q r a ≡ theta p q r a * (p - r)
    rest_indivisible a m not = go (part a m)
      where
        go : Part a → dash_gunluk_rest p q r a ≡ theta p q r a * (p - r)
        go (whole e g) = absurd (not e)
        go (broken g) = g

    -- what is added is at least theta gaps
    rest_least : (a : ℕ) → Part a → theta p q r a * (p - r) ≤ dash_gunluk_rest p q r a
    rest_least a (whole e g) = omega arith
    rest_least a (broken g) = omega arith

    -- and at most theta gaps and b
    rest_almost : (a : ℕ) → Part a → dash_gunluk_rest p q r a ≤ theta p q r a * (p - r) + (a - r)
    rest_almost a (whole e g) = omega arith
    rest_almost a (broken g) = omega arith

    rest_most : (a : ℕ) → a < p → dash_gunluk_rest p q r a ≤ (q + 1) * (p - r)
    rest_most a m = go (part a m)
      where
        go : Part a → dash_gunluk_rest p q r a ≤ (q + 1) * (p - r)
        go (whole e g) =
            let le : a - r ≤ p - r = omega arith in
            omega (arith, mul-le-mul_left (q + 1) le)
        go (broken g) = omega (arith, mul-le-mul_right (p - r) (theta_most p q r less a m))

    module _ (enough : p - r ≤ q * r) where
      q_positive : 1 ≤ q
      q_positive = ⊎_elim (λ e. absurd (omega (arith, ap (λ (n : ℕ). n * r) e))) (λ l. l) (eq-zero-or-pos q)

      rest_monotone : (a s : ℕ) → a ≤ s → s < p → dash_gunluk_rest p q r a ≤ dash_gunluk_rest p q r s
      rest_monotone a s h m = ⊎_elim (λ e. omega (arith, ap (dash_gunluk_rest p q r) e)) (λ l. go l (part a (omega arith)) (part s m) (cases_lt r a)) (eq-or-lt_of_le h)
        where
          go : a < s → Part a → Part s → (r < a) ⊎ (a ≤ r) → dash_gunluk_rest p q r a ≤ dash_gunluk_rest p q r s
          go l (broken g) ps k = omega (arith, mul-le-mul_right (p - r) (theta_monotone p q r less a s (omega arith)), rest_least s ps)
          go l (whole e g) ps (inr k) = omega (arith, rest_small a k)
          go l (whole e g) (whole es gs) (inl k) =
              let more : a - r + 1 ≤ s - r = omega arith in
              omega (arith, mul-le-mul_right q more)
          go l (whole e g) (broken gs) (inl k) =
              let more : a - r + 1 ≤ s - r = omega arith in
              let reach : (s - r) * q ≤ theta p q r s * (p - r) = rw (theta_of p q r less s (s - r) refl) (up_reaches (p - r) (omega arith) ((s - r) * q)) in
              let next : theta p q r a < theta p q r s = ⊎_elim (λ h. h) (λ h. absurd (omega (arith, mul-le-mul_right q more, mul-le-mul_right (p - r) h, q_positive))) (cases_lt (theta p q r a) (theta p q r s)) in
              omega (arith, mul-le-mul_right (p - r) next)

      -- n of a sum, where neither part is small
      sum_within : (a b : ℕ) → r < a → r < b → (a + b - r) * q ≡ (a - r) * q + (b - r) * q + r * q
      sum_within a b ha hb =
          let sum : a + b - r ≡ (a - r) + (b - r) + r = omega arith in
          ap (λ (k : ℕ). k * q) sum ∙ omega arith

      -- the first part is whole, so the sum has a gap more, which pays for both remainders
      whole_within : (a b : ℕ) → r < a → r < b → a + b < p → (a - r) * q ≡ theta p q r a * (p - r) → dash_gunluk_rest p q r a + dash_gunluk_rest p q r b ≤ dash_gunluk_rest p q r (a + b)
      whole_within a b ha hb l e =
          let t : ℕ = theta p q r a in
          let one_more : t + 1 + theta p q r b ≤ theta p q r (a + b) =
          rw (theta_of p q r less (a + b) (a + b - r) refl, theta_of p q r less b (b - r) refl)
          (omega (arith, up_whole (p - r) (omega arith) ((b - r) * q) (t + 1), up_monotone (p - r) (omega arith) ((t + 1) * (p - r) + (b - r) * q) ((a + b - r) * q) (omega (arith, sum_within a b ha hb)))) in
          omega (arith, mul-le-mul_right (p - r) one_more, rest_least (a + b) (part (a + b) l), rest_almost a (part a (omega arith)), rest_almost b (part b (omega arith)))

      rest_within : (a b : ℕ) → r < a → r < b → a + b < p → dash_gunluk_rest p q r a + dash_gunluk_rest p q r b ≤ dash_gunluk_rest p q r (a + b)
      rest_within a b ha hb l = go (part a (omega arith)) (part b (omega arith))
        where
          go : Part a → Part b → dash_gunluk_rest p q r a + dash_gunluk_rest p q r b ≤ dash_gunluk_rest p q r (a + b)
          go (whole e g) pb = whole_within a b ha hb l e
          go (broken ga) (whole e g) =
              let swap : b + a ≡ a + b = omega arith in
              omega (arith, whole_within b a hb ha (omega arith) e, ap (dash_gunluk_rest p q r) swap)
          go (broken ga) (broken gb) =
              omega (arith, rest_least (a + b) (part (a + b) l), mul-le-mul_right (p - r) (theta_within p q r less enough a b ha hb l))

      module _ (a b s : ℕ) (ha : r < a) (hb : r < b) (la : a < p) (lb : b < p) (e : a + b ≡ s + p) where
        -- the parts' n reach at most q gaps and the n of what is left
        reach : (a - r) * q + (b - r) * q ≤ q * (p - r) + (s - r) * q
        reach =
            let parts : (a - r) + (b - r) ≤ (p - r) + (s - r) = omega arith in
            omega (arith, mul-le-mul_right q parts)

        whole_broken : (a - r) * q ≡ theta p q r a * (p - r) → dash_gunluk_rest p q r b ≡ theta p q r b * (p - r) → dash_gunluk_rest p q r a + dash_gunluk_rest p q r b ≤ (q + 1) * (p - r) + dash_gunluk_rest p q r s
        whole_broken ea gb =
            let t : ℕ = theta p q r a in
            let within : t + theta p q r b ≤ q + theta p q r s =
            rw (theta_of p q r less s (s - r) refl, theta_of p q r less b (b - r) refl)
            (omega (arith, up_whole (p - r) (omega arith) ((b - r) * q) t, up_whole (p - r) (omega arith) ((s - r) * q) q, up_monotone (p - r) (omega arith) (t * (p - r) + (b - r) * q) (q * (p - r) + (s - r) * q) (omega (arith, reach)))) in
            omega (arith, mul-le-mul_right (p - r) within, rest_least s (part s (omega arith)), rest_almost a (part a la))

        whole_whole : (a - r) * q ≡ theta p q r a * (p - r) → (b - r) * q ≡ theta p q r b * (p - r) → dash_gunluk_rest p q r a + dash_gunluk_rest p q r b ≤ (q + 1) * (p - r) + dash_gunluk_rest p q r s
        whole_whole ea eb = ⊎_elim over under (cases_lt r s)
          where
            ga : dash_gunluk_rest p q r a ≡ (a - r) * q + (a - r)
            ga = rest_whole a (theta p q r a) ha la ea

            gb : dash_gunluk_rest p q r b ≡ (b - r) * q + (b - r)
            gb = rest_whole b (theta p q r b) hb lb eb

            over : r < s → dash_gunluk_rest p q r a + dash_gunluk_rest p q r b ≤ (q + 1) * (p - r) + dash_gunluk_rest p q r s
            over hs =
                let k : ℕ = theta p q r a + theta p q r b in
                let parts : (a - r) + (b - r) ≡ (p - r) + (s - r) = omega arith in
                let sum : k * (p - r) ≡ q * (p - r) + (s - r) * q = omega (arith, ap (λ (n : ℕ). n * q) parts) in
                let gs : dash_gunluk_rest p q r s ≡ (s - r) * q + (s - r) = rest_whole s (k - q) hs (omega arith) (multiple_less (p - r) k q ((s - r) * q) (omega arith) sum) in
                omega (arith, ga, gb)

            under : s ≤ r → dash_gunluk_rest p q r a + dash_gunluk_rest p q r b ≤ (q + 1) * (p - r) + dash_gunluk_rest p q r s
            under hs =
                let parts : (a - r) + (b - r) ≤ p - r = omega arith in
                omega (arith, ga, gb, mul-le-mul_left (q + 1) parts)

      rest_beyond : (a b s : ℕ) → r < a → r < b → a < p → b < p → a + b ≡ s + p → dash_gunluk_rest p q r a + dash_gunluk_rest p q r b ≤ (q + 1) * (p - r) + dash_gunluk_rest p q r s
      rest_beyond a b s ha hb la lb e = go (part a la) (part b lb)
        where
          go : Part a → Part b → dash_gunluk_rest p q r a + dash_gunluk_rest p q r b ≤ (q + 1) * (p - r) + dash_gunluk_rest p q r s
          go (whole ea ga) (whole eb gb) = whole_whole a b s ha hb la lb e ea eb
          go (whole ea ga) (broken gb) = whole_broken a b s ha hb la lb e ea gb
          go (broken ga) (whole eb gb) = omega (arith, whole_broken b a s hb ha lb la (omega arith) eb ga)
          go (broken ga) (broken gb) =
              omega (arith, rest_least s (part s (omega arith)), mul-le-mul_right (p - r) (theta_beyond p q r less enough a b s ha hb e))

      pub dash_gunluk_superadditive : (c : ℕ) → Superadditive (dash_gunluk p q r) c
      unfolding dash_gunluk
      dash_gunluk_superadditive c =
          by_quotient_and_remainder p (omega arith) ((q + 1) * (p - r)) r (dash_gunluk_rest p q r)
          rest_small
          rest_monotone
          rest_most
          rest_within
          rest_beyond
          (dash_gunluk p q r)
          (λ x. omega arith)
          c
