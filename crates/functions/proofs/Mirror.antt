-- Theorem 1 of the survey: the mirror of a superadditive function is superadditive.
use Rattle.std.proofs.lemmas.Bool.{cases_lt}
use mathlib.Core.Path.{◌≡◌, ap}
use mathlib.Core.Logic.{◌⊎◌, inl, inr, ⊎_elim}
use Prim.Native.Nat.{ℕ, ◌+◌, ◌-◌, ◌*◌, ◌≤◌, ◌<◌}
use native.Mathlib.Nat.{eq-zero-or-pos}
use native.Mathlib.Omega.{arith}
use borrow.Author.Tests.{lt-ltb, le-ltb, eq-eqb, ne_eqb}
use Rattle.functions.specs.Families.{mirror}
use Rattle.functions.proofs.Cases.{Order, below, equal, above, order}
use Rattle.functions.proofs.Superadditive.{Superadditive, monotone}

module _ (c : ℕ) (g : ℕ → ℕ) where
  pub mirror_low : (x : ℕ) → 2 * x < c → mirror c g x ≡ 2 * g x
  unfolding mirror
  mirror_low x h = simp (lt-ltb (2 * x) c h)

  pub mirror_middle : (x : ℕ) → 2 * x ≡ c → mirror c g x ≡ g c
  unfolding mirror
  mirror_middle x h = simp (le-ltb (2 * x) c (omega arith), eq-eqb (2 * x) c h)

  pub mirror_high : (x : ℕ) → c < 2 * x → mirror c g x ≡ 2 * g c - 2 * g (c - x)
  unfolding mirror
  mirror_high x h = simp (le-ltb (2 * x) c (omega arith), ne_eqb (2 * x) c (omega arith))

module _ (c : ℕ) (g : ℕ → ℕ) (h : Superadditive g c) where
  mirror_zero : mirror c g 0 ≡ 0
  mirror_zero = go (order 0 c)
    where
      go : Order 0 c → mirror c g 0 ≡ 0
      go (below l) = omega (arith, mirror_low c g 0 l, h.at_zero)
      go (equal e) = omega (arith, mirror_middle c g 0 e, ap g e, h.at_zero)
      go (above l) = omega arith

  -- two halves of the capacity's image
  doubled : (x : ℕ) → 2 * x ≤ c → 2 * g x ≤ g c
  doubled x l =
      let sum : g x + g x ≤ g (x + x) = h.sums x x (omega arith) in
      let up : g (x + x) ≤ g c = monotone g c h (x + x) c (omega arith) (omega arith) in
      omega arith

  -- y and what x + y leaves of the capacity share what x leaves
  shared : (x y : ℕ) → x + y ≤ c → g y + g (c - (x + y)) ≤ g (c - x)
  shared x y l =
      let split : y + (c - (x + y)) ≡ c - x = omega arith in
      omega (arith, h.sums y (c - (x + y)) (omega arith), ap g split)

  -- x at least half the capacity, y below half
  upper : (x y : ℕ) → x + y ≤ c → c ≤ 2 * x → 2 * y < c → c < 2 * (x + y) → mirror c g x + mirror c g y ≤ mirror c g (x + y)
  upper x y l hx hy hs = go (order (2 * x) c)
    where
      whole : g (c - x) ≤ g c
      whole = monotone g c h (c - x) c (omega arith) (omega arith)

      go : Order (2 * x) c → mirror c g x + mirror c g y ≤ mirror c g (x + y)
      go (below k) = absurd (omega arith)
      go (equal e) =
          let rest : c - x ≡ x = omega arith in
          omega (arith, mirror_middle c g x e, mirror_low c g y hy, mirror_high c g (x + y) hs, shared x y l, doubled x (omega arith), ap g rest)
      go (above k) =
          omega (arith, mirror_high c g x k, mirror_low c g y hy, mirror_high c g (x + y) hs, shared x y l, whole)

  -- the same with x and y exchanged
  upper_right : (x y : ℕ) → x + y ≤ c → 2 * x < c → c ≤ 2 * y → c < 2 * (x + y) → mirror c g x + mirror c g y ≤ mirror c g (x + y)
  upper_right x y l hx hy hs =
      let swap : y + x ≡ x + y = omega arith in
      omega (arith, upper y x (omega arith) hy hx (omega arith), ap (mirror c g) swap)

  -- both below half
  lower : (x y : ℕ) → x + y ≤ c → 2 * x < c → 2 * y < c → mirror c g x + mirror c g y ≤ mirror c g (x + y)
  lower x y l hx hy = go (order (2 * (x + y)) c)
    where
      sum : g x + g y ≤ g (x + y)
      sum = h.sums x y l

      go : Order (2 * (x + y)) c → mirror c g x + mirror c g y ≤ mirror c g (x + y)
      go (below k) = omega (arith, mirror_low c g x hx, mirror_low c g y hy, mirror_low c g (x + y) k, sum)
      go (equal e) =
          omega (arith, mirror_low c g x hx, mirror_low c g y hy, mirror_middle c g (x + y) e, sum, doubled (x + y) (omega arith))
      go (above k) =
          let whole : (x + y) + (c - (x + y)) ≡ c = omega arith in
          omega (arith, mirror_low c g x hx, mirror_low c g y hy, mirror_high c g (x + y) k, sum, h.sums (x + y) (c - (x + y)) (omega arith), ap g whole)

  -- both half the capacity: their sum is the capacity
  both_middle : (x y : ℕ) → x + y ≤ c → c ≤ 2 * x → c ≤ 2 * y → mirror c g x + mirror c g y ≤ mirror c g (x + y)
  both_middle x y l hx hy = go (order 0 c)
    where
      rest : c - (x + y) ≡ 0
      rest = omega arith

      go : Order 0 c → mirror c g x + mirror c g y ≤ mirror c g (x + y)
      go (below k) =
          omega (arith, mirror_middle c g x (omega arith), mirror_middle c g y (omega arith), mirror_high c g (x + y) (omega arith), ap g rest, h.at_zero)
      go (equal e) =
          let x-zero : x ≡ 0 = omega arith in
          let y-zero : y ≡ 0 = omega arith in
          let s-zero : x + y ≡ 0 = omega arith in
          omega (arith, ap (mirror c g) x-zero, ap (mirror c g) y-zero, ap (mirror c g) s-zero, mirror_zero)
      go (above k) = absurd (omega arith)

  mirror_sums : (x y : ℕ) → x + y ≤ c → mirror c g x + mirror c g y ≤ mirror c g (x + y)
  mirror_sums x y l = go (cases_lt (2 * x) c) (cases_lt (2 * y) c)
    where
      with_zero : x ≡ 0 → mirror c g x + mirror c g y ≤ mirror c g (x + y)
      with_zero e =
          let same : x + y ≡ y = omega arith in
          omega (arith, ap (mirror c g) e, mirror_zero, ap (mirror c g) same)

      zero_right : y ≡ 0 → mirror c g x + mirror c g y ≤ mirror c g (x + y)
      zero_right e =
          let same : x + y ≡ x = omega arith in
          omega (arith, ap (mirror c g) e, mirror_zero, ap (mirror c g) same)

      go : (2 * x < c) ⊎ (c ≤ 2 * x) → (2 * y < c) ⊎ (c ≤ 2 * y) → mirror c g x + mirror c g y ≤ mirror c g (x + y)
      go (inl hx) (inl hy) = lower x y l hx hy
      go (inl hx) (inr hy) = ⊎_elim with_zero (λ pos. upper_right x y l hx hy (omega arith)) (eq-zero-or-pos x)
      go (inr hx) (inl hy) = ⊎_elim zero_right (λ pos. upper x y l hx hy (omega arith)) (eq-zero-or-pos y)
      go (inr hx) (inr hy) = both_middle x y l hx hy

  pub mirror_superadditive : Superadditive (mirror c g) c
  mirror_superadditive = record { at_zero = mirror_zero; sums = mirror_sums }
