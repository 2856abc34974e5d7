-- The seven families of document 01, "Families": formulas, legal parameters and scales.
-- c is the capacity, p and q are the parameters, x is a size, and r is c mod p.
use Rattle.std.specs.Prelude.{Bool, false, cond, ◌&&◌, ◌||◌, ℕ, ◌+◌, ◌-◌, ◌*◌, ◌/◌, ◌%◌, leb, ltb, eqb}
use Rattle.functions.specs.Words.{limit}

infixl 65 ◌up◌
-- the quotient rounded up
unfoldable pub ◌up◌ : ℕ → ℕ → ℕ
a up b = (a + (b - 1)) / b

-- Theorem 1 of the survey: the mirror of g about half the capacity
unfoldable pub mirror : ℕ → (ℕ → ℕ) → ℕ → ℕ
mirror c g x = cond (ltb (2 * x) c) (2 * g x) (cond (eqb (2 * x) c) (g c) (2 * g c - 2 * g (c - x)))

-- family 1
unfoldable pub threshold : ℕ → ℕ → ℕ → ℕ
threshold c p x = cond (ltb (c - p) x) c (cond (ltb x p) 0 x)

-- family 2
unfoldable pub rounding : ℕ → ℕ → ℕ → ℕ
rounding c p x = cond (eqb (x * (p + 1) % c) 0) (x * p) (x * (p + 1) / c * c)

-- family 3 is its mirror
unfoldable pub quotient : ℕ → ℕ → ℕ
quotient p x = x / p

-- family 4 is its mirror
unfoldable pub vanderbeck : ℕ → ℕ → ℕ → ℕ
vanderbeck c p x = cond (eqb x 0) 0 (((p * x) up c) - 1)

-- family 5
unfoldable pub burdett_johnson : ℕ → ℕ → ℕ → ℕ
burdett_johnson p r x = x / p * (p - r) + cond (ltb r (x % p)) (x % p - r) 0

-- document 01's θ, for a remainder a over r
unfoldable pub theta : ℕ → ℕ → ℕ → ℕ → ℕ
theta p q r a = ((a - r) * q) up (p - r)

-- family 6 is its mirror
unfoldable pub letchford_lodi : ℕ → ℕ → ℕ → ℕ → ℕ
letchford_lodi p q r x = (q + 1) * (x / p) + cond (ltb r (x % p)) (theta p q r (x % p)) 0

-- what family 7 adds for a remainder a
unfoldable pub dash_gunluk_rest : ℕ → ℕ → ℕ → ℕ → ℕ
dash_gunluk_rest p q r a =
    cond (leb a r) 0
    (cond (eqb (q * (p - a) % (p - r)) 0) ((q + 1) * (a - r))
    (theta p q r a * (p - r)))

-- family 7
unfoldable pub dash_gunluk : ℕ → ℕ → ℕ → ℕ → ℕ
dash_gunluk p q r x = x / p * (q + 1) * (p - r) + dash_gunluk_rest p q r (x % p)

-- the one of seven that a family byte picks, and `other` for any other byte
abbrev pub by_family : {A : Type 0} → ℕ → A → A → A → A → A → A → A → A → A
by_family family other a₁ a₂ a₃ a₄ a₅ a₆ a₇ =
    cond (eqb family 1) a₁
    (cond (eqb family 2) a₂
    (cond (eqb family 3) a₃
    (cond (eqb family 4) a₄
    (cond (eqb family 5) a₅
    (cond (eqb family 6) a₆
    (cond (eqb family 7) a₇ other))))))

-- refusal 2 is that this is false
unfoldable pub is_family : ℕ → Bool
is_family family = leb 1 family && leb family 7

-- the image of a size
unfoldable pub family_image : ℕ → ℕ → ℕ → ℕ → ℕ → ℕ
family_image c family p q x =
    by_family family 0
    (threshold c p x)
    (rounding c p x)
    (mirror c (quotient p) x)
    (mirror c (vanderbeck c p) x)
    (burdett_johnson p (c % p) x)
    (mirror c (letchford_lodi p q (c % p)) x)
    (dash_gunluk p q (c % p) x)

-- the scale, document 01's D
unfoldable pub family_scale : ℕ → ℕ → ℕ → ℕ → ℕ
family_scale c family p q =
    by_family family 0
    c
    (c * p)
    (2 * quotient p c)
    (2 * vanderbeck c p c)
    (c / p * (p - c % p))
    (2 * letchford_lodi p q (c % p) c)
    ((p - c % p) * (q + 1) * (c / p))

-- what families 6 and 7 ask of their parameters
unfoldable pub legal_pair : ℕ → ℕ → ℕ → Bool
legal_pair c p q = leb 1 p && leb p c && ltb 0 (c % p) && leb ((p up (c % p)) - 1) q

-- what each family asks of its own parameters
unfoldable pub legal_for : ℕ → ℕ → ℕ → ℕ → Bool
legal_for c family p q =
    by_family family false
    (leb (2 * p) (c + 1))
    (leb 1 p)
    (leb 1 p && leb (2 * p) c)
    (leb 2 p && leb p c)
    (leb 1 p && leb p c)
    (legal_pair c p q)
    (legal_pair c p q)

-- refusal 3 is that this is false
unfoldable pub legal : ℕ → ℕ → ℕ → ℕ → Bool
legal c family p q = leb p limit && leb q limit && (ltb 5 family || eqb q 0) && legal_for c family p q
