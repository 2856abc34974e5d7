-- best c is the greatest total of images over lists of sizes with total at most c.
use Rattle.std.proofs.lemmas.Bool.{cases_lt}
use mathlib.Core.Path.{◌≡◌, refl, ap, sym, ◌∙◌}
use mathlib.Core.List.{List, [], ◌∷◌, ◌++◌, map}
use mathlib.Core.Logic.{◌⊎◌, inl, inr, ⊎_elim}
use Prim.Native.Nat.{ℕ, zero, suc, ◌+◌, ◌-◌, ◌*◌, ◌≤◌, ◌<◌, zero-le}
use native.Mathlib.Nat.{le_refl, eq-zero-or-pos}
use native.Mathlib.Omega.{arith}
use lib.ListN.{length, get_or, drop, length-drop}
use Rattle.functions.specs.Words.{limit, total}
use Rattle.functions.proofs.Superadditive.{total_append}
use Rattle.std.proofs.lemmas.List.{map-append}
use Rattle.tables.specs.Table.{entry, greatest_sum, bests, best}
use Rattle.tables.specs.Check.{TableForm}
use Rattle.tables.specs.Promise.{Reached}

-- a pair's sum is at most the greatest
sum_most : (xs bs : List ℕ) (i : ℕ) → i < length xs → i < length bs → get_or xs i 0 + get_or bs i 0 ≤ greatest_sum xs bs
unfolding greatest_sum
sum_most [] bs i l m = absurd (omega arith)
sum_most (x ∷ xs) [] i l m = absurd (omega arith)
sum_most (x ∷ xs) (b ∷ bs) zero l m = omega arith
sum_most (x ∷ xs) (b ∷ bs) (suc i) l m = omega (arith, sum_most xs bs i (omega arith) (omega arith))

-- the greatest is 0 or a pair's sum
pub record Pair (xs bs : List ℕ) (s : ℕ) : Type 0 where
  pub place : ℕ
  pub in_first : place < length xs
  pub in_second : place < length bs
  pub sum_is : s ≡ get_or xs place 0 + get_or bs place 0

sum_reached : (xs bs : List ℕ) → (greatest_sum xs bs ≡ 0) ⊎ Pair xs bs (greatest_sum xs bs)
unfolding greatest_sum
sum_reached [] bs = inl refl
sum_reached (x ∷ xs) [] = inl refl
sum_reached (x ∷ xs) (b ∷ bs) = go (cases_lt (x + b) (greatest_sum xs bs)) (sum_reached xs bs)
  where
    go : (x + b < greatest_sum xs bs) ⊎ (greatest_sum xs bs ≤ x + b) → (greatest_sum xs bs ≡ 0) ⊎ Pair xs bs (greatest_sum xs bs) → (greatest_sum (x ∷ xs) (b ∷ bs) ≡ 0) ⊎ Pair (x ∷ xs) (b ∷ bs) (greatest_sum (x ∷ xs) (b ∷ bs))
    go (inr l) rest = inr (record { place = 0; in_first = omega arith; in_second = omega arith; sum_is = omega arith })
    go (inl l) (inl e) = absurd (omega arith)
    go (inl l) (inr p) =
        inr (record { place = suc p.place; in_first = omega (arith, p); in_second = omega (arith, p); sum_is = omega (arith, p) })

module _ (t : List ℕ) where
  pub bests_length : (c : ℕ) → length (bests t c) ≡ suc c
  unfolding bests
  bests_length zero = refl
  bests_length (suc c) = ap suc (bests_length c)

  -- bests c holds best c, …, best 0
  pub bests_at : (c y : ℕ) → y ≤ c → get_or (bests t c) y 0 ≡ best t (c - y)
  unfolding bests best
  bests_at c zero l =
      let same : c ≡ c - 0 = omega arith in
      ap (best t) same
  bests_at zero (suc y) l = absurd (omega arith)
  bests_at (suc c) (suc y) l =
      let same : c - y ≡ suc c - suc y = omega arith in
      bests_at c y (omega arith) ∙ ap (best t) same

  pub best_zero : best t 0 ≡ 0
  unfolding best bests
  best_zero = refl

  entry_at : (y : ℕ) → get_or (drop 1 t) y 0 ≡ entry t (suc y)
  unfolding entry
  entry_at y = go t
    where
      go : (l : List ℕ) → get_or (drop 1 l) y 0 ≡ get_or l (suc y) 0
      go [] = refl
      go (x ∷ xs) = refl

  tail_length : length (drop 1 t) ≡ length t - 1
  tail_length = length-drop 1 t

  -- a first size y, and a list that fits what it leaves
  pub best_adds : (c y : ℕ) → 1 ≤ y → y ≤ c → y < length t → entry t y + best t (c - y) ≤ best t c
  unfolding best bests
  best_adds c zero h l m = absurd (omega arith)
  best_adds zero (suc y) h l m = absurd (omega arith)
  best_adds (suc c) (suc y) h l m =
      let less : suc c - suc y ≡ c - y = omega arith in
      omega (
        arith,
        sum_most (drop 1 t) (bests t c) y (omega (arith, tail_length)) (omega (arith, bests_length c)),
        entry_at y,
        bests_at c y (omega arith),
        ap (best t) less,
      )

  -- where best c is not 0 a first size reaches it
  pub record First (c : ℕ) : Type 0 where
    pub size : ℕ
    pub positive : 1 ≤ size
    pub fits : size ≤ c
    pub listed : size < length t
    pub reaches : best t c ≡ entry t size + best t (c - size)

  pub best_from : (c : ℕ) → (best t c ≡ 0) ⊎ First c
  unfolding best bests
  best_from zero = inl refl
  best_from (suc c) = go (sum_reached (drop 1 t) (bests t c))
    where
      go : (greatest_sum (drop 1 t) (bests t c) ≡ 0) ⊎ Pair (drop 1 t) (bests t c) (greatest_sum (drop 1 t) (bests t c)) → (best t (suc c) ≡ 0) ⊎ First (suc c)
      go (inl e) = inl e
      go (inr p) =
          let y : ℕ = p.place in
          let fits : y ≤ c = omega (arith, p, bests_length c) in
          let less : suc c - suc y ≡ c - y = omega arith in
          inr (record {
            size = suc y;
            positive = omega arith;
            fits = omega arith;
            listed = omega (arith, p, tail_length);
            reaches = omega (arith, p, entry_at y, bests_at c y fits, ap (best t) less);
          })

  -- an entry by itself
  pub entry_most : (y : ℕ) → 1 ≤ y → y < length t → entry t y ≤ best t y
  entry_most y h m = omega (arith, best_adds y y h (le_refl y) m)

  reached_up_to : (k c : ℕ) → c ≤ k → Reached t c
  unfolding total
  reached_up_to zero c l =
      let e : c ≡ 0 = omega arith in
      record { sizes = []; fits = omega arith; reaches = sym (ap (best t) e ∙ best_zero) }
  reached_up_to (suc k) c l = go (best_from c) (reached_up_to k)
    where
      go : (best t c ≡ 0) ⊎ First c → ((d : ℕ) → d ≤ k → Reached t d) → Reached t c
      go (inl e) rest = record { sizes = []; fits = omega arith; reaches = sym e }
      go (inr f) rest =
          let r = rest (c - f.size) (omega (arith, f)) in
          record {
            sizes = f.size ∷ r.sizes;
            fits = omega (arith, f, r.fits);
            reaches = omega (arith, f.reaches, r.reaches);
          }

  -- a list that fits c reaches best c
  pub best_reached : (c : ℕ) → Reached t c
  best_reached c = reached_up_to c c (le_refl c)

  module _ (form : TableForm t) where
    -- one more size, where the others are bounded at every capacity
    bounds_more : (x c rest images : ℕ) → ((d : ℕ) → rest ≤ d → d < length t → images ≤ best t d) → x + rest ≤ c → c < length t → entry t x + images ≤ best t c
    bounds_more x c rest images bound l m = ⊎_elim nothing some (eq-zero-or-pos x)
      where
        nothing : x ≡ 0 → entry t x + images ≤ best t c
        nothing e = omega (arith, ap (entry t) e, form.first, bound c (omega arith) m)

        some : 0 < x → entry t x + images ≤ best t c
        some h = omega (arith, bound (c - x) (omega arith) (omega arith), best_adds c x h (omega arith) (omega arith))

    -- every list that fits c totals at most best c
    pub best_bounds : (xs : List ℕ) (c : ℕ) → total xs ≤ c → c < length t → total (map (entry t) xs) ≤ best t c
    unfolding total
    best_bounds [] c l m = zero-le
    best_bounds (x ∷ xs) c l m = bounds_more x c (total xs) (total (map (entry t) xs)) (λ d. best_bounds xs d) l m

    -- two lists that fit make one
    pub best_sums : (y z : ℕ) → y + z < length t → best t y + best t z ≤ best t (y + z)
    best_sums y z m =
        let a = best_reached y in
        let b = best_reached z in
        omega (
          arith,
          best_bounds (a.sizes ++ b.sizes) (y + z) (omega (arith, total_append a.sizes b.sizes, a.fits, b.fits)) m,
          ap total (map-append (entry t) a.sizes b.sizes),
          total_append (map (entry t) a.sizes) (map (entry t) b.sizes),
          a.reaches,
          b.reaches,
        )

    -- a number that the entry of c and each pair of bests reach at most reaches best c
    pub best_halved : (c m : ℕ) → c < length t → 1 ≤ c → entry t c ≤ m → ((j : ℕ) → 1 ≤ j → 2 * j ≤ c → best t j + best t (c - j) ≤ m) → best t c ≤ m
    best_halved c m h pos whole pairs = ⊎_elim (λ e. omega arith) first (best_from c)
      where
        first : First c → best t c ≤ m
        first f = go (cases_lt f.size c) (cases_lt c (2 * f.size))
          where
            go : (f.size < c) ⊎ (c ≤ f.size) → (c < 2 * f.size) ⊎ (2 * f.size ≤ c) → best t c ≤ m
            go (inr all) k =
                let same : f.size ≡ c = omega (arith, f.fits) in
                let left : c - f.size ≡ 0 = omega arith in
                omega (arith, f.reaches, ap (entry t) same, ap (best t) left, best_zero)
            go (inl part) (inr low) = omega (arith, f.reaches, entry_most f.size f.positive f.listed, pairs f.size f.positive low)
            go (inl part) (inl high) =
                let back : c - (c - f.size) ≡ f.size = omega arith in
                omega (arith, f.reaches, entry_most f.size f.positive f.listed, pairs (c - f.size) (omega arith) (omega arith), ap (best t) back)

    -- entries within the limit keep the totals small
    pub total_most : (xs : List ℕ) → total (map (entry t) xs) ≤ limit * total xs
    unfolding total
    total_most [] = zero-le
    total_most (x ∷ xs) = ⊎_elim nothing some (eq-zero-or-pos x) (total_most xs)
      where
        nothing : x ≡ 0 → total (map (entry t) xs) ≤ limit * total xs → entry t x + total (map (entry t) xs) ≤ limit * (x + total xs)
        nothing e rest = omega (arith, ap (entry t) e, form.first)

        some : 0 < x → total (map (entry t) xs) ≤ limit * total xs → entry t x + total (map (entry t) xs) ≤ limit * (x + total xs)
        some h rest = omega (arith, form.small x)

    pub best_most : (c : ℕ) → best t c ≤ limit * c
    best_most c =
        let r = best_reached c in
        omega (arith, r.reaches, r.fits, total_most r.sizes)
