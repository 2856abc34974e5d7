-- Greatest totals of at most k sizes: how they grow, how small they are, and what one size more adds.
use mathlib.Core.Path.{◌≡◌, refl, ap}
use mathlib.Core.List.{List, [], ◌∷◌}
use mathlib.Core.Logic.{⊎_elim}
use Prim.Native.Nat.{ℕ, suc, ◌+◌, ◌-◌, ◌*◌, ◌≤◌, ◌<◌, zero-le}
use native.Mathlib.Nat.{eq-zero-or-pos}
use native.Mathlib.Omega.{arith}
use lib.ListN.{length}
use Rattle.std.proofs.lemmas.Bool.{cases_lt}
use Rattle.functions.specs.Words.{limit, total}
use Rattle.tables.specs.Table.{entry}
use Rattle.tables.specs.Check.{TableForm, most_entries}
use Rattle.tables.proofs.Best.{total_most}
use Rattle.shortest.specs.Rows.{image_total, Reaching, Bounding, Greatest, Row, Rows, Small}
use Rattle.shortest.proofs.Sizes.{Without, without_one}

pub none_most : (t : List ℕ) (c : ℕ) (xs : List ℕ) → length xs ≤ 0 → total xs ≤ c → image_total t xs ≤ 0
unfolding total
none_most t c [] few fits = zero-le
none_most t c (x ∷ xs) few fits = absurd (omega arith)

module _ {t : List ℕ} where
  -- more sizes and more room reach as much
  pub reaching_on : {j k b c v : ℕ} → Reaching t j b v → j ≤ k → b ≤ c → Reaching t k c v
  reaching_on r few fits = record { sizes = r.sizes; few = omega (arith, r.few); fits = omega (arith, r.fits); reaches = r.reaches }

  pub reached_bounded : {k c v w : ℕ} → Reaching t k c v → Bounding t k c w → v ≤ w
  reached_bounded r b = omega (arith, r.reaches, b.bounds r.sizes r.few r.fits)

  pub greatest_grows : {j k b c v w : ℕ} → Greatest t j b v → Greatest t k c w → j ≤ k → b ≤ c → v ≤ w
  greatest_grows g h few fits = reached_bounded (reaching_on g.reached few fits) h.most

  -- one size more
  pub reaching_more : {k c v : ℕ} (y : ℕ) → Reaching t k c v → Reaching t (suc k) (y + c) (entry t y + v)
  unfolding total
  reaching_more y r =
      record { sizes = y ∷ r.sizes; few = omega (arith, r.few); fits = omega (arith, r.fits); reaches = omega (arith, r.reaches) }

  pub reaching_none : (k c : ℕ) → Reaching t k c 0
  unfolding total
  reaching_none k c = record { sizes = []; few = zero-le; fits = zero-le; reaches = refl }

  pub greatest_of_none : (c : ℕ) → Greatest t 0 c 0
  greatest_of_none c = record { reached = reaching_none 0 c; most = record { bounds = none_most t c } }

  module _ (form : TableForm t) where
    pub greatest_small : {k c v : ℕ} → Greatest t k c v → c < length t → v ≤ limit * most_entries
    greatest_small g l =
        let r = g.reached in
        omega (arith, r.reaches, r.fits, total_most t form r.sizes, form.most)

    -- what bounds k sizes, and any size with k others, bounds k + 1 sizes: a size 0 adds nothing, and one is at most the average
    pub bounding_more : (k c v : ℕ) (rest : ℕ → ℕ) → ((b : ℕ) → b ≤ c → Bounding t k b (rest b)) → rest c ≤ v → ((y : ℕ) → 1 ≤ y → suc k * y ≤ c → entry t y + rest (c - y) ≤ v) → Bounding t (suc k) c v
    bounding_more k c v rest bounded fewer with_size = record { bounds = most }
      where
        bound : (xs : List ℕ) (b : ℕ) → b ≤ c → length xs ≤ k → total xs ≤ b → image_total t xs ≤ rest b
        bound xs b l few fits = (bounded b l).bounds xs few fits

        by_size : (xs : List ℕ) → Without t xs → length xs ≡ suc k → total xs ≤ c → image_total t xs ≤ v
        by_size xs w full fits = ⊎_elim nothing some (eq-zero-or-pos w.size)
          where
            count : length w.others ≤ k
            count = omega (arith, w.fewer)

            nothing : w.size ≡ 0 → image_total t xs ≤ v
            nothing e = omega (arith, w.images, w.fits, ap (entry t) e, form.first, bound w.others c (omega arith) count (omega (arith, w.fits)), fewer)

            some : 0 < w.size → image_total t xs ≤ v
            some pos =
                let small : suc k * w.size ≤ c = omega (arith, w.small, ap (λ (n : ℕ). n * w.size) full) in
                omega (arith, w.images, with_size w.size pos small, bound w.others (c - w.size) (omega arith) count (omega (arith, w.fits)))

        most : (xs : List ℕ) → length xs ≤ suc k → total xs ≤ c → image_total t xs ≤ v
        most [] few fits = omega (arith, bound [] c (omega arith) zero-le fits, fewer)
        most (x ∷ xs) few fits = ⊎_elim (λ less. omega (arith, bound (x ∷ xs) c (omega arith) (omega arith) fits, fewer)) (λ full. by_size (x ∷ xs) (without_one t x xs) (omega arith) fits) (cases_lt (length (x ∷ xs)) (suc k))

  -- a row of greatest totals is small, and so are both of two
  pub row_small : {k : ℕ} {row : List ℕ} → TableForm t → length row ≤ length t → Row t k row → Small row
  row_small form l r i m = greatest_small form (r.holds i m) (omega arith)

module _ {t fewer row : List ℕ} {k : ℕ} (r : Rows t k fewer row) where
  pub fewer_small : Small fewer
  fewer_small = row_small r.room.form (omega (arith, r.room.in_table, r.room.same)) r.fewer_is

  pub last_small : Small row
  last_small = row_small r.room.form r.room.in_table r.row_is
