-- The fewest sizes that overshoot: what the tries of one or two more sizes leave, and why the search ends.
use Rattle.std.proofs.lemmas.Bool.{cases_lt}
use mathlib.Core.Path.{◌≡◌}
use mathlib.Core.List.{List}
use mathlib.Core.Logic.{◌⊎◌, inl, inr}
use Prim.Native.Nat.{ℕ, ◌+◌, ◌-◌, ◌*◌, ◌/◌, ◌≤◌, ◌<◌}
use native.Mathlib.Nat.{le_refl}
use native.Mathlib.Omega.{arith}
use lib.ListN.{length, get_or}
use Rattle.tables.specs.Table.{table_capacity, table_scale, best, counterexample}
use Rattle.tables.proofs.Walk.{walked}
use Rattle.tables.proofs.Promise.{overshoots}
use Rattle.shortest.specs.Rows.{Bounding, Room, Row, Rows}
use Rattle.shortest.specs.Halves.{PairsWithin, PairOver, AtLeast, Fewest}
use Rattle.shortest.proofs.Greatest.{none_most}
use Rattle.shortest.proofs.Splitting.{pairs_bound, parts_at}

module _ (t : List ℕ) where
  -- where n sizes reach no more than the scale, more sizes are needed
  not_enough : (n : ℕ) → Bounding t n (table_capacity t) (table_scale t) → AtLeast t (n + 1)
  not_enough n b xs o = by (cases_lt n (length xs))
    where
      by : (n < length xs) ⊎ (length xs ≤ n) → n + 1 ≤ length xs
      by (inl more) = omega arith
      by (inr few) = absurd (omega (arith, b.bounds xs few o.fits, o.images_over))

  -- without a size nothing overshoots
  pub at_least_one : AtLeast t 1
  at_least_one = not_enough 0 (record { bounds = λ xs few fits. omega (arith, none_most t (table_capacity t) xs few fits) })

  -- as many sizes as the capacity are enough: the list of the table check has no more
  pub few_sizes : (n : ℕ) → table_scale t < best t (table_capacity t) → AtLeast t n → n ≤ table_capacity t
  unfolding counterexample
  few_sizes n over least =
      omega (arith, least (counterexample t) (overshoots t over), (walked t (table_capacity t) (table_capacity t) (le_refl _)).short)

-- two rows for n sizes, j for the first half and k for the others: n sizes overshoot, or they do not
module _ {t : List ℕ} {j k : ℕ} {first rest : List ℕ} (first_is : Row t j first) (rest_is : Row t k rest) (same : length first ≡ length rest) (some : 1 ≤ length first) (last : table_capacity t ≡ length first - 1) where
  pub found : (n s : ℕ) → n / 2 ≡ j → n - n / 2 ≡ k → AtLeast t n → PairOver first rest (table_scale t) s → Fewest t n s
  found n s half others least p =
      let within : s ≤ table_capacity t = omega (arith, last, p.in_half) in
      record {
        within = within;
        half = get_or first s 0;
        others = get_or rest (table_capacity t - s) 0;
        parts = parts_at first_is rest_is same some n (table_capacity t) s last within half others;
        over = rw last p.over;
        least = least;
      }

  pub missed : (n : ℕ) → j ≤ k → j + k + 1 ≡ n → PairsWithin first rest (table_scale t) → AtLeast t n
  missed n fewer one_more p =
      rw one_more at (not_enough t (j + k) (pairs_bound first_is rest_is same some (table_capacity t) (table_scale t) last fewer p))

-- row k, when up to 2 k sizes were tried, and a list overshoots
pub record Seeking (t fewer row : List ℕ) (k : ℕ) : Type 0 where
  pub room : Room t fewer row
  pub whole : length row ≡ length t
  pub row_is : Row t k row
  pub positive : 1 ≤ k
  pub over : table_scale t < best t (table_capacity t)
  pub least : AtLeast t (2 * k + 1)

pub seeking_start : {t fewer row fewer' : List ℕ} → Rows t 1 fewer row → length row ≡ length t → length fewer' ≡ length row → table_scale t < best t (table_capacity t) → AtLeast t 3 → Seeking t fewer' row 1
seeking_start rows whole same over least =
    record {
      room = record { form = rows.room.form; some = rows.room.some; in_table = rows.room.in_table; same = same };
      whole = whole;
      row_is = rows.row_is;
      positive = le_refl 1;
      over = over;
      least = least;
    }

pub seeking_few : {t fewer row : List ℕ} {k : ℕ} → Seeking t fewer row k → 2 * k + 1 ≤ table_capacity t
seeking_few {t} {fewer} {row} {k} s = few_sizes t (2 * k + 1) s.over s.least
