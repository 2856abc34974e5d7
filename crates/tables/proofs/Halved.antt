-- best c from the bests of two parts of c, of which one is at most half: the invariant of the loop over y.
use mathlib.Core.Path.{◌≡◌, ap}
use mathlib.Core.List.{List}
use mathlib.Core.Logic.{⊎_elim}
use Prim.Native.Nat.{ℕ, suc, ◌+◌, ◌-◌, ◌*◌, ◌≤◌, ◌<◌, max}
use native.Mathlib.Nat.{le_refl, eq-or-lt_of_le}
use native.Mathlib.Omega.{arith}
use lib.ListN.{length}
use Rattle.tables.specs.Table.{entry, best}
use Rattle.tables.specs.Check.{TableForm}
use Rattle.tables.proofs.Best.{entry_most, best_sums, best_halved}

-- c is a size of the table; `most` is at most best c, and at least the entry of c and each pair of bests below y
pub record Halved (t : List ℕ) (c most y : ℕ) : Type 0 where
  pub form : TableForm t
  pub listed : c < length t
  pub positive : 1 ≤ y
  pub up_to : y ≤ c
  pub within : most ≤ best t c
  pub whole : entry t c ≤ most
  pub pairs : (j : ℕ) → 1 ≤ j → j < y → best t j + best t (c - j) ≤ most

pub halved_start : (t : List ℕ) (c : ℕ) → TableForm t → 1 ≤ c → c < length t → Halved t c (entry t c) 1
halved_start t c form some l =
    record {
      form = form;
      listed = l;
      positive = le_refl 1;
      up_to = some;
      within = entry_most t c some l;
      whole = le_refl (entry t c);
      pairs = λ j k m. absurd (omega arith);
    }

module _ {t : List ℕ} {c most y : ℕ} (h : Halved t c most y) where
  pub halved_next : (m : ℕ) → 2 * y ≤ c → m ≡ max most (best t y + best t (c - y)) → Halved t c m (y + 1)
  halved_next m low is =
      record {
        form = h.form;
        listed = h.listed;
        positive = omega arith;
        up_to = omega (arith, h.positive);
        within = omega (arith, h.within, best_sums t h.form y (c - y) (omega (arith, h.listed)), ap (best t) parts);
        whole = omega (arith, h.whole);
        pairs = λ j k l. ⊎_elim (last j) (λ less. omega (arith, h.pairs j k (omega arith))) (eq-or-lt_of_le l);
      }
    where
      parts : y + (c - y) ≡ c
      parts = omega arith

      last : (j : ℕ) → suc j ≡ y + 1 → best t j + best t (c - j) ≤ m
      last j e =
          let here : j ≡ y = omega arith in
          omega (arith, ap (best t) here, ap (λ (n : ℕ). best t (c - n)) here)

  pub halved_end : c < 2 * y → most ≡ best t c
  halved_end over =
      omega (arith, h.within, best_halved t h.form c most h.listed (omega (arith, h.positive, h.up_to)) h.whole (λ j k l. h.pairs j k (omega arith)))

-- two sizes in a turn
pub halved_twice : {t : List ℕ} {c most y : ℕ} → Halved t c most y → (m : ℕ) → y + 2 ≤ c - y → m ≡ max most (max (best t y + best t (c - y)) (best t (y + 1) + best t (c - (y + 1)))) → Halved t c m (y + 2)
halved_twice {t} {c} {most} {y} h m low is =
    let once = max most (best t y + best t (c - y)) in
    let first : Halved t c once (y + 1) = halved_next h once (omega arith) (omega arith) in
    let two : y + 1 + 1 ≡ y + 2 = omega arith in
    rw two at (halved_next first m (omega arith) (omega arith))
