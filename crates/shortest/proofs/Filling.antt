-- Rows while they are filled: the invariants of the loops.
use Rattle.std.proofs.lemmas.Bool.{cases_lt}
use Rattle.std.proofs.lemmas.List.{get_or-set_same, get_or-set_other, get_or-replicate}
use Rattle.std.proofs.Math.Nat.{suc-mul, mul-le-mul_left, le-div_iff_mul-le, mul_comm}
use mathlib.Core.Path.{◌≡◌, refl, ap, ◌∙◌}
use mathlib.Core.List.{List}
use mathlib.Core.Logic.{◌⊎◌, inl, inr, ⊎_elim}
use Prim.Native.Nat.{ℕ, zero, suc, ◌+◌, ◌-◌, ◌*◌, ◌/◌, ◌≤◌, ◌<◌, max, zero-le}
use native.Mathlib.Nat.{eq-or-lt_of_le}
use native.Mathlib.Omega.{arith}
use lib.ListN.{length, get_or, set, replicate}
use Rattle.tables.specs.Table.{entry}
use Rattle.tables.specs.Check.{TableForm}
use Rattle.shortest.specs.Rows.{Reaching, Bounding, Greatest, Room, Row, Rows, Offered}
use Rattle.shortest.proofs.Greatest.{reaching_on, reaching_more, reaching_none, greatest_grows, greatest_of_none, bounding_more}

-- row 1 as far as place c, where top is the greatest entry before it
pub record FirstRow (t row : List ℕ) (c top : ℕ) : Type 0 where
  pub bounds : (y : ℕ) → y < c → entry t y ≤ top
  pub reached : Reaching t 1 (c - 1) top
  pub written : (j : ℕ) → j < c → Greatest t 1 j (get_or row j 0)

pub first_row_start : (t row : List ℕ) → FirstRow t row 0 0
first_row_start t row =
    record { bounds = λ y l. absurd (omega arith); reached = reaching_none 1 _; written = λ j l. absurd (omega arith) }

module _ {t row : List ℕ} {c top : ℕ} (form : TableForm t) (f : FirstRow t row c top) where
  pub first_row_next : (m : ℕ) → c < length row → m ≡ max top (entry t c) → FirstRow t (set row c m) (c + 1) m
  first_row_next m l is =
      record {
        bounds = bounded;
        reached = reaching_on (reached_here (cases_lt top (entry t c))) (omega arith) (omega arith);
        written = λ j k. ⊎_elim (at j) (before j) (eq-or-lt_of_le k);
      }
    where
      bounded : (y : ℕ) → y < c + 1 → entry t y ≤ m
      bounded y k = ⊎_elim (λ e. let same : y ≡ c = omega arith in omega (arith, ap (entry t) same)) (λ less. omega (arith, f.bounds y (omega arith))) (eq-or-lt_of_le k)

      reached_here : (top < entry t c) ⊎ (entry t c ≤ top) → Reaching t 1 c m
      reached_here (inl less) =
          let e : entry t c + 0 ≡ m = omega arith in
          rw (← e) (reaching_on (reaching_more c (reaching_none 0 0)) (omega arith) (omega arith))
      reached_here (inr more) =
          let e : top ≡ m = omega arith in
          rw (← e) (reaching_on f.reached (omega arith) (omega arith))

      greatest : Greatest t 1 c m
      greatest =
          record {
            reached = reached_here (cases_lt top (entry t c));
            most = bounding_more form 0 c m (λ b. 0) (λ b k. (greatest_of_none b).most) zero-le (λ y pos k. omega (arith, bounded y (omega (arith, suc-mul 0 y))));
          }

      at : (j : ℕ) → suc j ≡ c + 1 → Greatest t 1 j (get_or (set row c m) j 0)
      at j e =
          let here : j ≡ c = omega arith in
          rw (here, get_or-set_same row c m 0 l) greatest

      before : (j : ℕ) → suc j < c + 1 → Greatest t 1 j (get_or (set row c m) j 0)
      before j k = rw (get_or-set_other row c j m 0 (λ e. omega arith)) (f.written j (omega arith))

-- a size is offered from k times the size on, as far as place c
pub record OfferedTo (size image k c : ℕ) (fewer row row' : List ℕ) : Type 0 where
  pub below : (i : ℕ) → i < k * size → get_or row' i 0 ≡ get_or row i 0
  pub above : (i : ℕ) → k * size ≤ i → i < c → get_or row' i 0 ≡ max (get_or row i 0) (get_or fewer (i - size) 0 + image)
  pub behind : (i : ℕ) → c ≤ i → get_or row' i 0 ≡ get_or row i 0

module _ (size image k : ℕ) (fewer row : List ℕ) where
  pub offer_start : OfferedTo size image k (k * size) fewer row row
  offer_start = record { below = λ i l. refl; above = λ i l m. absurd (omega arith); behind = λ i l. refl }

  pub offer_next : (c m : ℕ) (row' : List ℕ) → OfferedTo size image k c fewer row row' → k * size ≤ c → c < length row' → m ≡ max (get_or row' c 0) (get_or fewer (c - size) 0 + image) → OfferedTo size image k (c + 1) fewer row (set row' c m)
  offer_next c m row' o from l is =
      record {
        below = λ i k. get_or-set_other row' c i m 0 (λ e. omega arith) ∙ o.below i k;
        above = λ i low k. ⊎_elim (at i) (λ less. get_or-set_other row' c i m 0 (λ e. omega arith) ∙ o.above i low (omega arith)) (eq-or-lt_of_le k);
        behind = λ i k. get_or-set_other row' c i m 0 (λ e. omega arith) ∙ o.behind i (omega arith);
      }
    where
      at : (i : ℕ) → suc i ≡ c + 1 → get_or (set row' c m) i 0 ≡ max (get_or row i 0) (get_or fewer (i - size) 0 + image)
      at i e =
          let here : i ≡ c = omega arith in
          rw here (get_or-set_same row' c m 0 l ∙ is ∙ ap (λ (n : ℕ). max n (get_or fewer (c - size) 0 + image)) (o.behind c (omega arith)))

  pub offer_end : (c : ℕ) (row' : List ℕ) → OfferedTo size image k c fewer row row' → length row ≤ c → Offered size image k fewer row row'
  offer_end c row' o all = record { below = o.below; above = λ i low l. o.above i low (omega arith) }

-- k times a size is no less
grown : (k y : ℕ) → 1 ≤ k → y ≤ k * y
grown zero y some = absurd (omega arith)
grown (suc k) y some = omega (arith, suc-mul k y)

-- row k while the sizes below `size` are offered, of which the greatest image is top
pub record Stepped (t : List ℕ) (k : ℕ) (fewer row : List ℕ) (size top : ℕ) : Type 0 where
  pub same : length fewer ≡ length row
  pub sound : (c : ℕ) → c < length row → Reaching t k c (get_or row c 0)
  pub kept : (c : ℕ) → c < length row → get_or fewer c 0 ≤ get_or row c 0
  pub top_offered : (y c : ℕ) → size ≤ suc y → k * y ≤ c → c < length row → top + get_or fewer (c - y) 0 ≤ get_or row c 0
  pub offered : (y c : ℕ) → 1 ≤ y → y < size → k * y ≤ c → c < length row → entry t y + get_or fewer (c - y) 0 ≤ get_or row c 0

module _ {t : List ℕ} {k : ℕ} {fewer : List ℕ} (some : 1 ≤ k) (before : Row t (k - 1) fewer) where
  rises : (b c : ℕ) → b ≤ c → c < length fewer → get_or fewer b 0 ≤ get_or fewer c 0
  rises b c l m = greatest_grows (before.holds b (omega arith)) (before.holds c m) (omega arith) l

  pub stepped_start : Stepped t k fewer fewer 1 0
  stepped_start =
      record {
        same = refl;
        sound = λ c l. reaching_on (before.holds c l).reached (omega arith) (omega arith);
        kept = λ c l. omega arith;
        top_offered = λ y c from low l. omega (arith, rises (c - y) c (omega arith) l);
        offered = λ y c pos less low l. absurd (omega arith);
      }

  module _ {row : List ℕ} {size top : ℕ} (s : Stepped t k fewer row size top) where
    -- a size whose image is not above those before is of no use
    pub stepped_over : entry t size ≤ top → Stepped t k fewer row (size + 1) top
    stepped_over small =
        record {
          same = s.same;
          sound = s.sound;
          kept = s.kept;
          top_offered = λ y c from. s.top_offered y c (omega arith);
          offered = λ y c pos less low l. ⊎_elim (at y c low l) (λ k. s.offered y c pos (omega arith) low l) (eq-or-lt_of_le less);
        }
      where
        at : (y c : ℕ) → k * y ≤ c → c < length row → suc y ≡ size + 1 → entry t y + get_or fewer (c - y) 0 ≤ get_or row c 0
        at y c low l e =
            let here : size ≡ y = omega arith in
            let offered = s.top_offered y c (omega arith) low l in
            omega (arith, ap (entry t) here, offered)

    pub stepped_next : (row' : List ℕ) → length row' ≡ length row → 1 ≤ size → Offered size (entry t size) k fewer row row' → Stepped t k fewer row' (size + 1) (entry t size)
    stepped_next row' count pos o =
        record {
          same = omega (arith, s.same);
          sound = λ c l. sound c (omega arith) (cases_lt c (k * size));
          kept = λ c l. omega (arith, s.kept c (omega arith), more c (omega arith));
          top_offered = λ y c from low l. reached y c (omega arith) low (omega arith);
          offered = λ y c one less low l. ⊎_elim (at y c low (omega arith)) (λ m. omega (arith, s.offered y c one (omega arith) low (omega arith), more c (omega arith))) (eq-or-lt_of_le less);
        }
      where
        more : (c : ℕ) → c < length row → get_or row c 0 ≤ get_or row' c 0
        more c l = ⊎_elim (λ m. omega (arith, o.below c m)) (λ m. omega (arith, o.above c m l)) (cases_lt c (k * size))

        added : (c : ℕ) → k * size ≤ c → c < length row → Reaching t k c (entry t size + get_or fewer (c - size) 0)
        added c low l = reaching_on (reaching_more size (before.holds (c - size) (omega (arith, s.same))).reached) (omega arith) (omega (arith, grown k size some))

        by_max : (a b m c : ℕ) → m ≡ max a b → Reaching t k c a → Reaching t k c b → Reaching t k c m
        by_max a b m c is ra rb = ⊎_elim (λ less. let e : b ≡ m = omega arith in rw (← e) rb) (λ no. let e : a ≡ m = omega arith in rw (← e) ra) (cases_lt a b)

        sound : (c : ℕ) → c < length row → (c < k * size) ⊎ (k * size ≤ c) → Reaching t k c (get_or row' c 0)
        sound c l (inl under) = rw (o.below c under) (s.sound c l)
        sound c l (inr low) = by_max (get_or row c 0) (entry t size + get_or fewer (c - size) 0) _ c (omega (arith, o.above c low l)) (s.sound c l) (added c low l)

        reached : (y c : ℕ) → size ≤ y → k * y ≤ c → c < length row → entry t size + get_or fewer (c - y) 0 ≤ get_or row' c 0
        reached y c from low l =
            let under : k * size ≤ c = omega (arith, mul-le-mul_left k from) in
            omega (arith, o.above c under l, rises (c - y) (c - size) (omega arith) (omega (arith, s.same)))

        at : (y c : ℕ) → k * y ≤ c → c < length row → suc y ≡ size + 1 → entry t y + get_or fewer (c - y) 0 ≤ get_or row' c 0
        at y c low l e =
            let here : size ≡ y = omega arith in
            let offered = reached y c (omega arith) low l in
            omega (arith, ap (entry t) here, offered)

    -- every size that can be the least of k is offered
    pub stepped_end : TableForm t → (length row - 1) / k + 1 ≤ size → Row t k row
    stepped_end form all = record { holds = λ c l. record { reached = s.sound c l; most = most c l } }
      where
        one_more : suc (k - 1) ≡ k
        one_more = omega arith

        seen : (y c : ℕ) → k * y ≤ c → c < length row → y < size
        seen y c low l =
            let within : y ≤ (length row - 1) / k = (le-div_iff_mul-le some).1 (omega (arith, mul_comm y k)) in
            omega arith

        most : (c : ℕ) → c < length row → Bounding t k c (get_or row c 0)
        most c l =
            rw one_more at
            (bounding_more form (k - 1) c (get_or row c 0) (λ b. get_or fewer b 0) (λ b m. (before.holds b (omega (arith, s.same))).most) (s.kept c l)
            (λ y pos low. let under : k * y ≤ c = omega (arith, ap (λ (n : ℕ). n * y) one_more) in s.offered y c pos (seen y c under l) under l))

pub first_rows_end : {t old fewer row row' : List ℕ} {c top : ℕ} → Room t old row → FirstRow t row' c top → fewer ≡ replicate (length old) 0 → length row' ≡ length row → length row ≤ c → length fewer ≡ length old → Rows t 1 fewer row'
first_rows_end {t} {old} {fewer} r f is same all count =
    record {
      room = record { form = r.form; some = omega (arith, r.some); in_table = omega (arith, r.in_table); same = omega (arith, r.same) };
      fewer_is = record { holds = λ c l. rw (is, get_or-replicate {A = ℕ} (length old) c 0 0 (omega arith)) (greatest_of_none c) };
      row_is = record { holds = λ c l. f.written c (omega arith) };
    }

pub copied : {t row fewer : List ℕ} {j : ℕ} → Row t j row → fewer ≡ row → Row t j fewer
copied before is = rw is before

pub stepped_rows : {t old fewer row row' : List ℕ} {k size top : ℕ} → Room t old row → 1 ≤ k → Row t (k - 1) fewer → Stepped t k fewer row' size top → length row' ≡ length row → length fewer ≡ length old → (length row - 1) / k + 1 ≤ size → Rows t k fewer row'
stepped_rows r some before s same count all =
    record {
      room = record { form = r.form; some = omega (arith, r.some); in_table = omega (arith, r.in_table); same = omega (arith, r.same) };
      fewer_is = before;
      row_is = stepped_end some before s r.form (rw same all);
    }
