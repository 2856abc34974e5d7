-- The list buffer while the counterexample is written: the invariant of the loop.
use mathlib.Core.Path.{◌≡◌, refl, ap, sym, ◌∙◌}
use mathlib.Core.List.{List, [], ◌∷◌}
use mathlib.Core.Logic.{◌⊎◌, inl, inr}
use Prim.Native.Nat.{ℕ, zero, suc, ◌+◌, ◌-◌, ◌≤◌, ◌<◌}
use native.Mathlib.Nat.{le_refl, eq-zero-or-pos, add-zero}
use native.Mathlib.Omega.{arith}
use lib.ListN.{length, get_or, drop, set}
use lib.Seq.{get_or-drop, drop-drop}
use Rattle.functions.proofs.Pasted.{pasted, pasted_length}
use Rattle.tables.specs.Table.{best, least_size, walk, counterexample, table_capacity}
use Rattle.tables.specs.Check.{at_front, most_entries}
use Rattle.tables.specs.Working.{AreBests}
use Rattle.tables.proofs.Entries.{capacity_is}
use Rattle.tables.proofs.Best.{best_zero}
use Rattle.tables.proofs.Buffers.{pasted_write, pasted_whole}
use Rattle.tables.proofs.Walk.{least_fits, best_positive, walk_ends, walk_goes, walked}

module _ (t : List ℕ) where
  walk_none : (k c : ℕ) → c ≤ 0 → walk t k c ≡ []
  unfolding walk
  walk_none zero c l = refl
  walk_none (suc k) c l =
      let none : c ≡ 0 = omega arith in
      walk_ends t k c (ap (best t) none ∙ best_zero t)

  -- as many sizes as c are enough
  walk_same : (k j c : ℕ) → c ≤ k → c ≤ j → walk t k c ≡ walk t j c
  walk_same zero zero c l m = refl
  walk_same zero (suc j) c l m = walk_none zero c l ∙ sym (walk_none (suc j) c l)
  walk_same (suc k) zero c l m = walk_none (suc k) c m ∙ sym (walk_none zero c m)
  walk_same (suc k) (suc j) c l m = go (eq-zero-or-pos (best t c)) (walk_same k j)
    where
      go : (best t c ≡ 0) ⊎ (0 < best t c) → ((d : ℕ) → d ≤ k → d ≤ j → walk t k d ≡ walk t j d) → walk t (suc k) c ≡ walk t (suc j) c
      go (inl e) rest = walk_ends t k c e ∙ sym (walk_ends t j c e)
      go (inr pos) rest =
          let y = least_fits t c pos in
          walk_goes t k c pos
          ∙ ap (λ (xs : List ℕ). least_size t c ∷ xs) (rest (c - least_size t c) (omega (arith, y)) (omega (arith, y)))
          ∙ sym (walk_goes t j c pos)

  -- a walk that goes on, with as many sizes as it has capacity
  walk_step : (c : ℕ) → 0 < best t c → walk t c c ≡ least_size t c ∷ walk t (c - least_size t c) (c - least_size t c)
  walk_step zero pos = absurd (omega (arith, best_zero t))
  walk_step (suc k) pos =
      let rest = suc k - least_size t (suc k) in
      walk_goes t k (suc k) pos
      ∙ ap (λ (xs : List ℕ). least_size t (suc k) ∷ xs) (walk_same k rest rest (omega (arith, least_fits t (suc k) pos)) (le_refl _))

  walk_stop : (c : ℕ) → best t c ≡ 0 → walk t c c ≡ []
  walk_stop zero e = walk_none zero zero (le_refl 0)
  walk_stop (suc k) e = walk_ends t k (suc k) e

-- n sizes of the counterexample are written, for which the list has room, and those of a walk from c are left
pub record Written (t old list : List ℕ) (c n : ℕ) : Type 0 where
  pub room : table_capacity t ≤ length old
  pub within : c ≤ table_capacity t
  pub left : drop n (counterexample t) ≡ walk t c c
  pub count : n + length (walk t c c) ≡ length (counterexample t)
  pub list_is : list ≡ pasted (counterexample t) old n

counterexample_short : (t : List ℕ) → length (counterexample t) ≤ table_capacity t
unfolding counterexample
counterexample_short t = (walked t (table_capacity t) (table_capacity t) (le_refl _)).short

pub written_start : (t old : List ℕ) → table_capacity t ≤ length old → Written t old old (table_capacity t) 0
unfolding counterexample
written_start t old room = record { room = room; within = le_refl _; left = refl; count = omega arith; list_is = refl }

module _ (t old list : List ℕ) (c n : ℕ) (w : Written t old list c n) where
  pub written_length : length list ≡ length old
  written_length =
      ap length w.list_is
      ∙ pasted_length (counterexample t) old n (omega (arith, w.count)) (omega (arith, w.room, w.count, counterexample_short t))

  module _ (pos : 0 < best t c) where
    goes_on : n < length (counterexample t)
    goes_on = omega (arith, w.count, ap length (walk_step t c pos))

    pub written_room : n < length old
    written_room = omega (arith, goes_on, counterexample_short t, w.room)

    begins : drop n (counterexample t) ≡ least_size t c ∷ walk t (c - least_size t c) (c - least_size t c)
    begins = w.left ∙ walk_step t c pos

    here : get_or (counterexample t) n 0 ≡ least_size t c
    here =
        ap (λ (k : ℕ). get_or (counterexample t) k 0) (sym (add-zero n))
        ∙ sym (get_or-drop n (counterexample t) 0 0)
        ∙ ap (λ (xs : List ℕ). get_or xs 0 0) begins

    pub written_next : (y : ℕ) → y ≡ least_size t c → Written t old (set list n y) (c - y) (n + 1)
    written_next y e =
        rw e
        (record {
          room = w.room;
          within = omega (arith, w.within);
          left = sym (drop-drop 1 n (counterexample t)) ∙ ap (drop 1) begins;
          count = omega (arith, w.count, ap length (walk_step t c pos));
          list_is = pasted_write (counterexample t) old n list (least_size t c) w.list_is (sym here) goes_on written_room;
        })

  pub written_end : best t c ≡ 0 → (n ≡ length (counterexample t)) × (list ≡ at_front (counterexample t) old)
  written_end none =
      let all : n ≡ length (counterexample t) = omega (arith, w.count, ap length (walk_stop t c none)) in
      (all, w.list_is ∙ pasted_whole (counterexample t) old n all)

-- the place that a turn reads
module _ {t totals old list : List ℕ} {c n : ℕ} (known : AreBests t totals) (all : length totals ≡ length t) (w : Written t old list c n) where
  pub in_totals : c < length totals
  in_totals = omega (arith, all, w.within, capacity_is t, known.form.least)

  pub total_is : get_or totals c 0 ≡ best t c
  total_is = known.holds c in_totals

-- a turn of the loop, where the place that it reads is not 0
pub record Turn (t list : List ℕ) (c n : ℕ) : Type 0 where
  pub some : 0 < best t c
  pub positive : 1 ≤ c
  pub size : (1 ≤ least_size t c) × (least_size t c ≤ c)
  pub small : c < most_entries
  pub room : n < length list

pub turn : {t totals old list : List ℕ} {c n : ℕ} → AreBests t totals → length totals ≡ length t → Written t old list c n → 0 < get_or totals c 0 → Turn t list c n
turn {t} {totals} {old} {list} {c} {n} known all w more =
    let some : 0 < best t c = omega (arith, total_is known all w) in
    record {
      some = some;
      positive = best_positive t c some;
      size = least_fits t c some;
      small = omega (arith, in_totals known all w, known.form.most);
      room = omega (arith, written_room t old list c n w some, written_length t old list c n w);
    }
