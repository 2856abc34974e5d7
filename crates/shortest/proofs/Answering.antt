-- The whole operation, for each way that it ends.
use Rattle.std.proofs.lemmas.List.{take-append-drop}
use mathlib.Core.Path.{◌≡◌, refl, ap, sym, ◌∙◌}
use mathlib.Core.List.{List, [], ◌∷◌, ◌++◌}
use mathlib.Core.Logic.{⊎_elim}
use Prim.Native.Nat.{ℕ, suc, ◌-◌, ◌/◌, ◌≤◌, ◌<◌, min}
use native.Mathlib.Nat.{eq-zero-or-pos}
use native.Mathlib.Decide.{ℕ_discrete}
use native.Mathlib.Omega.{arith}
use borrow.Author.Tests.{ne_eqb, le-ltb, lt-ltb}
use lib.ListN.{length, get_or, take, drop, length-append, length-drop}
use lib.Seq.{drop-cons, length-take-le}
use Rattle.functions.specs.Words.{total}
use Rattle.functions.proofs.Superadditive.{total_append}
use Rattle.tables.specs.Table.{entry, table_capacity, table_scale, best}
use Rattle.tables.specs.Check.{TableForm, shape_refusal, table_refusal, at_front}
use Rattle.tables.proofs.Entries.{capacity_is, passed, shape_below}
use Rattle.tables.proofs.Best.{best_bounds}
use Rattle.tables.proofs.Outcome.{by_shape}
use Rattle.tables.specs.Promise.{Overshoots}
use Rattle.tables.proofs.Promise.{table_promise}
use Rattle.shortest.specs.Rows.{image_total, Reaching}
use Rattle.shortest.specs.Halves.{PartsWritten, Fewest}
use Rattle.shortest.specs.Shortest.{Shortest, number_by, shortest_refusal, refused_shortest, FeasibleExactly, ShortestAnswered}
use Rattle.shortest.proofs.Sizes.{image_total_append}

-- a number of the table check that is not 0 and not 11 is told as it is
by_other : (n : ℕ) → (n ≡ 0 → ⊥) → (n ≡ 11 → ⊥) → number_by n ≡ n
by_other n some other = rw (ne_eqb n 0 some, ne_eqb n 11 other)

-- only an acceptance of the table check is told as 25
by_25 : (n : ℕ) → n ≤ 11 → number_by n ≡ 25 → n ≡ 0
by_25 n small e = go (ℕ_discrete n 0) (ℕ_discrete n 11)
  where
    go : Dec (n ≡ 0) → Dec (n ≡ 11) → n ≡ 0
    go (yes none) second = none
    go (no some) (yes eleven) = absurd (omega (arith, rw eleven at e))
    go (no some) (no other) = absurd (omega (arith, by_other n some other, e))

module _ (t : List ℕ) where
  -- a size 0 in a list that overshoots is one too many
  pub shortest_positive : TableForm t → (xs : List ℕ) → Shortest t xs → (i : ℕ) → i < length xs → 1 ≤ get_or xs i 0
  unfolding total
  shortest_positive form xs s i l = ⊎_elim none (λ some. some) (eq-zero-or-pos (get_or xs i 0))
    where
      front : List ℕ
      front = take i xs

      rest : List ℕ
      rest = drop (suc i) xs

      whole : front ++ (get_or xs i 0 ∷ rest) ≡ xs
      whole = ap (λ (ys : List ℕ). front ++ ys) (sym (drop-cons xs i 0 l)) ∙ take-append-drop i xs

      none : get_or xs i 0 ≡ 0 → 1 ≤ get_or xs i 0
      none e =
          let fits : total (front ++ rest) ≤ table_capacity t = omega (arith, total_append front rest, total_append front (get_or xs i 0 ∷ rest), ap total whole, s.overshoots.fits) in
          let images : image_total t (front ++ rest) ≡ image_total t xs = omega (arith, image_total_append t front rest, image_total_append t front (get_or xs i 0 ∷ rest), ap (image_total t) whole, ap (entry t) e, form.first) in
          let fewer = s.fewest (front ++ rest) (record { fits = fits; images_over = omega (arith, images, s.overshoots.images_over) }) in
          absurd (omega (arith, fewer, length-append front rest, length-take-le i xs (omega arith), length-drop (suc i) xs))

  -- sizes of at least 1 are no more than their total
  count_most : (xs : List ℕ) → ((i : ℕ) → i < length xs → 1 ≤ get_or xs i 0) → length xs ≤ total xs
  unfolding total
  count_most [] positive = omega arith
  count_most (x ∷ xs) positive = omega (arith, positive 0 (omega arith), count_most xs (λ i l. positive (suc i) (omega arith)))

  -- so the fewest sizes that overshoot are no more than the capacity
  pub fewest_few : TableForm t → (n s : ℕ) → Fewest t n s → n ≤ table_capacity t
  fewest_few form n s f =
      omega (arith, f.least xs over, count_most xs (shortest_positive form xs (record { overshoots = over; fewest = λ ys o. omega (arith, few, f.least ys o) })), over.fits)
    where
      half : Reaching t (n / 2) s f.half
      half = f.parts.half_is.reached

      others : Reaching t (n - n / 2) (table_capacity t - s) f.others
      others = f.parts.others_is.reached

      xs : List ℕ
      xs = half.sizes ++ others.sizes

      few : length xs ≤ n
      few = omega (arith, length-append half.sizes others.sizes, half.few, others.few)

      over : Overshoots t xs
      over =
          record {
            fits = omega (arith, total_append half.sizes others.sizes, half.fits, others.fits, f.within);
            images_over = omega (arith, image_total_append t half.sizes others.sizes, half.reaches, others.reaches, f.over);
          }

  module _ (w s l : List ℕ) where
    module _ (n : ℕ) (tables : table_refusal t (min (length w) (length s)) (length l) ≡ n) where
      told_by : shortest_refusal t (length w) (length s) (length l) ≡ number_by n
      unfolding shortest_refusal
      told_by = ap number_by tables

      exactly : n ≤ 11 → FeasibleExactly t (length w) (length s) (length l) (number_by n)
      exactly small room second list =
          let check = (table_promise t (min (length w) (length s)) (length l)).accepted_exactly (omega arith) list in
          (λ e. check.0 (tables ∙ by_25 n small e), λ f. ap number_by (sym tables ∙ check.1 f))

    -- refused by 6 to 10: nothing is written
    pub form_refused : (n : ℕ) → n ≡ shape_refusal t (min (length w) (length s)) (length l) → 1 ≤ n → ShortestAnswered t w s l (refused_shortest n) w s l
    form_refused n is some =
        let below = shape_below t (min (length w) (length s)) (length l) in
        let tables : table_refusal t (min (length w) (length s)) (length l) ≡ n = by_shape t (min (length w) (length s)) (length l) ∙ rw (← is, ne_eqb n 0 (omega arith)) in
        let same : number_by n ≡ n = by_other n (omega arith) (omega (arith, is, below)) in
        let told : shortest_refusal t (length w) (length s) (length l) ≡ n = told_by n tables ∙ same in
        record {
          accepted = λ e. absurd (omega (arith, told));
          refused = λ other. rw told (record { answer_is = refl; list_stays = refl; working_stays = λ no. refl; second_stays = λ no. refl });
          exactly = rw same at (exactly n tables (omega (arith, is, below)));
          working_long = refl;
          second_long = refl;
        }

    module _ (shape : shape_refusal t (min (length w) (length s)) (length l) ≡ 0) (w' s' : List ℕ) (first_long : length w' ≡ length w) (second_long : length s' ≡ length s) where
      -- the table is dual-feasible
      pub none_overshoots : best t (table_capacity t) ≤ table_scale t → ShortestAnswered t w s l (refused_shortest 25) w' s' l
      none_overshoots fits =
          let tables : table_refusal t (min (length w) (length s)) (length l) ≡ 0 = by_shape t (min (length w) (length s)) (length l) ∙ rw (shape, le-ltb (table_scale t) (best t (table_capacity t)) fits) in
          record {
            accepted = λ e. absurd (omega (arith, told_by 0 tables));
            refused = λ other. rw (told_by 0 tables) (record { answer_is = refl; list_stays = refl; working_stays = λ no. absurd (no refl); second_stays = λ no. absurd (no refl) });
            exactly = exactly 0 tables (omega arith);
            working_long = first_long;
            second_long = second_long;
          }

      -- a list of the fewest sizes is written
      pub some_overshoot : (n first : ℕ) (xs : List ℕ) → Fewest t n first → length xs ≡ n → PartsWritten t n (table_capacity t) first xs → ShortestAnswered t w s l (record { number = 0; length = n }) w' s' (xs ++ drop n l)
      unfolding at_front
      some_overshoot n first xs f count g =
          let tables : table_refusal t (min (length w) (length s)) (length l) ≡ 11 = by_shape t (min (length w) (length s)) (length l) ∙ rw (shape, lt-ltb (table_scale t) (best t (table_capacity t)) more) in
          record {
            accepted =
                λ e.
                record {
                  sizes = xs;
                  shortest = shortest;
                  positive = shortest_positive form xs shortest;
                  answer_is = rw count refl;
                  list_is = rw count refl;
                };
            refused = λ other. absurd (other (told_by 11 tables));
            exactly = exactly 11 tables (omega arith);
            working_long = first_long;
            second_long = second_long;
          }
        where
          form : TableForm t
          form = (passed t (min (length w) (length s)) (length l) shape).form

          shortest : Shortest t xs
          shortest =
              record {
                overshoots = record { fits = g.fits; images_over = omega (arith, f.over, g.reaches f.half f.others f.parts) };
                fewest = λ ys o. omega (arith, count, f.least ys o);
              }

          more : table_scale t < best t (table_capacity t)
          more = omega (arith, shortest.overshoots.images_over, best_bounds t form xs (table_capacity t) shortest.overshoots.fits (omega (arith, capacity_is t, form.least)))
