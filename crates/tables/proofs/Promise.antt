-- P2: a table is accepted exactly when it has document 01's form and is dual_feasible, and a counterexample overshoots.
use Rattle.std.proofs.lemmas.Bool.{cases_lt}
use mathlib.Core.Path.{◌≡◌, refl}
use mathlib.Core.Bool.{cond}
use mathlib.Core.List.{List, [], ◌∷◌}
use mathlib.Core.Logic.{◌⊎◌, inl, inr}
use Prim.Native.Nat.{ℕ, ◌≤◌, ◌<◌}
use native.Mathlib.Nat.{le_refl, le_trans}
use native.Mathlib.Omega.{arith}
use borrow.Author.Tests.{ltb-false, le-ltb, lt-ltb}
use lib.Dec.{ltb}
use lib.ListN.{length}
use Rattle.functions.specs.Words.{total, DualFeasible}
use Rattle.functions.specs.Promise.{StepPromise}
use Rattle.functions.proofs.Cases.{not_refused, then_zero, then_decided}
use Rattle.tables.specs.Table.{entry, table_capacity, table_scale, best, counterexample}
use Rattle.tables.specs.Check.{form_refusal, TableForm, entries_refusal, length_refusal, table_refusal}
use Rattle.tables.specs.Promise.{Feasible, TablePromise, Overshoots}
use Rattle.tables.proofs.Entries.{capacity_is, form_of, form_fine, form_below, Lengths, lengths, lengths_fine, length_below}
use Rattle.tables.proofs.Best.{best_reached, best_bounds}
use Rattle.tables.proofs.Walk.{walked}

module _ (t : List ℕ) where
  -- refusal 11, where the form is right
  fits_scale : form_refusal t ≡ 0 → entries_refusal t ≡ 0 → best t (table_capacity t) ≤ table_scale t
  unfolding entries_refusal
  fits_scale f e = ltb-false (table_scale t) (best t (table_capacity t)) (not_refused _ 11 0 (omega arith) (rw f at e)).0

  pub accepted : form_refusal t ≡ 0 → best t (table_capacity t) ≤ table_scale t → entries_refusal t ≡ 0
  unfolding entries_refusal
  accepted f l = rw (f, le-ltb (table_scale t) (best t (table_capacity t)) l)

  pub refuted : form_refusal t ≡ 0 → table_scale t < best t (table_capacity t) → entries_refusal t ≡ 11
  unfolding entries_refusal
  refuted f l = rw (f, lt-ltb (table_scale t) (best t (table_capacity t)) l)

  pub overshoots : table_scale t < best t (table_capacity t) → Overshoots t (counterexample t)
  unfolding counterexample
  overshoots l =
      let w = walked t (table_capacity t) (table_capacity t) (le_refl _) in
      record { fits = w.fits; images_over = omega (arith, w.reaches) }

  module _ (h : TableForm t) where
    in_table : table_capacity t < length t
    in_table = omega (arith, h.least, capacity_is t)

    feasible : entries_refusal t ≡ 0 → DualFeasible (entry t) (table_capacity t) (table_scale t)
    unfolding DualFeasible
    feasible e xs l =
        le_trans (best_bounds t h xs (table_capacity t) l in_table) (fits_scale (form_fine t h) e)

    complete : DualFeasible (entry t) (table_capacity t) (table_scale t) → entries_refusal t ≡ 0
    unfolding DualFeasible
    complete d =
        let r = best_reached t (table_capacity t) in
        accepted (form_fine t h) (omega (arith, r.reaches, d r.sizes r.fits))

    step : DualFeasible (entry t) (table_capacity t) (table_scale t) → StepPromise (entry t) (table_capacity t) (table_scale t)
    unfolding table_scale DualFeasible total
    step d =
        record {
          dual_feasible = d;
          scale_is_image = refl;
          scale_positive = h.last;
          scale_within_limit = h.small (table_capacity t);
          image_within_scale = λ x l. omega (arith, d (x ∷ []) (omega arith));
        }

  module _ (working list : ℕ) where
    sound : table_refusal t working list ≡ 0 → Feasible t
    unfolding table_refusal entries_refusal
    sound e =
        let right = then_zero (length_refusal (length t) working list) (entries_refusal t) e in
        let room = lengths (length t) working list right.0 in
        let form = then_zero (form_refusal t) (cond (ltb (table_scale t) (best t (table_capacity t))) 11 0) right.1 in
        let h = form_of t room.least room.most form.0 in
        record { form = h; dual_feasible = feasible h right.1 }

    all_pass : length t ≤ working → table_capacity t ≤ list → Feasible t → table_refusal t working list ≡ 0
    unfolding table_refusal
    all_pass w l f =
        let room : Lengths (length t) working list = record { least = f.form.least; most = f.form.most; working_room = w; list_room = omega (arith, l, capacity_is t) } in
        rw (lengths_fine (length t) working list room) (complete f.form f.dual_feasible)

    pub table_promise : TablePromise t working list
    table_promise =
        record {
          accepted_exactly = λ w l. (sound, all_pass w l);
          step = λ e. step (sound e).form (sound e).dual_feasible;
        }

    -- 11, whatever the buffers' lengths: the counterexample is one
    pub counterexample_promise : table_refusal t working list ≡ 11 → Overshoots t (counterexample t)
    unfolding table_refusal entries_refusal
    counterexample_promise e =
        let entries = (then_decided (length_refusal (length t) working list) (entries_refusal t) 11 (λ some is. omega (arith, is, length_below (length t) working list)) e).1 in
        let form = (then_decided (form_refusal t) (cond (ltb (table_scale t) (best t (table_capacity t))) 11 0) 11 (λ some is. omega (arith, is, form_below t)) entries).0 in
        overshoots (go form entries (cases_lt (table_scale t) (best t (table_capacity t))))
      where
        go : form_refusal t ≡ 0 → entries_refusal t ≡ 11 → (table_scale t < best t (table_capacity t)) ⊎ (best t (table_capacity t) ≤ table_scale t) → table_scale t < best t (table_capacity t)
        go form eleven (inl l) = l
        go form eleven (inr l) = absurd (omega (arith, accepted form l))
