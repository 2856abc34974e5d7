-- The counterexample fits its capacity, and its images total best of it.
use Rattle.std.specs.Prelude.{Option, None, Some, MatchOption}
use Rattle.std.specs.Option.{unwrap_or}
use mathlib.Core.Path.{◌≡◌, ap, sym, ◌∙◌}
use mathlib.Core.List.{List, [], ◌∷◌, map}
use mathlib.Core.Logic.{◌⊎◌, inl, inr, ⊎_elim}
use Prim.Native.Nat.{ℕ, zero, suc, ◌+◌, ◌-◌, ◌≤◌, ◌<◌}
use native.Mathlib.Nat.{le_refl, eq-zero-or-pos}
use native.Mathlib.Decide.{ℕ_discrete}
use native.Mathlib.Omega.{arith}
use borrow.Author.Tests.{eq-eqb, ne_eqb}
use lib.ListN.{length}
use Rattle.functions.specs.Words.{total}
use Rattle.tables.specs.Table.{entry, best, least_from, least_size, walk}
use Rattle.tables.proofs.Best.{First, best_from, best_zero}

module _ (t : List ℕ) where
  -- y is a first size that reaches best c
  abbrev pub Reaches : ℕ → ℕ → Type 0
  Reaches c y = entry t y + best t (c - y) ≡ best t c

  pub least_here : (c y k : ℕ) → Reaches c y → least_from t c y (suc k) ≡ y
  unfolding least_from
  least_here c y k e = rw (eq-eqb _ _ e)

  pub least_later : (c y k : ℕ) → (Reaches c y → ⊥) → least_from t c y (suc k) ≡ least_from t c (suc y) k
  unfolding least_from
  least_later c y k n = rw (ne_eqb _ _ n)

  -- a search from y on over k sizes, whose first hit is z, and one without a hit
  pub least_at : (k c y z : ℕ) → y ≤ z → z < y + k → Reaches c z → ((j : ℕ) → y ≤ j → j < z → Reaches c j → ⊥) → least_from t c y k ≡ z
  least_at zero c y z l m e before = absurd (omega arith)
  least_at (suc k) c y z l m e before = go (ℕ_discrete y z) (least_at k c (suc y) z)
    where
      go : Dec (y ≡ z) → (suc y ≤ z → z < suc y + k → Reaches c z → ((j : ℕ) → suc y ≤ j → j < z → Reaches c j → ⊥) → least_from t c (suc y) k ≡ z) → least_from t c y (suc k) ≡ z
      go (yes here) rest = least_here c y k (rw here e) ∙ here
      go (no later) rest =
          least_later c y k (before y (omega arith) (omega (arith, later))) ∙ rest (omega (arith, later)) (omega arith) e (λ j a. before j (omega arith))

  pub least_none : (k c y : ℕ) → ((j : ℕ) → y ≤ j → j < y + k → Reaches c j → ⊥) → least_from t c y k ≡ y + k
  unfolding least_from
  least_none zero c y none = omega arith
  least_none (suc k) c y none =
      least_later c y k (none y (omega arith) (omega arith)) ∙ least_none k c (suc y) (λ j a b. none j (omega arith) (omega arith)) ∙ omega arith

  -- what a search over 1 to c - 1 finds, if it finds a size
  abbrev pub FirstFound : ℕ → Option ℕ → Type 0
  FirstFound c found =
      MatchOption found ((k : ℕ) → 1 ≤ k → k < c → Reaches c k → ⊥) (λ y. (1 ≤ y) × (y < c) × Reaches c y × ((k : ℕ) → 1 ≤ k → k < y → Reaches c k → ⊥))

  pub least_first : (c : ℕ) (found : Option ℕ) → 1 ≤ c → FirstFound c found → unwrap_or found c ≡ least_size t c
  unfolding least_size
  least_first c None pos none = sym (least_none (c - 1) c 1 (λ j a b. none j a (omega arith)) ∙ omega arith)
  least_first c (Some y) pos is = sym (least_at (c - 1) c 1 y is.0 (omega (arith, is.1)) is.2 is.3)

  -- the size that is found from y on, among at most k more
  pub record Found (c y k r : ℕ) : Type 0 where
    pub from : y ≤ r
    pub up_to : r ≤ y + k
    pub reaches : Reaches c r

  least_from_lem : (k c y z : ℕ) → y ≤ z → z ≤ y + k → Reaches c z → Found c y k (least_from t c y k)
  unfolding least_from
  least_from_lem zero c y z l m e =
      let same : z ≡ y = omega arith in
      record { from = le_refl y; up_to = omega arith; reaches = rw same at e }
  least_from_lem (suc k) c y z l m e = go (ℕ_discrete (entry t y + best t (c - y)) (best t c)) (least_from_lem k c (suc y) z)
    where
      go : Dec (Reaches c y) → (suc y ≤ z → z ≤ suc y + k → Reaches c z → Found c (suc y) k (least_from t c (suc y) k)) → Found c y (suc k) (least_from t c y (suc k))
      go (yes here) rest = rw (least_here c y k here) (record { from = le_refl y; up_to = omega arith; reaches = here })
      go (no later) rest =
          let other : z ≡ y → ⊥ = λ same. later (rw same at e) in
          let found = rest (omega arith) (omega arith) e in
          rw (least_later c y k later) (record { from = omega (arith, found.from); up_to = omega (arith, found.up_to); reaches = found.reaches })

  pub least_size_lem : (c : ℕ) → 0 < best t c → Found c 1 (c - 1) (least_size t c)
  unfolding least_size
  least_size_lem c pos = go (best_from t c)
    where
      go : (best t c ≡ 0) ⊎ First t c → Found c 1 (c - 1) (least_from t c 1 (c - 1))
      go (inl e) = absurd (omega arith)
      go (inr f) = least_from_lem (c - 1) c 1 f.size f.positive (omega (arith, f.fits, f.positive)) (sym f.reaches)

  pub best_positive : (c : ℕ) → 0 < best t c → 1 ≤ c
  best_positive c pos = ⊎_elim (λ e. absurd (omega (arith, ap (best t) e, best_zero t))) (λ l. l) (eq-zero-or-pos c)

  -- the size that the walk takes fits c
  pub least_fits : (c : ℕ) → 0 < best t c → (1 ≤ least_size t c) × (least_size t c ≤ c)
  least_fits c pos = omega (arith, least_size_lem c pos, best_positive c pos)

  pub walk_ends : (k c : ℕ) → best t c ≡ 0 → walk t (suc k) c ≡ []
  unfolding walk
  walk_ends k c e = rw (eq-eqb (best t c) 0 e)

  pub walk_goes : (k c : ℕ) → 0 < best t c → walk t (suc k) c ≡ least_size t c ∷ walk t k (c - least_size t c)
  unfolding walk
  walk_goes k c l = rw (ne_eqb (best t c) 0 (omega arith))

  -- the walk from c fits c, reaches best c and has at most c sizes
  pub record Walked (c : ℕ) (xs : List ℕ) : Type 0 where
    pub fits : total xs ≤ c
    pub reaches : total (map (entry t) xs) ≡ best t c
    pub short : length xs ≤ c

  pub walked : (k c : ℕ) → c ≤ k → Walked c (walk t k c)
  unfolding total walk
  walked zero c l =
      let none : c ≡ 0 = omega arith in
      record { fits = omega arith; reaches = sym (ap (best t) none ∙ best_zero t); short = omega arith }
  walked (suc k) c l = go (eq-zero-or-pos (best t c)) (walked k)
    where
      go : (best t c ≡ 0) ⊎ (0 < best t c) → ((d : ℕ) → d ≤ k → Walked d (walk t k d)) → Walked c (walk t (suc k) c)
      go (inl e) rest = rw (walk_ends k c e) (record { fits = omega arith; reaches = sym e; short = omega arith })
      go (inr pos) rest =
          let y = least_fits c pos in
          let w = rest (c - least_size t c) (omega (arith, y)) in
          rw (walk_goes k c pos)
          (record {
            fits = omega (arith, w.fits, y);
            reaches = omega (arith, w.reaches, (least_size_lem c pos).reaches);
            short = omega (arith, w.short, y);
          })
