-- P3: one claim about a whole chain, from what families and tables promise and from composition alone.
use mathlib.Core.Path.{◌≡◌, sym, ◌∙◌}
use mathlib.Core.List.{List, [], ◌∷◌}
use Prim.Native.Nat.{ℕ, ◌≤◌}
use native.Mathlib.Decide.{ℕ_discrete}
use native.Mathlib.Omega.{arith}
use borrow.Author.Tests.{eq-eqb, ne_eqb}
use lib.ListN.{length}
use Rattle.functions.specs.Words.{limit}
use Rattle.functions.specs.Promise.{StepPromise}
use Rattle.functions.proofs.Totals.{identity_promise, composed_promise}
use Rattle.functions.proofs.Promise.{family_promise}
use Rattle.tables.specs.Table.{entry, table_capacity, table_scale}
use Rattle.tables.proofs.Promise.{table_promise}
use Rattle.fields.specs.Parts.{Step, on_family, on_table}
use Rattle.chains.specs.Chain.{contents_refusal, step_image, step_scale, step_refusal, chain_image, chain_scale, ChainAccepted}

-- another capacity is told first, whatever the entries are
pub another_first : (c : ℕ) (t : List ℕ) → (table_capacity t ≡ c → ⊥) → step_refusal c (on_table t) ≡ 18
unfolding step_refusal
another_first c t another = rw (ne_eqb (table_capacity t) c another)

-- so any other number is told of a table of the present capacity, by its entries
pub told_by_entries : (c : ℕ) (t : List ℕ) (n : ℕ) → (n ≡ 18 → ⊥) → step_refusal c (on_table t) ≡ n → (table_capacity t ≡ c) × (contents_refusal (on_table t) ≡ n)
unfolding step_refusal
told_by_entries c t n other e = go (ℕ_discrete (table_capacity t) c)
  where
    go : Dec (table_capacity t ≡ c) → (table_capacity t ≡ c) × (contents_refusal (on_table t) ≡ n)
    go (yes same) = (same, rw (eq-eqb (table_capacity t) c same) at e)
    go (no another) = absurd (other (sym e ∙ another_first c t another))

-- an accepted table is of the present capacity and passes 8 to 11
pub table_accepted : (c : ℕ) (t : List ℕ) → step_refusal c (on_table t) ≡ 0 → (table_capacity t ≡ c) × (contents_refusal (on_table t) ≡ 0)
table_accepted c t = told_by_entries c t 0 (λ e. omega arith)

-- a table that the check accepts, at the present capacity
table_step : (c : ℕ) (t : List ℕ) → step_refusal c (on_table t) ≡ 0 → StepPromise (entry t) c (table_scale t)
unfolding contents_refusal
table_step c t e =
    let passed = table_accepted c t e in
    rw passed.0 at ((table_promise t (length t) (table_capacity t)).step passed.1)

pub step_promise : (c : ℕ) (s : Step) → 1 ≤ c → step_refusal c s ≡ 0 → StepPromise (step_image c s) c (step_scale c s)
unfolding step_image step_scale step_refusal
step_promise c (on_family family p q) l e = family_promise c family p q e
step_promise c (on_table t) l e = table_step c t e

pub chain_promise : (steps : List Step) (c : ℕ) → 1 ≤ c → c ≤ limit → ChainAccepted c steps → StepPromise (chain_image c steps) c (chain_scale c steps)
unfolding chain_image chain_scale ChainAccepted
chain_promise [] c l m a = identity_promise c l m
chain_promise (s ∷ steps) c l m a =
    let first = step_promise c s l a.0 in
    composed_promise (step_image c s) (chain_image (step_scale c s) steps) c (step_scale c s) (chain_scale (step_scale c s) steps) first (chain_promise steps (step_scale c s) first.scale_positive first.scale_within_limit a.1)
