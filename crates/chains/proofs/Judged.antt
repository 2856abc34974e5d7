-- What the refusals of a list and of the steps leave of one that is accepted.
use mathlib.Core.Path.{◌≡◌, refl, ap, sym, ◌∙◌}
use mathlib.Core.Bool.{Bool, true, false, cond, not}
use mathlib.Core.List.{List, [], ◌∷◌}
use mathlib.Core.Logic.{⊎_elim}
use Prim.Native.Nat.{ℕ, zero, suc, ◌-◌, ◌<◌}
use native.Mathlib.Nat.{eq-zero-or-pos}
use native.Mathlib.Omega.{arith}
use borrow.Author.Tests.{eq-eqb, ne_eqb}
use lib.ListN.{length, get_or, drop}
use Rattle.functions.specs.Words.{capacity_fits}
use Rattle.functions.proofs.Legal.{passed, capacity_bounds, family_refusal_most}
use Rattle.tables.specs.Table.{table_capacity}
use Rattle.tables.proofs.Promise.{counterexample_promise}
use Rattle.fields.specs.Parts.{counts_for, Step, on_family, on_table}
use Rattle.fields.proofs.Said.{three}
use Rattle.chains.specs.Chain.{contents_refusal, step_scale, step_refusal, chain_scale, ChainAccepted, TablesPass}
use Rattle.chains.specs.Apply.{ChainAppliable}
use Rattle.chains.specs.Sizes.{sizes_within, counts_positive, list_refusal}
use Rattle.chains.specs.Judge.{step_list, Judgement, plain, judge_chain, judge_list, step_entries, entries_at, StepOvershoots}
use Rattle.chains.proofs.Chains.{told_by_entries, table_accepted}
use Rattle.chains.proofs.SizeTests.{sizes_most, given_positive}

-- 1, 17, 22 and 23 are not 11
list_other : (least c : ℕ) (sizes counts : List ℕ) (divided : Bool) → list_refusal least c sizes counts divided ≡ 11 → ⊥
unfolding list_refusal
list_other least c sizes counts divided = behind (not (capacity_fits c))
  where
    behind : (test : Bool) → ◌≡◌ {A = ℕ} (cond test 1 (cond (not (sizes_within least c sizes)) 17 (cond (not (counts_positive counts)) 22 (cond (not divided) 23 0)))) 11 → ⊥
    behind true e = omega (arith, e)
    behind false e = three (λ n. n ≡ 11 → ⊥) (not (sizes_within least c sizes)) (not (counts_positive counts)) (not divided) 17 22 23 (omega arith) (omega arith) (omega arith) (omega (arith, e)) e

chain_accepted : (steps : List Step) (c k : ℕ) → (judge_chain c k steps).number ≡ 0 → ChainAccepted c steps
unfolding judge_chain plain ChainAccepted
chain_accepted [] c k e = Prim.tt
chain_accepted (s ∷ steps) c k e =
    ⊎_elim
    (λ none. (none, chain_accepted steps (step_scale c s) (suc k) (rw (eq-eqb (step_refusal c s) 0 none) at e)))
    (λ some. absurd (omega (arith, rw (ne_eqb (step_refusal c s) 0 (omega arith)) at e)))
    (eq-zero-or-pos (step_refusal c s))

-- nothing is said of a chain that is accepted
chain_none : (steps : List Step) (c k : ℕ) → (judge_chain c k steps).number ≡ 0 → judge_chain c k steps ≡ plain 0
unfolding judge_chain
chain_none [] c k e = refl
chain_none (s ∷ steps) c k e =
    ⊎_elim
    (λ none. rw (eq-eqb (step_refusal c s) 0 none) (chain_none steps (step_scale c s) (suc k) (rw (eq-eqb (step_refusal c s) 0 none) at e)))
    (λ some. absurd (omega (arith, rw (ne_eqb (step_refusal c s) 0 (omega arith)) at e)))
    (eq-zero-or-pos (step_refusal c s))

-- an accepted step's table passes 8 to 11, whatever the capacity
contents_pass : (c : ℕ) (s : Step) → step_refusal c s ≡ 0 → contents_refusal s ≡ 0
unfolding contents_refusal
contents_pass c (on_family family p q) e = refl
contents_pass c (on_table t) e = (table_accepted c t e).1

pub tables_pass : (steps : List Step) (c : ℕ) → ChainAccepted c steps → TablesPass steps
unfolding ChainAccepted TablesPass
tables_pass [] c a = Prim.tt
tables_pass (s ∷ steps) c a = (contents_pass c s a.0, tables_pass steps (step_scale c s) a.1)

pub table_passes : (steps : List Step) (i : ℕ) (s : Step) (rest : List Step) → TablesPass steps → drop i steps ≡ s ∷ rest → contents_refusal s ≡ 0
unfolding TablesPass
table_passes [] zero s rest t e = absurd (omega (arith, ap length e))
table_passes [] (suc i) s rest t e = absurd (omega (arith, ap length e))
table_passes (g ∷ steps) zero s rest t e = rw (ap (λ (l : List Step). get_or l 0 s) e) at t.0
table_passes (g ∷ steps) (suc i) s rest t e = table_passes steps i s rest t.1 e

-- 11 at a step: its table is of the present capacity, and the list that goes with it overshoots
step_overshoots : (c : ℕ) (s : Step) (steps : List Step) → step_refusal c s ≡ 11 → StepOvershoots c (s ∷ steps) 1 (step_list 11 s)
unfolding step_refusal contents_refusal step_entries entries_at step_list chain_scale
step_overshoots c (on_family family p q) steps e = absurd (omega (arith, e, family_refusal_most c family p q))
step_overshoots c (on_table t) steps e =
    let told = told_by_entries c t 11 (λ e. omega arith) e in
    record { of_present_capacity = told.0; overshoots = counterexample_promise t (length t) (table_capacity t) told.1 }

behind_one : (c : ℕ) (s : Step) (steps : List Step) (place : ℕ) (list : List ℕ) → 0 < place → StepOvershoots (step_scale c s) steps place list → StepOvershoots c (s ∷ steps) (suc place) list
unfolding entries_at chain_scale
behind_one c s steps zero list l o = absurd (omega arith)
behind_one c s steps (suc place) list l o =
    let before : suc place - 1 ≡ place = omega arith in
    let behind : suc (suc place) - 1 ≡ suc place = omega arith in
    record { of_present_capacity = rw behind (rw before at o.of_present_capacity); overshoots = rw behind (rw before at o.overshoots) }

-- 11 of a chain from c on, behind k steps
abbrev Over : ℕ → ℕ → List Step → Judgement → Type 0
Over c k steps r = r.number ≡ 11 → (k < r.step) × StepOvershoots c steps (r.step - k) r.list

over_later : (c k : ℕ) (s : Step) (steps : List Step) (r : Judgement) → Over (step_scale c s) (suc k) steps r → Over c k (s ∷ steps) r
over_later c k s steps r over eleven =
    let later = over eleven in
    let place : r.step - k ≡ suc (r.step - suc k) = omega (arith, later.0) in
    (omega (arith, later.0), rw place (behind_one c s steps (r.step - suc k) r.list (omega (arith, later.0)) later.1))

over_here : (c k : ℕ) (s : Step) (steps : List Step) → Over c k (s ∷ steps) (record { number = step_refusal c s; row = 0; step = suc k; list = step_list (step_refusal c s) s })
over_here c k s steps eleven =
    let first : suc k - k ≡ 1 = omega arith in
    (omega arith, rw (eleven, first) (step_overshoots c s steps eleven))

chain_overshoots : (steps : List Step) (c k : ℕ) → Over c k steps (judge_chain c k steps)
unfolding judge_chain plain
chain_overshoots [] c k = λ eleven. absurd (omega (arith, eleven))
chain_overshoots (s ∷ steps) c k =
    ⊎_elim
    (λ none. rw (eq-eqb (step_refusal c s) 0 none) (over_later c k s steps (judge_chain (step_scale c s) (suc k) steps) (chain_overshoots steps (step_scale c s) (suc k))))
    (λ some. rw (ne_eqb (step_refusal c s) 0 (omega arith)) (over_here c k s steps))
    (eq-zero-or-pos (step_refusal c s))

refused_overshoots : (steps : List Step) (c : ℕ) → (judge_chain c 0 steps).number ≡ 11 → StepOvershoots c steps (judge_chain c 0 steps).step (judge_chain c 0 steps).list
refused_overshoots steps c e =
    let place : (judge_chain c 0 steps).step - 0 ≡ (judge_chain c 0 steps).step = omega arith in
    rw place at (chain_overshoots steps c 0 e).1

-- where no count is given, each is 1, and none is refused
pub given_judged : (least c : ℕ) (sizes given : List ℕ) (n : ℕ) (divided : Bool) (S : List Step) → judge_list least c sizes (counts_for given n) divided S ≡ judge_list least c sizes given divided S
unfolding judge_list list_refusal
given_judged least c sizes given n divided S = rw (given_positive given n)

-- a list of sizes: refused by 1, 17, 22 or 23, or the steps decide
module _ (least c : ℕ) (sizes counts : List ℕ) (divided : Bool) (S : List Step) where
  pub list_refused : (n : ℕ) → n ≡ list_refusal least c sizes counts divided → (n ≡ 0 → ⊥) → judge_list least c sizes counts divided S ≡ plain n
  unfolding judge_list
  list_refused n e some = rw (← e, ne_eqb n 0 some)

  pub list_passed : list_refusal least c sizes counts divided ≡ 0 → judge_list least c sizes counts divided S ≡ judge_chain c 0 S
  unfolding judge_list
  list_passed e = rw (eq-eqb _ 0 e)

  -- what holds of a refusal of 1, 17, 22 or 23, and of one in a step, holds of a list's
  list_judged : (P : Judgement → Type 0) → ((n : ℕ) → n ≡ list_refusal least c sizes counts divided → (n ≡ 0 → ⊥) → P (plain n)) → (list_refusal least c sizes counts divided ≡ 0 → P (judge_chain c 0 S)) → P (judge_list least c sizes counts divided S)
  list_judged P outside inside =
      ⊎_elim
      (λ none. rw (list_passed none) (inside none))
      (λ some. rw (list_refused _ refl (omega arith)) (outside _ refl (omega arith)))
      (eq-zero-or-pos (list_refusal least c sizes counts divided))

  pub list_appliable : (judge_list least c sizes counts divided S).number ≡ 0 → ChainAppliable c S sizes
  unfolding plain list_refusal
  list_appliable = list_judged (λ r. r.number ≡ 0 → ChainAppliable c S sizes) (λ n is some none. absurd (some none)) passing
    where
      passing : list_refusal least c sizes counts divided ≡ 0 → (judge_chain c 0 S).number ≡ 0 → ChainAppliable c S sizes
      passing none fine =
          let one = passed (capacity_fits c) 1 _ (omega arith) none in
          let two = passed (sizes_within least c sizes) 17 _ (omega arith) one.1 in
          let bounds = capacity_bounds c one.0 in
          record { positive = bounds.0; in_limit = bounds.1; accepted = chain_accepted S c 0 fine; within = sizes_most least c sizes two.0 }

  -- nor do its blocks refuse it
  pub list_divided : (judge_list least c sizes counts divided S).number ≡ 0 → divided ≡ true
  unfolding plain list_refusal
  list_divided = list_judged (λ r. r.number ≡ 0 → divided ≡ true) (λ n is some none. absurd (some none)) (λ none fine. passing none)
    where
      passing : list_refusal least c sizes counts divided ≡ 0 → divided ≡ true
      passing none =
          let one = passed (capacity_fits c) 1 _ (omega arith) none in
          let two = passed (sizes_within least c sizes) 17 _ (omega arith) one.1 in
          let three = passed (counts_positive counts) 22 _ (omega arith) two.1 in
          (passed divided 23 0 (omega arith) three.1).0

  pub list_none : (judge_list least c sizes counts divided S).number ≡ 0 → judge_list least c sizes counts divided S ≡ plain 0
  unfolding plain
  list_none = list_judged (λ r. r.number ≡ 0 → r ≡ plain 0) (λ n is some none. absurd (some none)) (λ _. chain_none S c 0)

  pub list_overshoots : (judge_list least c sizes counts divided S).number ≡ 11 → StepOvershoots c S (judge_list least c sizes counts divided S).step (judge_list least c sizes counts divided S).list
  unfolding plain
  list_overshoots = list_judged (λ r. r.number ≡ 11 → StepOvershoots c S r.step r.list) (λ n is some eleven. absurd (list_other least c sizes counts divided (sym is ∙ eleven))) (λ _. refused_overshoots S c)
