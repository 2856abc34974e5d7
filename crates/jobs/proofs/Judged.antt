-- What the refusals of rows and of a whole job leave of one that is accepted.
use Rattle.std.specs.Prelude.{Some, Result, Ok, Err}
use Rattle.std.specs.Result.{MatchResult, IsErrAnd}
use mathlib.Core.Path.{◌≡◌, refl, ap, sym, ◌∙◌}
use mathlib.Core.Bool.{Bool, true, false, cond, not, ◌&&◌, and-eq-true_iff}
use mathlib.Core.List.{List, [], ◌∷◌}
use mathlib.Core.Logic.{⊎_elim}
use Prim.Native.Nat.{ℕ, zero, suc, ◌+◌, ◌-◌, ◌≤◌, ◌<◌}
use native.Mathlib.Nat.{eq-zero-or-pos}
use native.Mathlib.Numerals.{add-one}
use native.Mathlib.Omega.{arith}
use borrow.Author.Tests.{eq-eqb, ne_eqb, leb-true}
use lib.Dec.{leb}
use lib.ListN.{length, get_or, drop, drop_of_length-le}
use lib.Seq.{drop-cons}
use Rattle.fields.specs.Bytes.{halfwords, words}
use Rattle.fields.specs.Parts.{Field, value_of, Step, Row, job_kind, job_capacity, job_sizes, job_counts, block_numbers, job_steps, job_rows, coefficient_count}
use Rattle.fields.specs.Grammar.{most_sizes, most_rows, rows_kind}
use Rattle.fields.specs.Record.{no_row, row_in, steps_in, PartsOf}
use Rattle.fields.specs.declared.JobRow.{JobRow}
use Rattle.fields.specs.declared.JobParts.{JobParts}
use Rattle.refusals.proofs.Numbers.{number_positive}
use Rattle.chains.specs.Chain.{TablesPass}
use Rattle.chains.specs.Apply.{ChainAppliable, ChainApplied}
use Rattle.chains.specs.Judge.{Judgement, plain, judge_list, StepOvershoots, list_by, Judged}
use Rattle.chains.specs.declared.Refused.{Refused}
use Rattle.fields.proofs.Filling.{no_counts}
use Rattle.chains.proofs.Judged.{tables_pass, given_judged, list_appliable, list_divided, list_none, list_overshoots}
use Rattle.refusals.proofs.Stopped.{stopped}
use Rattle.jobs.specs.Kinds.{takes, least_of, rows_fit}
use Rattle.jobs.specs.declared.kind.Operation.{Operation}
use Rattle.jobs.specs.JudgeRows.{judge_row, in_row, judge_rows}
use Rattle.blocks.specs.Block.{blocks_fit}
use Rattle.jobs.specs.Job.{is_divided, blocks_right, judge_parts, judge_fields}

-- how many rows and coefficients 21 leaves
pub fit_bounds : (rows coefficients : ℕ) → rows_fit rows coefficients ≡ true → (rows ≤ most_rows) × (coefficients ≤ most_sizes)
unfolding rows_fit
fit_bounds rows coefficients e =
    let both = (and-eq-true_iff (leb 1 rows && leb rows most_rows) (leb coefficients most_sizes)).0 e in
    (leb-true rows most_rows ((and-eq-true_iff (leb 1 rows) (leb rows most_rows)).0 both.0).1, leb-true coefficients most_sizes both.1)

-- rows that are accepted are each accepted, and 11 in a row is 11 in a step
module _ (S : List Step) where
  row_passes : (k : ℕ) (r : Row) (rows : List Row) → (judge_row S r).number ≡ 0 → judge_rows k S (r ∷ rows) ≡ judge_rows (suc k) S rows
  unfolding judge_rows
  row_passes k r rows none = rw (eq-eqb _ 0 none)

  row_stops : (k : ℕ) (r : Row) (rows : List Row) → ((judge_row S r).number ≡ 0 → ⊥) → judge_rows k S (r ∷ rows) ≡ in_row (suc k) (judge_row S r)
  unfolding judge_rows
  row_stops k r rows some = rw (ne_eqb _ 0 some)

  pub row_appliable : (r : Row) → (judge_row S r).number ≡ 0 → ChainAppliable r.right_side S r.coefficients
  unfolding judge_row
  row_appliable r e = list_appliable 0 r.right_side r.coefficients [] true S e

  pub row_none : (r : Row) → (judge_row S r).number ≡ 0 → judge_row S r ≡ plain 0
  unfolding judge_row
  row_none r e = list_none 0 r.right_side r.coefficients [] true S e

  -- a row judged as the list of its coefficients, of which none is counted
  pub row_judged : (row : JobRow) → judge_list 0 row.capacity (words row.coefficients.now) (halfwords []) true S ≡ judge_row S (row_in row)
  unfolding judge_row row_in
  row_judged row = ap (λ (counts : List ℕ). judge_list 0 row.capacity (words row.coefficients.now) counts true S) no_counts

  pub rows_accepted : (rows : List Row) (k : ℕ) → (judge_rows k S rows).number ≡ 0 → (i : ℕ) → i < length rows → (judge_row S (get_or rows i no_row)).number ≡ 0
  unfolding in_row
  rows_accepted [] k e i l = absurd (omega arith)
  rows_accepted (r ∷ rows) k e i l = ⊎_elim (λ none. go none (rows_accepted rows (suc k) (rw (row_passes k r rows none) at e)) i l) (λ some. absurd (omega (arith, ap (λ (f : Judgement). f.number) (row_stops k r rows (omega arith)), e))) (eq-zero-or-pos (judge_row S r).number)
    where
      go : (judge_row S r).number ≡ 0 → ((j : ℕ) → j < length rows → (judge_row S (get_or rows j no_row)).number ≡ 0) → (i : ℕ) → i < suc (length rows) → (judge_row S (get_or (r ∷ rows) i no_row)).number ≡ 0
      go none next zero l = none
      go none next (suc j) l = next j (omega arith)

  -- 11 of rows behind k others
  abbrev Over : ℕ → List Row → Judgement → Type 0
  Over k rows f = f.number ≡ 11 → (k < f.row) × StepOvershoots (get_or rows (f.row - suc k) no_row).right_side S f.step f.list

  over_later : (k : ℕ) (r : Row) (rows : List Row) (f : Judgement) → Over (suc k) rows f → Over k (r ∷ rows) f
  over_later k r rows f over eleven =
      let later = over eleven in
      let place : f.row - suc k ≡ suc (f.row - suc (suc k)) = omega (arith, later.0) in
      (omega (arith, later.0), rw place later.1)

  over_here : (k : ℕ) (r : Row) (rows : List Row) → Over k (r ∷ rows) (in_row (suc k) (judge_row S r))
  unfolding in_row judge_row
  over_here k r rows eleven =
      let first : suc k - suc k ≡ 0 = omega arith in
      (omega arith, rw first (list_overshoots 0 r.right_side r.coefficients [] true S eleven))

  pub rows_overshoot : (rows : List Row) (k : ℕ) → Over k rows (judge_rows k S rows)
  unfolding judge_rows plain
  rows_overshoot [] k = λ eleven. absurd (omega (arith, eleven))
  rows_overshoot (r ∷ rows) k =
      ⊎_elim
      (λ none. rw (row_passes k r rows none) (over_later k r rows (judge_rows (suc k) S rows) (rows_overshoot rows (suc k))))
      (λ some. rw (row_stops k r rows (omega arith)) (over_here k r rows))
      (eq-zero-or-pos (judge_row S r).number)

-- judged in a row, of which the place is put into what is told
pub in_row_judged : (k : ℕ) (r : Judgement) (list list' : List ℕ) {A : Type 0} (outcome placed : Result A Refused) → MatchResult outcome (λ value. placed ≡ Ok value) (λ e. IsErrAnd placed (λ next. next ≡ record { refusal = e.refusal; row = Some (k + 1); step = e.step; length = e.length })) → Judged r list outcome list' → Judged (in_row (suc k) r) list placed list'
unfolding in_row list_by
in_row_judged k r list list' (Ok value) placed same j = rw same (record { told = j.told; list_is = j.list_is })
in_row_judged k r list list' (Err e) placed mapped j =
    rw (stopped placed mapped)
    (record {
      told = record { number_is = j.told.number_is; row_is = add-one k; step_is = j.told.step_is; length_is = j.told.length_is };
      list_is = j.list_is;
    })

-- rows judged in order: those left decide, and behind the first no table has 8 to 11
pub record RowsSoFar (S : List Step) (rows : List Row) (k : ℕ) : Type 0 where
  pub verdict : judge_rows 0 S rows ≡ judge_rows k S (drop k rows)
  pub tables : 0 < k → TablesPass S

module _ (S : List Step) (rows : List Row) where
  pub rows_start : RowsSoFar S rows 0
  rows_start = record { verdict = refl; tables = λ some. absurd (omega arith) }

  module _ (k : ℕ) (so : RowsSoFar S rows k) where
    module _ (l : k < length rows) (r : Row) (is : get_or rows k no_row ≡ r) where
      here : judge_rows 0 S rows ≡ judge_rows k S (r ∷ drop (suc k) rows)
      here = so.verdict ∙ ap (judge_rows k S) (drop-cons rows k no_row l ∙ ap (λ (x : Row). x ∷ drop (suc k) rows) is)

      module _ (list list' : List ℕ) where
        pub rows_refused : {A : Type 0} (e : Refused) → Judged {A = A} (in_row (suc k) (judge_row S r)) list (Err e) list' → Judged {A = A} (judge_rows 0 S rows) list (Err e) list'
        unfolding in_row
        rows_refused e j =
            let some : (judge_row S r).number ≡ 0 → ⊥ = λ none. omega (arith, number_positive e.refusal, j.told.number_is) in
            rw (here ∙ row_stops S k r (drop (suc k) rows) some) j

        pub rows_next : {A : Type 0} (value : A) → Judged (in_row (suc k) (judge_row S r)) list (Ok value) list' → RowsSoFar S rows (k + 1) × (list' ≡ list)
        unfolding in_row list_by plain
        rows_next value j =
            let none : (judge_row S r).number ≡ 0 = j.told in (
              record {
                verdict = here ∙ row_passes S k r (drop (suc k) rows) none ∙ ap (λ (i : ℕ). judge_rows i S (drop i rows)) (sym (add-one k));
                tables = λ _. tables_pass S r.right_side (row_appliable S r none).accepted;
              },
              j.list_is ∙ rw (row_none S r none),
            )

    pub rows_done : length rows ≤ k → judge_rows 0 S rows ≡ plain 0
    unfolding judge_rows
    rows_done l = so.verdict ∙ ap (judge_rows k S) (drop_of_length-le rows {i = k} l)

-- a job of a kind that is taken, by its list or its rows
module _ (fields : List Field) where
  module _ (kind : job_kind fields ≡ rows_kind) where
    pub rows_kind_lem : judge_parts fields ≡ cond (not (rows_fit (length (job_rows fields)) (coefficient_count (job_rows fields)))) (plain 21) (judge_rows 0 (job_steps fields) (job_rows fields))
    unfolding judge_parts
    rows_kind_lem = rw kind

    pub rows_fine : (judge_parts fields).number ≡ 0 → (rows_fit (length (job_rows fields)) (coefficient_count (job_rows fields)) ≡ true) × ((judge_rows 0 (job_steps fields) (job_rows fields)).number ≡ 0)
    unfolding plain
    rows_fine e = go (rows_fit (length (job_rows fields)) (coefficient_count (job_rows fields))) refl (sym (ap (λ (r : Judgement). r.number) rows_kind_lem) ∙ e)
      where
        go : (test : Bool) → rows_fit (length (job_rows fields)) (coefficient_count (job_rows fields)) ≡ test → (cond (not test) (plain 21) (judge_rows 0 (job_steps fields) (job_rows fields))).number ≡ 0 → (rows_fit (length (job_rows fields)) (coefficient_count (job_rows fields)) ≡ true) × ((judge_rows 0 (job_steps fields) (job_rows fields)).number ≡ 0)
        go true fits none = (fits, none)
        go false fits none = absurd (omega (arith, none))

  module _ (kind : job_kind fields ≡ rows_kind → ⊥) where
    pub list_kind : judge_parts fields ≡ judge_list (least_of (job_kind fields)) (job_capacity fields) (job_sizes fields) (halfwords (value_of 7 fields)) (blocks_right fields) (job_steps fields)
    unfolding judge_parts job_counts
    list_kind = rw (ne_eqb (job_kind fields) rows_kind kind) (given_judged _ _ _ _ _ _ _)

    -- what its list was judged by
    list_accepted : (judge_parts fields).number ≡ 0 → (judge_list (least_of (job_kind fields)) (job_capacity fields) (job_sizes fields) (halfwords (value_of 7 fields)) (blocks_right fields) (job_steps fields)).number ≡ 0
    list_accepted e = sym (ap (λ (r : Judgement). r.number) list_kind) ∙ e

    pub list_fine : (judge_parts fields).number ≡ 0 → ChainAppliable (job_capacity fields) (job_steps fields) (job_sizes fields)
    list_fine e = list_appliable _ _ _ _ _ _ (list_accepted e)

    -- by the parts that were read
    pub parts_fine : (parts : JobParts) → PartsOf fields parts → (judge_parts fields).number ≡ 0 → ChainAppliable parts.capacity (steps_in parts.steps) (words parts.sizes.now)
    parts_fine parts h e = rw (h.capacity_is, h.steps_are, h.sizes_are) (list_fine e)

    -- the blocks of a divided list fit it
    pub blocks_fine : (judge_parts fields).number ≡ 0 → is_divided fields ≡ true → blocks_fit (block_numbers fields) (length (job_sizes fields)) ≡ true
    unfolding blocks_right
    blocks_fine e is = rw is at (list_divided _ _ _ _ _ _ (list_accepted e))

  -- the list mapped by the parts that were read
  pub parts_applied : (parts : JobParts) → PartsOf fields parts → (scale : ℕ) (images : List ℕ) → ChainApplied parts.capacity (steps_in parts.steps) (words parts.sizes.now) scale images → ChainApplied (job_capacity fields) (job_steps fields) (job_sizes fields) scale images
  parts_applied parts h scale images applied = rw (h.capacity_is, h.steps_are, h.sizes_are) at applied

  -- 16, or what its parts are judged
  module _ (asked : Operation) where
    pub kind_refused : takes asked (job_kind fields) ≡ false → judge_fields asked fields ≡ plain 16
    unfolding judge_fields
    kind_refused e = rw e

    pub kind_taken : takes asked (job_kind fields) ≡ true → judge_fields asked fields ≡ judge_parts fields
    unfolding judge_fields
    kind_taken e = rw e
