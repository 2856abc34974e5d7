-- The record of a job's parts, filled with one field more.
use mathlib.Core.Path.{◌≡◌, refl, ap, sym, ◌∙◌}
use mathlib.Core.Bool.{true, ◌&&◌, and-eq-true_iff}
use mathlib.Core.List.{List, [], ◌∷◌, ◌++◌, map, map-append}
use mathlib.Core.Logic.{◌⊎◌, inl, inr, ⊎_elim}
use Prim.Native.Nat.{ℕ, ◌+◌, ◌-◌, ◌*◌, ◌/◌, ◌%◌, ◌≤◌, ◌<◌}
use native.Mathlib.Numerals.{add-one}
use native.Mathlib.Omega.{arith}
use borrow.Author.Tests.{eqb-true, leb-true, ne_eqb}
use lib.Dec.{leb, eqb}
use lib.ListN.{length, get_or, take, drop, set, length-map, length-drop, length-append}
use lib.Seq.{take-suc-set, length-take-le}
use denote.Bor.{Bor}
use Rattle.std.specs.Prelude.{Option, None, Some}
use Rattle.tables.specs.Check.{most_entries}
use Rattle.fields.specs.Bytes.{word, numbers_from, halfwords, words}
use Rattle.fields.specs.Parts.{Field, field_of, value_of, Step, on_family, on_table, step_of, Row, row_of, job_kind, job_capacity, job_sizes, block_numbers, job_steps, job_rows, coefficient_count}
use Rattle.fields.specs.Grammar.{most_sizes, length_right}
use Rattle.fields.specs.Within.{TableWithin}
use Rattle.fields.specs.Record.{step_in, steps_in, BlocksOf, PartsOf, NextField}
use Rattle.fields.specs.declared.steps.JobStep.{JobStep}
use Rattle.fields.specs.declared.steps.JobSteps.{JobSteps}
use Rattle.fields.specs.declared.JobParts.{JobParts}
use Rattle.fields.proofs.Decoding.{words_length, halfwords_are}
use Rattle.fields.proofs.Following.{value_other, blocks_new, blocks_same, step_is, step_more, steps_kept, no_step_lem, row_more, rows_kept, row_tag_is, no_row_lem}

-- the lengths that a tag may have, as facts
pub kind_length : (sizes n : ℕ) → length_right sizes 1 n ≡ true → n ≡ 1
unfolding length_right
kind_length sizes n e = eqb-true n 1 e

pub capacity_length : (sizes n : ℕ) → length_right sizes 2 n ≡ true → n ≡ 4
unfolding length_right
capacity_length sizes n e = eqb-true n 4 e

pub sizes_length : (sizes n : ℕ) → length_right sizes 3 n ≡ true → (n % 4 ≡ 0) × (n ≤ 4 * most_sizes)
unfolding length_right
sizes_length sizes n e =
    let parts = (and-eq-true_iff (eqb (n % 4) 0) (leb n (4 * most_sizes))).0 e in
    (eqb-true (n % 4) 0 parts.0, leb-true n (4 * most_sizes) parts.1)

pub family_length : (sizes n : ℕ) → length_right sizes 4 n ≡ true → n ≡ 9
unfolding length_right
family_length sizes n e = eqb-true n 9 e

pub row_length : (sizes n : ℕ) → length_right sizes 6 n ≡ true → (n % 4 ≡ 0) × (4 ≤ n)
unfolding length_right
row_length sizes n e =
    let parts = (and-eq-true_iff (eqb (n % 4) 0) (leb 4 n)).0 e in
    (eqb-true (n % 4) 0 parts.0, leb-true 4 n parts.1)

pub counts_length : (sizes n : ℕ) → length_right sizes 7 n ≡ true → n ≡ 2 * sizes
unfolding length_right
counts_length sizes n e = eqb-true n (2 * sizes) e

pub blocks_length : (sizes n : ℕ) → length_right sizes 8 n ≡ true → n % 2 ≡ 0
unfolding length_right
blocks_length sizes n e = eqb-true (n % 2) 0 e

pub table_length : (sizes n : ℕ) → length_right sizes 5 n ≡ true → (n % 4 ≡ 0) × (8 ≤ n) × (n ≤ 4 * most_entries)
unfolding length_right
table_length sizes n e =
    let parts = (and-eq-true_iff (eqb (n % 4) 0) (leb 8 n && leb n (4 * most_entries))).0 e in
    let range = (and-eq-true_iff (leb 8 n) (leb n (4 * most_entries))).0 parts.1 in
    (eqb-true (n % 4) 0 parts.0, leb-true 8 n range.0, leb-true n (4 * most_entries) range.1)

pub no_counts : halfwords [] ≡ []
unfolding halfwords numbers_from
no_counts = refl

-- the coefficients of a row behind its right side
pub row_count : (sizes : ℕ) (value : List ℕ) → length_right sizes 6 (length value) ≡ true → length (words (drop 4 value)) ≡ length value / 4 - 1
row_count sizes value right =
    let whole = row_length sizes (length value) right in
    words_length (length value / 4 - 1) (drop 4 value) (omega (arith, whole, length-drop 4 value))

pub counts_more : (rows : List Row) (r : Row) → coefficient_count (rows ++ (r ∷ [])) ≡ coefficient_count rows + length r.coefficients
unfolding coefficient_count
counts_more [] r = omega arith
counts_more (g ∷ rows) r = omega (arith, counts_more rows r)

-- as many steps as the record says
pub steps_count : (steps : JobSteps) → length (steps_in steps) ≡ steps.count
unfolding steps_in
steps_count steps =
    length-map (take steps.count steps.items) step_in ∙ length-take-le steps.count steps.items (omega (arith, steps.few, steps.places))

-- as many sizes
pub sizes_count : (fields : List Field) (parts : JobParts) → PartsOf fields parts → length parts.sizes.now / 4 ≡ length (job_sizes fields)
sizes_count fields parts h =
    sym (words_length (length parts.sizes.now / 4) parts.sizes.now (omega (arith, h.sizes_whole))) ∙ ap length h.sizes_are

-- as many blocks
pub blocks_count : (fields : List Field) (blocks : Bor (List ℕ)) → BlocksOf fields (Some blocks) → length blocks.now / 2 ≡ length (block_numbers fields)
unfolding block_numbers
blocks_count fields blocks h =
    sym (halfwords_are (length blocks.now / 2) blocks.now (omega (arith, h.1))).count
    ∙ ap (λ (bytes : List ℕ). length (halfwords bytes)) h.0

module _ (fields : List Field) (parts : JobParts) (h : PartsOf fields parts) (tag : ℕ) (v : Bor (List ℕ)) (n : NextField fields tag v.now) where
  abbrev value : List ℕ
  value = v.now

  abbrev f : Field
  f = field_of tag value

  abbrev more : List Field
  more = fields ++ (f ∷ [])

  -- the value of a tag that is new
  new_value : (t : ℕ) → tag ≡ t → (tag < 4) ⊎ (7 ≤ tag) → value ≡ value_of t more
  new_value t e new = sym (n.new new) ∙ ap (λ (t : ℕ). value_of t more) e

  -- the parts of other tags
  kind_kept : (tag ≡ 1 → ⊥) → parts.kind ≡ job_kind more
  unfolding job_kind
  kind_kept other = h.kind_is ∙ ap (λ (v : List ℕ). get_or v 0 0) (sym (value_other f 1 fields other))

  capacity_kept : (tag ≡ 2 → ⊥) → parts.capacity ≡ job_capacity more
  unfolding job_capacity
  capacity_kept other = h.capacity_is ∙ ap (λ (v : List ℕ). word v 0) (sym (value_other f 2 fields other))

  sizes_kept : (tag ≡ 3 → ⊥) → (words parts.sizes.now ≡ job_sizes more) × (length parts.sizes.now % 4 ≡ 0) × (length parts.sizes.now ≤ 4 * most_sizes)
  unfolding job_sizes
  sizes_kept other = (h.sizes_are ∙ ap words (sym (value_other f 3 fields other)), h.sizes_whole, h.sizes_most)

  counts_kept : (tag ≡ 7 → ⊥) → parts.counts.now ≡ value_of 7 more
  counts_kept other = h.counts_given ∙ sym (value_other f 7 fields other)

  blocks_kept : (tag ≡ 8 → ⊥) → BlocksOf more parts.blocks
  blocks_kept other = go parts.blocks h.blocks_are
    where
      go : (blocks : Option (Bor (List ℕ))) → BlocksOf fields blocks → BlocksOf more blocks
      go None same = (value_other f 8 fields other ∙ same.0, blocks_same f fields other ∙ same.1)
      go (Some bytes) same = (same.0 ∙ sym (value_other f 8 fields other), same.1, blocks_same f fields other ∙ same.2)

  -- before the sizes there are no counts
  uncounted : tag ≡ 3 → length parts.counts.now ≡ 0
  uncounted three = ap length (h.counts_given ∙ n.uncounted three)

  steps_same : (tag ≡ 4 → ⊥) → (tag ≡ 5 → ⊥) → steps_in parts.steps ≡ job_steps more
  steps_same four five = h.steps_are ∙ sym (steps_kept f fields (no_step_lem tag four five))

  rows_same : (tag ≡ 6 → ⊥) → (parts.rows ≡ length (job_rows more)) × (parts.coefficients ≡ coefficient_count (job_rows more))
  rows_same other =
      let same = sym (rows_kept f fields (no_row_lem tag other)) in
      (h.rows_count ∙ ap length same, h.coefficients_count ∙ ap coefficient_count same)

  -- a field that is no step and no row leaves the steps and the rows
  new_values : {kind capacity : ℕ} {sizes counts : Bor (List ℕ)} {blocks : Option (Bor (List ℕ))} → (tag < 4) ⊎ (7 ≤ tag) → kind ≡ job_kind more → capacity ≡ job_capacity more → (words sizes.now ≡ job_sizes more) × (length sizes.now % 4 ≡ 0) × (length sizes.now ≤ 4 * most_sizes) → counts.now ≡ value_of 7 more → (length counts.now ≡ 0) ⊎ (2 * length counts.now ≡ length sizes.now) → BlocksOf more blocks → PartsOf more (record { kind = kind; capacity = capacity; sizes = sizes; counts = counts; blocks = blocks; steps = parts.steps; rows = parts.rows; coefficients = parts.coefficients })
  new_values plain kind capacity sizes counts each blocks =
      let other : (tag ≡ 4 → ⊥) × (tag ≡ 5 → ⊥) × (tag ≡ 6 → ⊥) = ⊎_elim (λ less. (λ o. omega arith, λ o. omega arith, λ o. omega arith)) (λ more. (λ o. omega arith, λ o. omega arith, λ o. omega arith)) plain in
      let rows = rows_same other.2 in
      record {
        kind_is = kind;
        capacity_is = capacity;
        sizes_are = sizes.0;
        sizes_whole = sizes.1;
        sizes_most = sizes.2;
        counts_given = counts;
        none_or_each = each;
        blocks_are = blocks;
        steps_are = steps_same other.0 other.1;
        rows_count = rows.0;
        coefficients_count = rows.1;
      }

  -- a step or a row leaves kind, capacity, sizes, counts and blocks
  new_step_or_row : {steps : JobSteps} {rows coefficients : ℕ} → (4 ≤ tag) × (tag ≤ 6) → steps_in steps ≡ job_steps more → (rows ≡ length (job_rows more)) × (coefficients ≡ coefficient_count (job_rows more)) → PartsOf more (record { kind = parts.kind; capacity = parts.capacity; sizes = parts.sizes; counts = parts.counts; blocks = parts.blocks; steps = steps; rows = rows; coefficients = coefficients })
  new_step_or_row range steps rows =
      let sizes = sizes_kept (λ o. omega (arith, range)) in
      record {
        kind_is = kind_kept (λ o. omega (arith, range));
        capacity_is = capacity_kept (λ o. omega (arith, range));
        sizes_are = sizes.0;
        sizes_whole = sizes.1;
        sizes_most = sizes.2;
        counts_given = counts_kept (λ o. omega (arith, range));
        none_or_each = h.none_or_each;
        blocks_are = blocks_kept (λ o. omega (arith, range));
        steps_are = steps;
        rows_count = rows.0;
        coefficients_count = rows.1;
      }

  pub with_kind : tag ≡ 1 → PartsOf more (record { kind = get_or value 0 0; capacity = parts.capacity; sizes = parts.sizes; counts = parts.counts; blocks = parts.blocks; steps = parts.steps; rows = parts.rows; coefficients = parts.coefficients })
  unfolding job_kind
  with_kind e =
      let kind = ap (λ (v : List ℕ). get_or v 0 0) (new_value 1 e (inl (omega arith))) in
      new_values (inl (omega arith)) kind (capacity_kept (λ o. omega arith)) (sizes_kept (λ o. omega arith)) (counts_kept (λ o. omega arith)) h.none_or_each (blocks_kept (λ o. omega arith))

  pub with_capacity : tag ≡ 2 → (d : ℕ) → d ≡ word value 0 → PartsOf more (record { kind = parts.kind; capacity = d; sizes = parts.sizes; counts = parts.counts; blocks = parts.blocks; steps = parts.steps; rows = parts.rows; coefficients = parts.coefficients })
  unfolding job_capacity
  with_capacity e d is =
      let capacity = is ∙ ap (λ (v : List ℕ). word v 0) (new_value 2 e (inl (omega arith))) in
      new_values (inl (omega arith)) (kind_kept (λ o. omega arith)) capacity (sizes_kept (λ o. omega arith)) (counts_kept (λ o. omega arith)) h.none_or_each (blocks_kept (λ o. omega arith))

  pub with_sizes : tag ≡ 3 → PartsOf more (record { kind = parts.kind; capacity = parts.capacity; sizes = v; counts = parts.counts; blocks = parts.blocks; steps = parts.steps; rows = parts.rows; coefficients = parts.coefficients })
  unfolding job_sizes
  with_sizes e =
      let right = sizes_length _ (length value) (rw e at n.right_length) in
      new_values (inl (omega arith)) (kind_kept (λ o. omega arith)) (capacity_kept (λ o. omega arith)) (ap words (new_value 3 e (inl (omega arith))), right.0, right.1) (counts_kept (λ o. omega arith)) (inl (uncounted e)) (blocks_kept (λ o. omega arith))

  pub with_counts : tag ≡ 7 → PartsOf more (record { kind = parts.kind; capacity = parts.capacity; sizes = parts.sizes; counts = v; blocks = parts.blocks; steps = parts.steps; rows = parts.rows; coefficients = parts.coefficients })
  with_counts e =
      let right = counts_length _ (length value) (rw e at n.right_length) in
      new_values (inr (omega arith)) (kind_kept (λ o. omega arith)) (capacity_kept (λ o. omega arith)) (sizes_kept (λ o. omega arith)) (new_value 7 e (inr (omega arith))) (inr (omega (arith, right, sizes_count fields parts h, h.sizes_whole))) (blocks_kept (λ o. omega arith))

  pub with_blocks : tag ≡ 8 → PartsOf more (record { kind = parts.kind; capacity = parts.capacity; sizes = parts.sizes; counts = parts.counts; blocks = Some v; steps = parts.steps; rows = parts.rows; coefficients = parts.coefficients })
  with_blocks e =
      let right = blocks_length _ (length value) (rw e at n.right_length) in
      new_values (inr (omega arith)) (kind_kept (λ o. omega arith)) (capacity_kept (λ o. omega arith)) (sizes_kept (λ o. omega arith)) (counts_kept (λ o. omega arith)) h.none_or_each (new_value 8 e (inr (omega arith)), right, blocks_new f fields e)

  pub with_row : tag ≡ 6 → PartsOf more (record { kind = parts.kind; capacity = parts.capacity; sizes = parts.sizes; counts = parts.counts; blocks = parts.blocks; steps = parts.steps; rows = parts.rows + 1; coefficients = parts.coefficients + (length value / 4 - 1) })
  unfolding row_of
  with_row e =
      let new = row_more f fields (row_tag_is tag e) in
      let count = row_count _ value (rw e at n.right_length) in
      new_step_or_row (omega arith, omega arith) (steps_same (λ o. omega arith) (λ o. omega arith)) (
        rw new (omega (arith, h.rows_count, length-append (job_rows fields) (row_of f ∷ []))),
        rw new (omega (arith, h.coefficients_count, counts_more (job_rows fields) (row_of f), count)),
      )

  module _ (step : (tag ≡ 4) ⊎ (tag ≡ 5)) (s : JobStep) (same : step_in s ≡ step_of f) (next : JobSteps) (items_are : next.items ≡ set parts.steps.items parts.steps.count s) (one_longer : next.count ≡ parts.steps.count + 1) where
    range : (4 ≤ tag) × (tag ≤ 5)
    range = ⊎_elim (λ four. omega arith) (λ five. omega arith) step

    inside : parts.steps.count < length parts.steps.items
    inside = omega (arith, parts.steps.places, next.few)

    one_more : steps_in next ≡ steps_in parts.steps ++ (step_of f ∷ [])
    unfolding steps_in
    one_more =
        rw (items_are, one_longer, add-one)
        (ap (map step_in) (take-suc-set parts.steps.items parts.steps.count s inside)
        ∙ map-append step_in (take parts.steps.count parts.steps.items) (s ∷ [])
        ∙ ap (λ (x : Step). map step_in (take parts.steps.count parts.steps.items) ++ (x ∷ [])) same)

    pub with_step : PartsOf more (record { kind = parts.kind; capacity = parts.capacity; sizes = parts.sizes; counts = parts.counts; blocks = parts.blocks; steps = next; rows = parts.rows; coefficients = parts.coefficients })
    with_step =
        let steps = one_more ∙ ap (λ (l : List Step). l ++ (step_of f ∷ [])) h.steps_are ∙ sym (step_more f fields (step_is tag step)) in
        new_step_or_row (omega (arith, range), omega (arith, range)) steps (rows_same (λ o. omega (arith, range)))

  pub family_same : tag ≡ 4 → step_of f ≡ on_family (get_or value 0 0) (word value 1) (word value 5)
  unfolding step_of
  family_same e = rw e refl

  module _ (e : tag ≡ 5) where
    pub table_same : step_of f ≡ on_table (words value)
    unfolding step_of
    table_same = rw (ne_eqb tag 4 (omega arith))

-- the entries of a table of a right length
pub table_within : (sizes : ℕ) (value : List ℕ) → length_right sizes 5 (length value) ≡ true → TableWithin value
table_within sizes value right_length =
    let right = table_length sizes (length value) right_length in
    record { whole = right.0; least = right.1; most = right.2 }
