-- Fields one behind the other: what the parts by tag gain from one more field, and which tags may follow.
use Rattle.std.proofs.lemmas.Bool.{cases_lt}
use mathlib.Core.Path.{◌≡◌, refl, ap, ◌∙◌}
use mathlib.Core.Bool.{Bool, true, false, cond, not, ◌&&◌, ◌||◌, or-true, and-eq-true_iff}
use mathlib.Core.List.{List, [], ◌∷◌, ◌++◌, map, map-append}
use mathlib.Core.Logic.{◌⊎◌, inl, inr, ⊎_elim}
use Prim.Native.Nat.{ℕ, suc, ◌≤◌, ◌<◌}
use native.Mathlib.Omega.{arith}
use borrow.Author.Tests.{eqb-true, ltb-true, eq-eqb, ne_eqb, not-false}
use lib.Dec.{ltb, eqb}
use Rattle.functions.proofs.Cases.{not_refused}
use Rattle.std.specs.Prelude.{Option, None, Some}
use Rattle.fields.specs.Bytes.{field_tag, field_length, field_within, header_of}
use Rattle.fields.specs.Parts.{Field, value_of, blocks_there, is_step, step_of, chosen, job_steps, row_of, is_row, job_rows, last_tag_from, last_tag}
use Rattle.fields.specs.Grammar.{most_steps, floor_kind, rows_kind, step_follows, row_follows, counts_follow, blocks_follow, may_follow, length_right}
use Rattle.fields.specs.Reading.{header_refusal}
use Rattle.fields.specs.declared.Header.{Header}

-- no field has the tag t
pub Absent : ℕ → List Field → Type 0
Absent t [] = Unit {0}
Absent t (f ∷ fields) = (f.tag ≡ t → ⊥) × Absent t fields

pub value_absent : (t : ℕ) (fields : List Field) → Absent t fields → value_of t fields ≡ []
unfolding Absent value_of
value_absent t [] a = refl
value_absent t (g ∷ fields) a = rw (ne_eqb g.tag t a.0) (value_absent t fields a.1)

module _ (f : Field) where
  pub absent_more : (t : ℕ) (fields : List Field) → Absent t fields → (f.tag ≡ t → ⊥) → Absent t (fields ++ (f ∷ []))
  unfolding Absent
  absent_more t [] a other = (other, tt)
  absent_more t (g ∷ fields) a other = (a.0, absent_more t fields a.1 other)

  pub value_new : (t : ℕ) (fields : List Field) → Absent t fields → f.tag ≡ t → value_of t (fields ++ (f ∷ [])) ≡ f.value
  unfolding Absent value_of
  value_new t [] a same = rw (eq-eqb f.tag t same)
  value_new t (g ∷ fields) a same = rw (ne_eqb g.tag t a.0) (value_new t fields a.1 same)

  pub value_other : (t : ℕ) (fields : List Field) → (f.tag ≡ t → ⊥) → value_of t (fields ++ (f ∷ [])) ≡ value_of t fields
  unfolding value_of
  value_other t [] other = rw (ne_eqb f.tag t other)
  value_other t (g ∷ fields) other = ap (λ (v : List ℕ). cond (eqb g.tag t) g.value v) (value_other t fields other)

  pub blocks_new : (fields : List Field) → f.tag ≡ 8 → blocks_there (fields ++ (f ∷ [])) ≡ true
  unfolding blocks_there
  blocks_new [] same = rw (eq-eqb f.tag 8 same)
  blocks_new (g ∷ fields) same = rw (blocks_new fields same) (or-true (eqb g.tag 8))

  pub blocks_same : (fields : List Field) → (f.tag ≡ 8 → ⊥) → blocks_there (fields ++ (f ∷ [])) ≡ blocks_there fields
  unfolding blocks_there
  blocks_same [] other = rw (ne_eqb f.tag 8 other)
  blocks_same (g ∷ fields) other = ap (λ (t : Bool). eqb g.tag 8 || t) (blocks_same fields other)

  -- one more of the fields whose tag passes a test, or none
  module _ (test : ℕ → Bool) where
    chosen_more : (fields : List Field) → test f.tag ≡ true → chosen test (fields ++ (f ∷ [])) ≡ chosen test fields ++ (f ∷ [])
    unfolding chosen
    chosen_more [] is = rw is
    chosen_more (g ∷ fields) is = go (test g.tag) (chosen_more fields is)
      where
        go : (t : Bool) → chosen test (fields ++ (f ∷ [])) ≡ chosen test fields ++ (f ∷ []) → cond t (g ∷ chosen test (fields ++ (f ∷ []))) (chosen test (fields ++ (f ∷ []))) ≡ cond t (g ∷ chosen test fields) (chosen test fields) ++ (f ∷ [])
        go true e = ap (λ (l : List Field). g ∷ l) e
        go false e = e

    chosen_kept : (fields : List Field) → test f.tag ≡ false → chosen test (fields ++ (f ∷ [])) ≡ chosen test fields
    unfolding chosen
    chosen_kept [] is = rw is
    chosen_kept (g ∷ fields) is = ap (λ (l : List Field). cond (test g.tag) (g ∷ l) l) (chosen_kept fields is)

  pub step_more : (fields : List Field) → is_step f.tag ≡ true → job_steps (fields ++ (f ∷ [])) ≡ job_steps fields ++ (step_of f ∷ [])
  unfolding job_steps
  step_more fields is = ap (map step_of) (chosen_more is_step fields is) ∙ map-append step_of (chosen is_step fields) (f ∷ [])

  pub steps_kept : (fields : List Field) → is_step f.tag ≡ false → job_steps (fields ++ (f ∷ [])) ≡ job_steps fields
  unfolding job_steps
  steps_kept fields is = ap (map step_of) (chosen_kept is_step fields is)

  pub row_more : (fields : List Field) → is_row f.tag ≡ true → job_rows (fields ++ (f ∷ [])) ≡ job_rows fields ++ (row_of f ∷ [])
  unfolding job_rows
  row_more fields is = ap (map row_of) (chosen_more is_row fields is) ∙ map-append row_of (chosen is_row fields) (f ∷ [])

  pub rows_kept : (fields : List Field) → is_row f.tag ≡ false → job_rows (fields ++ (f ∷ [])) ≡ job_rows fields
  unfolding job_rows
  rows_kept fields is = ap (map row_of) (chosen_kept is_row fields is)

  last_from : (t : ℕ) (fields : List Field) → last_tag_from t (fields ++ (f ∷ [])) ≡ f.tag
  unfolding last_tag_from
  last_from t [] = refl
  last_from t (g ∷ fields) = last_from g.tag fields

  pub last_more : (fields : List Field) → last_tag (fields ++ (f ∷ [])) ≡ f.tag
  unfolding last_tag
  last_more fields = last_from 0 fields

-- a field's refusals in order: 13 whatever the tag and the length are, 14 whatever the length is
pub thirteen : (h : Option Header) (kind last steps sizes : ℕ) → h ≡ None → header_refusal h kind last steps sizes ≡ 13
unfolding header_refusal
thirteen h kind last steps sizes past_the_end = rw past_the_end

module _ (h : Header) (kind last steps sizes : ℕ) where
  pub fourteen : may_follow kind last steps h.tag ≡ false → header_refusal (Some h) kind last steps sizes ≡ 14
  unfolding header_refusal
  fourteen out-of-place = rw out-of-place

  module _ (in_place : may_follow kind last steps h.tag ≡ true) where
    pub fifteen : length_right sizes h.tag h.length ≡ false → header_refusal (Some h) kind last steps sizes ≡ 15
    unfolding header_refusal
    fifteen wrong = rw (in_place, wrong)

    pub fine_field : length_right sizes h.tag h.length ≡ true → header_refusal (Some h) kind last steps sizes ≡ 0
    unfolding header_refusal
    fine_field right = rw (in_place, right)

-- the first field of a rest, which is not refused
pub record Passed (rest : List ℕ) (kind last steps sizes : ℕ) : Type 0 where
  pub within : field_within rest ≡ true
  pub follows : may_follow kind last steps (field_tag rest) ≡ true
  pub right : length_right sizes (field_tag rest) (field_length rest) ≡ true

pub passed : (rest : List ℕ) (kind last steps sizes : ℕ) → header_refusal (header_of rest) kind last steps sizes ≡ 0 → Passed rest kind last steps sizes
unfolding header_refusal header_of
passed rest kind last steps sizes = go (field_within rest) refl
  where
    go : (test : Bool) → field_within rest ≡ test → header_refusal (cond test (Some (record { tag = field_tag rest; length = field_length rest })) None) kind last steps sizes ≡ 0 → Passed rest kind last steps sizes
    go false is fine = absurd (omega (arith, fine))
    go true is fine =
        let one = not_refused (not (may_follow kind last steps (field_tag rest))) 14 _ (omega arith) fine in
        let two = not_refused (not (length_right sizes (field_tag rest) (field_length rest))) 15 0 (omega arith) one.1 in
        record { within = is; follows = not-false _ one.0; right = not-false _ two.0 }

-- one of two numbers
either : (n a b : ℕ) → (eqb n a || eqb n b) ≡ true → (n ≡ a) ⊎ (n ≡ b)
either n a b = go (eqb n a) refl
  where
    go : (test : Bool) → eqb n a ≡ test → (test || eqb n b) ≡ true → (n ≡ a) ⊎ (n ≡ b)
    go true first e = inl (eqb-true n a first)
    go false first e = inr (eqb-true n b e)

-- a step's tag is 4 or 5
pub step_tags : (tag : ℕ) → is_step tag ≡ true → (tag ≡ 4) ⊎ (tag ≡ 5)
unfolding is_step
step_tags tag is = either tag 4 5 is

pub step_is : (tag : ℕ) → (tag ≡ 4) ⊎ (tag ≡ 5) → is_step tag ≡ true
unfolding is_step
step_is tag (inl four) = rw four
step_is tag (inr five) = rw five

pub no_step_lem : (tag : ℕ) → (tag ≡ 4 → ⊥) → (tag ≡ 5 → ⊥) → is_step tag ≡ false
unfolding is_step
no_step_lem tag four five = rw (ne_eqb tag 4 four, ne_eqb tag 5 five)

pub row_tag_is : (tag : ℕ) → tag ≡ 6 → is_row tag ≡ true
unfolding is_row
row_tag_is tag e = eq-eqb tag 6 e

pub tag_is_six : (tag : ℕ) → is_row tag ≡ true → tag ≡ 6
unfolding is_row
tag_is_six tag e = eqb-true tag 6 e

pub no_row_lem : (tag : ℕ) → (tag ≡ 6 → ⊥) → is_row tag ≡ false
unfolding is_row
no_row_lem tag e = ne_eqb tag 6 e

-- a tag that may follow: the next of 1, 2 and 3, a row, counts behind sizes, blocks behind these or counts, or a step behind fewer than eight
pub record Followed (last steps tag : ℕ) : Type 0 where
  pub known : (1 ≤ tag) × (tag ≤ 8)
  pub low : tag < 4 → tag ≡ suc last
  pub counts : tag ≡ 7 → last ≡ 3
  pub blocks : tag ≡ 8 → (last ≡ 3) ⊎ (last ≡ 7)
  pub step : (tag ≡ 4) ⊎ (tag ≡ 5) → steps < most_steps

module _ (last steps tag : ℕ) where
  next_tag : tag ≡ suc last → last < 3 → Followed last steps tag
  next_tag e l = record { known = omega arith; low = λ _. e; counts = λ m. absurd (omega arith); blocks = λ m. absurd (omega arith); step = λ m. absurd (⊎_elim (λ four. omega arith) (λ five. omega arith) m) }

  step_tag : step_follows steps tag ≡ true → Followed last steps tag
  unfolding step_follows
  step_tag e =
      let parts = (and-eq-true_iff (is_step tag) (ltb steps most_steps)).0 e in
      let range : (4 ≤ tag) × (tag ≤ 5) = ⊎_elim (λ four. omega arith) (λ five. omega arith) (step_tags tag parts.0) in
      record { known = omega arith; low = λ l. absurd (omega arith); counts = λ seven. absurd (omega arith); blocks = λ eight. absurd (omega arith); step = λ _. ltb-true steps most_steps parts.1 }

  row_tag : row_follows last tag ≡ true → Followed last steps tag
  unfolding row_follows
  row_tag e =
      let six = tag_is_six tag ((and-eq-true_iff (not (is_step last)) (is_row tag)).0 e).1 in
      record { known = omega arith; low = λ l. absurd (omega arith); counts = λ seven. absurd (omega arith); blocks = λ eight. absurd (omega arith); step = λ m. absurd (⊎_elim (λ four. omega arith) (λ five. omega arith) m) }

  counts_tag : (kind : ℕ) → counts_follow kind last tag ≡ true → Followed last steps tag
  unfolding counts_follow
  counts_tag kind e =
      let parts = (and-eq-true_iff (eqb last 3) (eqb tag 7)).0 ((and-eq-true_iff (eqb kind floor_kind) (eqb last 3 && eqb tag 7)).0 e).1 in
      let three = eqb-true last 3 parts.0 in
      let seven = eqb-true tag 7 parts.1 in
      record { known = omega arith; low = λ l. absurd (omega arith); counts = λ _. three; blocks = λ eight. absurd (omega arith); step = λ m. absurd (⊎_elim (λ four. omega arith) (λ five. omega arith) m) }

  blocks_tag : (kind : ℕ) → blocks_follow kind last tag ≡ true → Followed last steps tag
  unfolding blocks_follow
  blocks_tag kind e =
      let parts = (and-eq-true_iff (eqb last 3 || eqb last 7) (eqb kind floor_kind && eqb tag 8)).0 e in
      let eight = eqb-true tag 8 ((and-eq-true_iff (eqb kind floor_kind) (eqb tag 8)).0 parts.1).1 in
      record { known = omega arith; low = λ l. absurd (omega arith); counts = λ seven. absurd (omega arith); blocks = λ _. either last 3 7 parts.0; step = λ m. absurd (⊎_elim (λ four. omega arith) (λ five. omega arith) m) }

  -- what one test or another lets follow
  or_else : (one other : Bool) → (one ≡ true → Followed last steps tag) → (other ≡ true → Followed last steps tag) → (one || other) ≡ true → Followed last steps tag
  or_else true other here there e = here refl
  or_else false other here there e = there e

  -- behind tag 1, by the kind
  behind_first : (kind : ℕ) (test : Bool) → (last < 1 → ⊥) → cond test (row_follows last tag || step_follows steps tag) (cond (eqb last 1) (eqb tag 2) (cond (eqb last 2) (eqb tag 3) (counts_follow kind last tag || blocks_follow kind last tag || step_follows steps tag))) ≡ true → Followed last steps tag
  behind_first kind true some e = or_else (row_follows last tag) (step_follows steps tag) row_tag step_tag e
  behind_first kind false some e = go (cases_lt last 2) (cases_lt last 3)
    where
      go : (last < 2) ⊎ (2 ≤ last) → (last < 3) ⊎ (3 ≤ last) → Followed last steps tag
      go (inl l) d = next_tag (omega (arith, eqb-true tag 2 (rw (eq-eqb last 1 (omega arith)) at e))) (omega arith)
      go (inr a) (inl l) = next_tag (omega (arith, eqb-true tag 3 (rw (ne_eqb last 1 (omega arith), eq-eqb last 2 (omega arith)) at e))) (omega arith)
      go (inr a) (inr l) =
          or_else (counts_follow kind last tag || blocks_follow kind last tag) (step_follows steps tag)
          (or_else (counts_follow kind last tag) (blocks_follow kind last tag) (counts_tag kind) (blocks_tag kind))
          step_tag
          (rw (ne_eqb last 1 (omega arith), ne_eqb last 2 (omega arith)) at e)

  pub follows : (kind : ℕ) → may_follow kind last steps tag ≡ true → Followed last steps tag
  unfolding may_follow
  follows kind e =
      ⊎_elim
      (λ l. next_tag (omega (arith, eqb-true tag 1 (rw (eq-eqb last 0 (omega arith)) at e))) (omega arith))
      (λ m. behind_first kind (eqb kind rows_kind) (λ l. omega arith) (rw (ne_eqb last 0 (omega arith)) at e))
      (cases_lt last 1)

-- no other number follows, so that a header with it is refused by 14
module _ (h : Header) (unknown : (1 ≤ h.tag) × (h.tag ≤ 8) → ⊥) where
  never : (kind last steps : ℕ) → may_follow kind last steps h.tag ≡ false
  never kind last steps = go (may_follow kind last steps h.tag) refl
    where
      go : (may : Bool) → may_follow kind last steps h.tag ≡ may → may ≡ false
      go true e = absurd (unknown (follows last steps h.tag kind e).known)
      go false e = refl

  pub unknown_refused : (kind last steps sizes : ℕ) → header_refusal (Some h) kind last steps sizes ≡ 14
  unfolding header_refusal
  unknown_refused kind last steps sizes = rw (never kind last steps) refl

-- tags 1, 2 and 3 that are behind the last one have not come yet, no counts before a tag over 3, and no blocks before a tag over 3 but counts
pub record Ordered (fields : List Field) : Type 0 where
  pub absent : (t : ℕ) → last_tag fields < t → t < 4 → Absent t fields
  pub uncounted : last_tag fields < 4 → Absent 7 fields
  pub undivided : (last_tag fields < 4) ⊎ (last_tag fields ≡ 7) → Absent 8 fields

pub ordered_none : Ordered []
unfolding Absent
ordered_none = record { absent = λ t l m. tt; uncounted = λ l. tt; undivided = λ l. tt }

module _ (fields : List Field) (f : Field) (kind steps : ℕ) (o : Ordered fields) (may : may_follow kind (last_tag fields) steps f.tag ≡ true) where
  followed : Followed (last_tag fields) steps f.tag
  followed = follows (last_tag fields) steps f.tag kind may

  pub follows_new : (f.tag < 4) ⊎ (7 ≤ f.tag) → Absent f.tag fields
  follows_new (inl l) = o.absent f.tag (omega (arith, followed.low l)) l
  follows_new (inr late) = ⊎_elim (λ l. counts (omega arith)) (λ m. blocks (omega (arith, followed.known))) (cases_lt f.tag 8)
    where
      counts : f.tag ≡ 7 → Absent f.tag fields
      counts seven = rw seven (o.uncounted (omega (arith, followed.counts seven)))

      blocks : f.tag ≡ 8 → Absent f.tag fields
      blocks eight = rw eight (o.undivided (⊎_elim (λ three. inl (omega arith)) (λ seven. inr seven) (followed.blocks eight)))

  pub sizes_uncounted : f.tag ≡ 3 → value_of 7 fields ≡ []
  sizes_uncounted three = value_absent 7 fields (o.uncounted (omega (arith, followed.low (omega arith))))

  pub ordered_more : Ordered (fields ++ (f ∷ []))
  ordered_more =
      record {
        absent = λ t l m.
            let behind : f.tag < t = omega (arith, last_more f fields) in
            absent_more f t fields (o.absent t (omega (arith, followed.low (omega arith))) m) (λ same. omega arith);
        uncounted = λ l.
            let low : f.tag < 4 = omega (arith, last_more f fields) in
            absent_more f 7 fields (o.uncounted (omega (arith, followed.low low))) (λ same. omega arith);
        undivided = λ l.
            let early : last_tag fields < 4 = ⊎_elim (λ low. omega (arith, last_more f fields, followed.low (omega (arith, last_more f fields)))) (λ seven. omega (arith, followed.counts (omega (arith, last_more f fields)))) l in
            absent_more f 8 fields (o.undivided (inl early)) (λ same. ⊎_elim (λ low. omega (arith, last_more f fields)) (λ seven. omega (arith, last_more f fields)) l);
      }
