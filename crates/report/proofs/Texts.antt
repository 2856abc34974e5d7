-- The lines of a text, one after the other, and the whole text.
use mathlib.Core.Path.{◌≡◌, ap, sym, ◌∙◌}
use mathlib.Core.Bool.{Bool, true, false}
use mathlib.Core.List.{List, [], ◌∷◌, ◌++◌, append_assoc, append-nil}
use Prim.Native.Nat.{ℕ, ◌+◌, ◌^◌, ◌≤◌, ◌<◌}
use native.Mathlib.Numerals.{add-one}
use native.Mathlib.Omega.{arith}
use borrow.Author.Tests.{eq-eqb, ne_eqb}
use lib.ListN.{length, get_or, take, length-take}
use lib.Seq.{take-suc}
use Rattle.tables.specs.Check.{most_entries}
use Rattle.fields.specs.Parts.{Step, Row, job_steps, job_rows}
use Rattle.fields.specs.Grammar.{most_sizes, rows_kind}
use Rattle.fields.specs.Record.{no_row}
use Rattle.chains.specs.Judge.{Judgement}
use Rattle.jobs.specs.Job.{fields_in, is_divided}
use Rattle.floors.specs.Floor.{job_block_floors}
use Rattle.floors.specs.declared.FloorAnswer.{FloorAnswer}
use Rattle.cuts.specs.Cut.{row_images, row_scale}
use Rattle.cuts.specs.declared.CutAnswer.{CutAnswer}
use Rattle.report.specs.Text.{decimal, values_text, line, floor_word, sum_word, scale_word, images_word, blocks_word, refused_word, list_word, cut_text, row_text, rows_text, floor_text, blocks_text, row_values, refused_text, fourth_byte, hand_over_text}
use Rattle.report.specs.Put.{Put}
use Rattle.report.specs.Answer.{Told, FloorLeft, CutLeft, TextPut}
use Rattle.report.proofs.Lengths.{floor_length, cut_length, rows_length, refused_length}
use Rattle.report.proofs.Puts.{put_none, put_then, put_within}
use Rattle.report.proofs.Values.{values_none, value_put}

pub cut_put : {old a new : List ℕ} {at i end : ℕ} (scale : ℕ) (images : List ℕ) → Put old at (line scale_word (scale ∷ [])) a i → Put a i (line images_word images) new end → Put old at (cut_text scale images) new end
unfolding cut_text
cut_put scale images p q = put_then p q

pub floor_put : {old a b new : List ℕ} {i j end : ℕ} (answer : FloorAnswer) (images : List ℕ) → Put old 0 (line floor_word (answer.floor ∷ [])) a i → Put a i (line sum_word (answer.sum ∷ [])) b j → Put b j (cut_text answer.scale images) new end → Put old 0 (floor_text answer images) new end
unfolding floor_text
floor_put answer images p q r = put_then p (put_then q r)

-- the blocks of a list that is divided, and none
pub blocks_none : (old : List ℕ) (at : ℕ) (divided : Bool) (floors : List ℕ) → at ≤ length old → divided ≡ false → Put old at (blocks_text divided floors) old at
unfolding blocks_text
blocks_none old at divided floors l none = rw none (put_none old at l)

pub blocks_some : {old new : List ℕ} {at end : ℕ} (divided : Bool) (floors : List ℕ) → divided ≡ true → Put old at (line blocks_word floors) new end → Put old at (blocks_text divided floors) new end
unfolding blocks_text
blocks_some divided floors some p = rw some p

-- the cuts of the first rows, and one more
module _ (S : List Step) where
  pub rows_none : (old : List ℕ) → Put old 0 (rows_text S []) old 0
  unfolding rows_text
  rows_none old = put_none old 0 (omega arith)

  rows_more : (rows : List Row) (r : Row) → rows_text S (rows ++ (r ∷ [])) ≡ rows_text S rows ++ row_text S r
  unfolding rows_text
  rows_more [] r = append-nil (row_text S r)
  rows_more (g ∷ rows) r =
      ap (λ (l : List ℕ). row_text S g ++ l) (rows_more rows r)
      ∙ sym (append_assoc (row_text S g) (rows_text S rows) (row_text S r))

  pub rows_next : {old out new : List ℕ} {next end : ℕ} (rows : List Row) (k : ℕ) → k < length rows → Put old 0 (rows_text S (take k rows)) out next → Put out next (cut_text (row_scale S (get_or rows k no_row)) (row_images S (get_or rows k no_row))) new end → Put old 0 (rows_text S (take (k + 1) rows)) new end
  unfolding row_text
  rows_next rows k l p q = rw (add-one k, take-suc rows k no_row l, rows_more (take k rows) (get_or rows k no_row)) (put_then p q)

-- a refusal's line, and for 11 alone the list's
pub row_none : (old : List ℕ) (at fourth row : ℕ) → at ≤ length old → (fourth ≡ rows_kind → ⊥) → Put old at (values_text (row_values fourth row)) old at
unfolding row_values
row_none old at fourth row l other = rw (ne_eqb fourth rows_kind other) (values_none old at l)

pub row_some : {old new : List ℕ} {at end : ℕ} (fourth row : ℕ) → fourth ≡ rows_kind → Put old at (32 ∷ decimal row) new end → Put old at (values_text (row_values fourth row)) new end
unfolding row_values
row_some fourth row three p = rw (eq-eqb fourth rows_kind three) (value_put row p)

module _ (fourth number row step : ℕ) (list : List ℕ) where
  abbrev values : List ℕ
  values = number ∷ (row_values fourth row ++ (step ∷ []))

  abbrev refusal : Judgement
  refusal = record { number = number; row = row; step = step; list = list }

  pub refused_one : {old new : List ℕ} {end : ℕ} → (number ≡ 11 → ⊥) → Put old 0 (line refused_word values) new end → Put old 0 (refused_text fourth refusal) new end
  unfolding refused_text
  refused_one {old} {new} {end} other p = rw (ne_eqb number 11 other) (put_then p (put_none new end (omega (arith, put_within p))))

  pub refused_two : {old out new : List ℕ} {next end : ℕ} → number ≡ 11 → Put old 0 (line refused_word values) out next → Put out next (line list_word list) new end → Put old 0 (refused_text fourth refusal) new end
  unfolding refused_text
  refused_two eleven p q = rw (eq-eqb number 11 eleven) (put_then p q)

-- as many numbers of the list buffer as an answer says
pub refused_told : {job : List ℕ} {number row step n : ℕ} {list : List ℕ} → Told job number row step n list → (number ≡ 0 → ⊥) → (length (take n list) ≤ most_entries) × (hand_over_text job ≡ refused_text (fourth_byte job) (record { number = number; row = row; step = step; list = take n list }))
refused_told {n = n} {list = list} told some = (omega (arith, length-take n list, told.list_most), told.text_refused some)

-- the whole text, of numbers of 64 bits and lists of numbers of 32 bits: a refusal
pub refused_put : {old new : List ℕ} {end : ℕ} (job : List ℕ) (number row step : ℕ) (list : List ℕ) → (length list ≤ most_entries) × (hand_over_text job ≡ refused_text (fourth_byte job) (record { number = number; row = row; step = step; list = list })) → number < 2 ^ 64 → row < 2 ^ 64 → step < 2 ^ 64 → ((i : ℕ) → get_or list i 0 < 2 ^ 32) → Put old 0 (refused_text (fourth_byte job) (record { number = number; row = row; step = step; list = list })) new end → TextPut old (hand_over_text job) new end
refused_put job number row step list told m r s small put =
    rw told.1
    (record { put = put; short = refused_length (fourth_byte job) number row step list m r s told.0 small })

-- a floor
pub floor_answer_put : {old out new : List ℕ} {next end : ℕ} (job : List ℕ) (answer : FloorAnswer) (images list blocks : List ℕ) → FloorLeft job answer images list blocks → answer.number ≡ 0 → answer.floor < 2 ^ 64 → answer.sum < 2 ^ 64 → answer.scale < 2 ^ 64 → ((i : ℕ) → get_or images i 0 < 2 ^ 32) → ((i : ℕ) → get_or blocks i 0 < 2 ^ 32) → Put old 0 (floor_text answer (take answer.n images)) out next → Put out next (blocks_text (is_divided (fields_in job)) (job_block_floors (fields_in job))) new end → TextPut old (hand_over_text job) new end
floor_answer_put job answer images list blocks left none f s e small low put then =
    let held = left.blocks_held none in
    rw (left.text_accepted none)
    (record {
      put = put_then put then;
      short = floor_length answer images f s e left.images_most small (is_divided (fields_in job)) (job_block_floors (fields_in job)) held.more_floors (rw held.floors_held at left.blocks_most) (rw held.floors_held at low);
    })

-- the cut of one row, or of each of many
module _ {old new : List ℕ} {end : ℕ} (job : List ℕ) (answer : CutAnswer) (images list scales : List ℕ) (left : CutLeft job answer images list scales) (none : answer.number ≡ 0) (small : (i : ℕ) → get_or images i 0 < 2 ^ 32) where
  pub one_put : (fourth_byte job ≡ rows_kind → ⊥) → answer.scale < 2 ^ 64 → Put old 0 (cut_text answer.scale (take answer.n images)) new end → TextPut old (hand_over_text job) new end
  one_put other e put =
      rw (left.text_of_one none other)
      (record { put = put; short = omega (arith, cut_length answer.scale images answer.n most_sizes e left.images_most small) })

  pub rows_put : (kind : fourth_byte job ≡ rows_kind) → ((i : ℕ) → get_or scales i 0 < 2 ^ 32) → Put old 0 (rows_text (job_steps (fields_in job)) (job_rows (fields_in job))) new end → TextPut old (hand_over_text job) new end
  rows_put kind scaled put =
      let held = left.rows_held none kind in
      let short = rows_length (job_steps (fields_in job)) (job_rows (fields_in job)) held.more_images held.more_scales (rw held.images_held at small) (rw held.scales_held at scaled) in
      rw (left.text_of_rows none kind)
      (record { put = put; short = omega (arith, short, held.rows_most, held.coefficients_most) })
