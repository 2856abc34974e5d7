-- Rows written one behind the other: where each one's images and scale stand, and the invariant of the loop that writes them.
use mathlib.Core.Path.{◌≡◌, refl, ap, sym, ◌∙◌}
use mathlib.Core.List.{List, [], ◌∷◌, ◌++◌, map, append_assoc, append-nil, map-append}
use Prim.Native.Nat.{ℕ, zero, suc, ◌+◌, ◌-◌, ◌/◌, ◌%◌, ◌^◌, ◌≤◌, ◌<◌}
use native.Mathlib.Numerals.{add-one}
use native.Mathlib.Omega.{arith}
use lib.ListN.{length, get_or, take, drop, set, length-append, length-map, length-drop, drop_of_length-le}
use lib.Seq.{take-suc, take_all, drop-cons, drop-drop, drop-append-add, take_at, drop_at, set_at, length-take-le}
use Rattle.fields.specs.Bytes.{words}
use Rattle.fields.specs.Parts.{Field, Step, Row, job_rows, coefficient_count}
use Rattle.fields.specs.Record.{Stand, RowsLeft, no_row, row_in, RowFound}
use Rattle.fields.specs.declared.JobRow.{JobRow}
use Rattle.fields.proofs.Decoding.{words_length}
use Rattle.fields.proofs.Filling.{counts_more}
use Rattle.fields.proofs.Walking.{all_left}
use Rattle.chains.specs.Apply.{ChainAppliable, ChainApplied}
use Rattle.jobs.specs.JudgeRows.{judge_row}
use Rattle.cuts.specs.Cut.{row_images, row_scale, rows_images}
use Rattle.chains.proofs.Chains.{chain_promise}
use Rattle.jobs.proofs.Judged.{row_appliable}

-- a row's coefficients mapped through the steps
module _ (S : List Step) (row : JobRow) (accepted : (judge_row S (row_in row)).number ≡ 0) where
  pub row_fits : ChainAppliable row.capacity S (words row.coefficients.now)
  unfolding row_in
  row_fits = row_appliable S (row_in row) accepted

  pub row_applied : (scale : ℕ) (images : List ℕ) → ChainApplied row.capacity S (words row.coefficients.now) scale images → (scale ≡ row_scale S (row_in row)) × (scale < 2 ^ 32) × (images ≡ row_images S (row_in row))
  unfolding row_in row_scale row_images
  row_applied scale images a =
      let promise = chain_promise S row.capacity row_fits.positive row_fits.in_limit row_fits.accepted in
      (a.scale_is, omega (arith, a.scale_is, promise.scale_within_limit), a.images_are)

-- a row has as many coefficients as its bytes say
pub row_bytes : (row : JobRow) → length row.coefficients.now % 4 ≡ 0 → length (row_in row).coefficients ≡ length row.coefficients.now / 4
unfolding row_in
row_bytes row whole = words_length (length row.coefficients.now / 4) row.coefficients.now (omega arith)

-- as many images as coefficients
pub row_count : (S : List Step) (r : Row) → length (row_images S r) ≡ length r.coefficients
unfolding row_images
row_count S r = length-map r.coefficients _

pub rows_count : (S : List Step) (rows : List Row) → length (rows_images S rows) ≡ coefficient_count rows
unfolding rows_images coefficient_count
rows_count S [] = refl
rows_count S (r ∷ rows) = length-append (row_images S r) (rows_images S rows) ∙ omega (arith, row_count S r, rows_count S rows)

-- the images of row i stand behind those of the rows before it
pub images_at : (S : List Step) (rows : List Row) (i : ℕ) (behind : List ℕ) → i < length rows → drop (coefficient_count (take i rows)) (rows_images S rows ++ behind) ≡ row_images S (get_or rows i no_row) ++ (rows_images S (drop (suc i) rows) ++ behind)
unfolding rows_images coefficient_count
images_at S [] i behind l = absurd (omega arith)
images_at S (r ∷ rows) zero behind l = append_assoc (row_images S r) (rows_images S rows) behind
images_at S (r ∷ rows) (suc i) behind l =
    ap (drop (length r.coefficients + coefficient_count (take i rows))) (append_assoc (row_images S r) (rows_images S rows) behind)
    ∙ ap (λ (n : ℕ). drop (n + coefficient_count (take i rows)) (row_images S r ++ (rows_images S rows ++ behind))) (sym (row_count S r))
    ∙ drop-append-add (row_images S r) (rows_images S rows ++ behind) (coefficient_count (take i rows))
    ∙ images_at S rows i behind (omega arith)

images_more : (S : List Step) (rows : List Row) (r : Row) → rows_images S (rows ++ (r ∷ [])) ≡ rows_images S rows ++ row_images S r
unfolding rows_images
images_more S [] r = append-nil (row_images S r)
images_more S (g ∷ rows) r = ap (λ (l : List ℕ). row_images S g ++ l) (images_more S rows r) ∙ sym (append_assoc (row_images S g) (rows_images S rows) (row_images S r))

-- the coefficients of the first rows
pub counts_first : (rows : List Row) (k : ℕ) → coefficient_count (take k rows) ≤ coefficient_count rows
unfolding coefficient_count
counts_first [] zero = omega arith
counts_first [] (suc k) = omega arith
counts_first (r ∷ rows) zero = omega arith
counts_first (r ∷ rows) (suc k) = omega (arith, counts_first rows k)

pub counts_next : (rows : List Row) (k : ℕ) → k < length rows → coefficient_count (take (suc k) rows) ≡ coefficient_count (take k rows) + length (get_or rows k no_row).coefficients
counts_next rows k l = ap coefficient_count (take-suc rows k no_row l) ∙ counts_more (take k rows) (get_or rows k no_row)

-- after k rows: the place in the image buffer, and the buffers
pub record RowsWritten (fields : List Field) (S : List Step) (images₀ scales₀ : List ℕ) (k : ℕ) (rest : List ℕ) (place : ℕ) (images scales : List ℕ) : Type 0 where
  pub left : RowsLeft fields k rest
  pub place_is : place ≡ coefficient_count (take k (job_rows fields))
  pub images_are : images ≡ rows_images S (take k (job_rows fields)) ++ drop place images₀
  pub scales_are : scales ≡ map (row_scale S) (take k (job_rows fields)) ++ drop k scales₀

module _ (fields : List Field) (S : List Step) (images₀ scales₀ : List ℕ) where
  abbrev rows : List Row
  rows = job_rows fields

  pub written_start : (job : List ℕ) → Stand job fields [] → RowsWritten fields S images₀ scales₀ 0 job 0 images₀ scales₀
  unfolding rows_images coefficient_count
  written_start job stand = record { left = all_left job fields stand; place_is = refl; images_are = refl; scales_are = refl }

  module _ (k : ℕ) (rest : List ℕ) (place : ℕ) (images scales : List ℕ) (w : RowsWritten fields S images₀ scales₀ k rest place images scales) where
    abbrev first : List ℕ
    first = rows_images S (take k rows)

    first_long : length first ≡ place
    first_long = rows_count S (take k rows) ∙ sym w.place_is

    module _ (l : k < length rows) (r : JobRow) (found : RowFound fields k r) where
      abbrev n : ℕ
      n = length (row_in r).coefficients

      one_more : take (suc k) rows ≡ take k rows ++ (row_in r ∷ [])
      one_more = take-suc rows k no_row l ∙ ap (λ (x : Row). take k rows ++ (x ∷ [])) found.row_is

      next_place : place + n ≡ coefficient_count (take (suc k) rows)
      next_place = omega (arith, w.place_is, counts_next rows k l, ap (λ (x : Row). length x.coefficients) found.row_is)

      -- a place for each of its images
      pub row_count_end : place + n ≤ coefficient_count rows
      row_count_end = omega (arith, next_place, counts_first rows (suc k))

      row_room : coefficient_count rows ≤ length images₀ → place + n ≤ length images
      row_room room =
          omega (arith, row_count_end, ap length w.images_are, length-append first (drop place images₀), first_long, length-drop place images₀)

      written_next : (tail : List ℕ) (e : ℕ) → length rows ≤ length scales₀ → tail ≡ row_images S (row_in r) ++ drop n (drop place images) → e ≡ row_scale S (row_in r) → RowsWritten fields S images₀ scales₀ (k + 1) r.rest.now (place + n) (take place images ++ tail) (set scales k e)
      written_next tail e room tail_is e-is =
          rw (add-one k)
          (record {
            left = found.behind;
            place_is = next_place;
            images_are = held;
            scales_are = scaled;
          })
        where
          kept : drop place images ≡ drop place images₀
          kept = ap (drop place) w.images_are ∙ drop_at first (drop place images₀) place first_long

          before : take place images ≡ first
          before = ap (take place) w.images_are ∙ take_at first (drop place images₀) place first_long

          held : take place images ++ tail ≡ rows_images S (take (suc k) rows) ++ drop (place + n) images₀
          held =
              rw (before, tail_is, kept, one_more, images_more S (take k rows) (row_in r), drop-drop n place images₀)
              (sym (append_assoc first (row_images S (row_in r)) (drop (place + n) images₀)))

          scaled : set scales k e ≡ map (row_scale S) (take (suc k) rows) ++ drop (suc k) scales₀
          scaled =
              ap (λ (s : List ℕ). set s k e) (w.scales_are ∙ ap (λ (d : List ℕ). map (row_scale S) (take k rows) ++ d) (drop-cons scales₀ k 0 (omega arith)))
              ∙ set_at (map (row_scale S) (take k rows)) (get_or scales₀ k 0) (drop (suc k) scales₀) e k (length-map (take k rows) (row_scale S) ∙ length-take-le k rows (omega arith))
              ∙ rw (e-is, one_more, map-append (row_scale S) (take k rows) (row_in r ∷ [])) (sym (append_assoc (map (row_scale S) (take k rows)) (row_scale S (row_in r) ∷ []) (drop (suc k) scales₀)))

      -- the same of the part from the place to the end, put back into the buffer
      pub written_put : (all : ℕ) (tail : List ℕ) (e : ℕ) → length images ≡ all → length rows ≤ length scales₀ → coefficient_count rows ≤ length images₀ → tail ≡ row_images S (row_in r) ++ drop n (take (all - place) (drop place images)) → e ≡ row_scale S (row_in r) → RowsWritten fields S images₀ scales₀ (k + 1) r.rest.now (place + n) (take place images ++ (tail ++ drop (all - place) (drop place images))) (set scales k e)
      written_put all tail e long room images-room tail_is e-is =
          let inside = row_room images-room in
          let rest_long : length (drop place images) ≡ all - place = omega (arith, length-drop place images, long) in
          let whole = take_all (all - place) (drop place images) (omega (arith, rest_long)) in
          let none = drop_of_length-le (drop place images) {i = all - place} (omega (arith, rest_long)) in
          rw (none, append-nil tail) (written_next tail e room (tail_is ∙ rw whole) e-is)

    pub same_lengths : coefficient_count rows ≤ length images₀ → length rows ≤ length scales₀ → k ≤ length rows → (length images ≡ length images₀) × (length scales ≡ length scales₀)
    same_lengths images-room room l = (
      omega (arith, ap length w.images_are, length-append first (drop place images₀), first_long, length-drop place images₀, w.place_is, counts_first rows k),
      omega (arith, ap length w.scales_are, length-append (map (row_scale S) (take k rows)) (drop k scales₀), length-map (take k rows) (row_scale S), length-take-le k rows (omega arith), length-drop k scales₀),
    )

    pub written_end : k ≡ length rows → (images ≡ rows_images S rows ++ drop (coefficient_count rows) images₀) × (scales ≡ map (row_scale S) rows ++ drop (length rows) scales₀)
    written_end e =
        let all = take_all k rows (omega arith) in
        (w.images_are ∙ rw (w.place_is, all), w.scales_are ∙ rw (all, e))
