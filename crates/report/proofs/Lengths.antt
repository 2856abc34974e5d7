-- How long a text is.
use Rattle.std.proofs.lemmas.Bool.{cases_lt}
use mathlib.Core.Path.{◌≡◌, ap, ◌∙◌}
use mathlib.Core.Logic.{◌⊎◌, inl, inr}
use mathlib.Core.Bool.{Bool, true, false, cond}
use mathlib.Core.List.{List, [], ◌∷◌, ◌++◌, map, append_assoc}
use Prim.Native.Nat.{ℕ, zero, suc, ◌+◌, ◌*◌, ◌/◌, ◌%◌, ◌^◌, ◌≤◌, ◌<◌}
use native.Mathlib.Nat.{pow-suc}
use native.Mathlib.Omega.{arith}
use borrow.Author.Tests.{lt-ltb, le-ltb}
use lib.Dec.{eqb}
use lib.ListN.{length, get_or, take, length-append, length-take}
use lib.Seq.{take-append_seam, get_or-append-add}
use Rattle.tables.specs.Check.{most_entries}
use Rattle.fields.specs.Parts.{Step, Row, coefficient_count}
use Rattle.fields.specs.Grammar.{most_sizes, most_blocks, rows_kind}
use Rattle.floors.specs.declared.FloorAnswer.{FloorAnswer}
use Rattle.cuts.specs.Cut.{row_images, row_scale, rows_images}
use Rattle.cuts.proofs.Writing.{row_count}
use Rattle.report.specs.Text.{most_digits, digits, decimal, values_text, line, floor_word, sum_word, scale_word, images_word, blocks_word, refused_word, list_word, cut_text, row_text, rows_text, floor_text, blocks_text, row_values, refused_text, most_text}

digits_short : (j k n : ℕ) → n < 10 ^ suc k → length (digits j n) ≤ suc k
unfolding digits
digits_short zero k n l = omega arith
digits_short (suc j) k n l = go (cases_lt n 10) k l (λ k. digits_short j k (n / 10))
  where
    go : (n < 10) ⊎ (10 ≤ n) → (k : ℕ) → n < 10 ^ suc k → ((k : ℕ) → n / 10 < 10 ^ suc k → length (digits j (n / 10)) ≤ suc k) → length (digits (suc j) n) ≤ suc k
    go (inl one) k l before = rw (lt-ltb n 10 one) (omega arith)
    go (inr more) zero l before = absurd (omega (arith, l, more))
    go (inr more) (suc k) l before =
        rw (le-ltb n 10 more) (omega (arith, length-append (digits j (n / 10)) ((48 + n % 10) ∷ []), before k (omega (arith, l, pow-suc 10 (suc k)))))

-- a number below 10 ^ k has at most k digits
decimal_short : (k n : ℕ) → n < 10 ^ suc k → length (decimal n) ≤ suc k
unfolding decimal
decimal_short k n l = digits_short (suc n) k n l

-- values of at most k digits each
values_length : (k : ℕ) (values : List ℕ) → ((i : ℕ) → get_or values i 0 < 10 ^ suc k) → length (values_text values) ≤ (k + 2) * length values
unfolding values_text
values_length k [] small = omega arith
values_length k (v ∷ values) small =
    omega (arith, length-append (32 ∷ decimal v) (values_text values), decimal_short k v (small 0), values_length k values (λ i. small (suc i)))

line_length : (word values : List ℕ) → length (line word values) ≡ length word + (length (values_text values) + 1)
unfolding line
line_length word values = length-append word _ ∙ ap (λ (n : ℕ). length word + n) (length-append (values_text values) _)

number_length : (word : List ℕ) (v : ℕ) → v < 2 ^ 64 → length (line word (v ∷ [])) ≤ length word + 22
number_length word v l = omega (arith, line_length word (v ∷ []), values_length 19 (v ∷ []) first)
  where
    first : (i : ℕ) → get_or (v ∷ []) i 0 < 10 ^ most_digits
    first zero = omega arith
    first (suc i) = omega arith

taken : (n i : ℕ) (values : List ℕ) → get_or values i 0 < 2 ^ 32 → get_or (take n values) i 0 < 10 ^ 10
taken zero i values l = omega arith
taken (suc n) i [] l = omega arith
taken (suc n) zero (v ∷ values) l = omega arith
taken (suc n) (suc i) (v ∷ values) l = taken n i values l

list_length : (word values : List ℕ) (n most : ℕ) → length values ≤ most → ((i : ℕ) → get_or values i 0 < 2 ^ 32) → length (line word (take n values)) ≤ length word + 11 * most + 1
list_length word values n most l small =
    omega (arith, line_length word (take n values), values_length 9 (take n values) (λ i. taken n i values (small i)), length-take n values)

pub cut_length : (scale : ℕ) (images : List ℕ) (n most : ℕ) → scale < 2 ^ 64 → length images ≤ most → ((i : ℕ) → get_or images i 0 < 2 ^ 32) → length (cut_text scale (take n images)) ≤ 34 + 11 * most
unfolding cut_text
cut_length scale images n most e l small =
    omega (arith, length-append (line scale_word (scale ∷ [])) (line images_word (take n images)), number_length scale_word scale e, list_length images_word images n most l small)

-- floors of 32 bits, with something behind them in a buffer of places for each block
blocks_length : (divided : Bool) (floors more : List ℕ) → length (floors ++ more) ≤ most_blocks → ((i : ℕ) → get_or (floors ++ more) i 0 < 2 ^ 32) → length (blocks_text divided floors) ≤ 711
unfolding blocks_text
blocks_length true floors more l small = rw (take-append_seam floors more) at (list_length blocks_word (floors ++ more) (length floors) most_blocks l small)
blocks_length false floors more l small = omega arith

pub floor_length : (answer : FloorAnswer) (images : List ℕ) → answer.floor < 2 ^ 64 → answer.sum < 2 ^ 64 → answer.scale < 2 ^ 64 → length images ≤ most_sizes → ((i : ℕ) → get_or images i 0 < 2 ^ 32) → (divided : Bool) (floors more : List ℕ) → length (floors ++ more) ≤ most_blocks → ((i : ℕ) → get_or (floors ++ more) i 0 < 2 ^ 32) → length (floor_text answer (take answer.n images) ++ blocks_text divided floors) ≤ most_text
unfolding floor_text
floor_length answer images f s e l small divided floors more few low =
    let cut = cut_text answer.scale (take answer.n images) in
    omega (
      arith,
      length-append (floor_text answer (take answer.n images)) (blocks_text divided floors),
      blocks_length divided floors more few low,
      length-append (line floor_word (answer.floor ∷ [])) (line sum_word (answer.sum ∷ []) ++ cut),
      length-append (line sum_word (answer.sum ∷ [])) cut,
      number_length floor_word answer.floor f,
      number_length sum_word answer.sum s,
      cut_length answer.scale images answer.n most_sizes e l small,
    )

-- the cut of a row, of numbers of 32 bits
row_length : (scale : ℕ) (images : List ℕ) → scale < 2 ^ 32 → ((i : ℕ) → get_or images i 0 < 2 ^ 32) → length (cut_text scale images) ≤ 24 + 11 * length images
unfolding cut_text
row_length scale images e small =
    omega (
      arith,
      length-append (line scale_word (scale ∷ [])) (line images_word images),
      line_length scale_word (scale ∷ []),
      values_length 9 (scale ∷ []) first,
      line_length images_word images,
      values_length 9 images (λ i. omega (arith, small i)),
    )
  where
    first : (i : ℕ) → get_or (scale ∷ []) i 0 < 10 ^ 10
    first zero = omega arith
    first (suc i) = omega arith

-- numbers of two lists one behind the other are those of each
first_small : (a b : List ℕ) (most : ℕ) → 0 < most → ((i : ℕ) → get_or (a ++ b) i 0 < most) → (i : ℕ) → get_or a i 0 < most
first_small [] b most l small i = omega arith
first_small (x ∷ a) b most l small zero = small 0
first_small (x ∷ a) b most l small (suc i) = first_small a b most l (λ j. small (suc j)) i

behind_small : (a b : List ℕ) (most : ℕ) → ((i : ℕ) → get_or (a ++ b) i 0 < most) → (i : ℕ) → get_or b i 0 < most
behind_small a b most small i = rw (get_or-append-add a b i 0) at (small (length a + i))

pub rows_length : (S : List Step) (rows : List Row) (images scales : List ℕ) → ((i : ℕ) → get_or (rows_images S rows ++ images) i 0 < 2 ^ 32) → ((i : ℕ) → get_or (map (row_scale S) rows ++ scales) i 0 < 2 ^ 32) → length (rows_text S rows) ≤ 24 * length rows + 11 * coefficient_count rows
unfolding rows_text row_text rows_images coefficient_count
rows_length S [] images scales small scaled = omega arith
rows_length S (r ∷ rows) images scales small scaled =
    let apart : (i : ℕ) → get_or (row_images S r ++ (rows_images S rows ++ images)) i 0 < 2 ^ 32 = λ i. rw (append_assoc (row_images S r) (rows_images S rows) images) at (small i) in
    omega (
      arith,
      length-append (row_text S r) (rows_text S rows),
      row_length (row_scale S r) (row_images S r) (scaled 0) (first_small (row_images S r) (rows_images S rows ++ images) (2 ^ 32) (omega arith) apart),
      row_count S r,
      rows_length S rows images scales (behind_small (row_images S r) (rows_images S rows ++ images) (2 ^ 32) apart) (λ i. scaled (suc i)),
    )

pub refused_length : (fourth number row step : ℕ) (list : List ℕ) → number < 2 ^ 64 → row < 2 ^ 64 → step < 2 ^ 64 → length list ≤ most_entries → ((i : ℕ) → get_or list i 0 < 2 ^ 32) → length (refused_text fourth (record { number = number; row = row; step = step; list = list })) ≤ most_text
unfolding refused_text row_values
refused_length fourth number row step list m r s l small = omega (arith, length-append (line refused_word (number ∷ (row_values fourth row ++ (step ∷ [])))) (cond (eqb number 11) (line list_word list) []), first (eqb fourth rows_kind), second (eqb number 11))
  where
    three : (i : ℕ) → get_or (number ∷ row ∷ step ∷ []) i 0 < 10 ^ most_digits
    three zero = omega arith
    three (suc zero) = omega arith
    three (suc (suc zero)) = omega arith
    three (suc (suc (suc i))) = omega arith

    two : (i : ℕ) → get_or (number ∷ step ∷ []) i 0 < 10 ^ most_digits
    two zero = omega arith
    two (suc zero) = omega arith
    two (suc (suc i)) = omega arith

    first : (b : Bool) → length (line refused_word (number ∷ (cond b (row ∷ []) [] ++ (step ∷ [])))) ≤ 71
    first true = omega (arith, line_length refused_word (number ∷ row ∷ step ∷ []), values_length 19 (number ∷ row ∷ step ∷ []) three)
    first false = omega (arith, line_length refused_word (number ∷ step ∷ []), values_length 19 (number ∷ step ∷ []) two)

    second : (b : Bool) → length (cond b (line list_word list) []) ≤ 22600
    second true = omega (arith, line_length list_word list, values_length 9 list (λ i. omega (arith, small i)), l)
    second false = omega arith
