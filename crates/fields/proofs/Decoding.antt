-- Numbers of two and of four bytes in a list of bytes.
use mathlib.Core.Path.{◌≡◌, refl, ap, ap₂, sym, ◌∙◌}
use mathlib.Core.List.{List, [], ◌∷◌, map}
use Prim.Native.Nat.{ℕ, zero, suc, ◌+◌, ◌*◌, ◌/◌, ◌<◌}
use native.Mathlib.Nat.{mul-div_right}
use native.Mathlib.Omega.{arith}
use lib.ListN.{length, get_or, take, drop, get_or-map}
use lib.Seq.{get_or-drop, get_or-take}
use Rattle.std.specs.Simd.{first_chunks}
use Rattle.std.specs.Int.{w16, w32, from_be_bytes}
use Rattle.fields.specs.Bytes.{halfword, word, numbers_from, halfwords, words}

-- a number of what is left
halfword_drop : (n at : ℕ) (bytes : List ℕ) → halfword (drop n bytes) at ≡ halfword bytes (n + at)
unfolding halfword
halfword_drop n at bytes =
    let next : n + (at + 1) ≡ n + at + 1 = omega arith in
    omega (arith, get_or-drop n bytes at 0, get_or-drop n bytes (at + 1) 0 ∙ ap (λ (m : ℕ). get_or bytes m 0) next)

word_drop : (n at : ℕ) (bytes : List ℕ) → word (drop n bytes) at ≡ word bytes (n + at)
unfolding word
word_drop n at bytes =
    let next : n + (at + 2) ≡ n + at + 2 = omega arith in
    omega (arith, halfword_drop n at bytes, halfword_drop n (at + 2) bytes ∙ ap (halfword bytes) next)

-- the numbers that a function reads in so many bytes each
module _ (number : List ℕ → ℕ → ℕ) (width : ℕ) (dropped : (n at : ℕ) (bytes : List ℕ) → number (drop n bytes) at ≡ number bytes (n + at)) where
  numbers_length : (n : ℕ) (bytes : List ℕ) → length (numbers_from number width n bytes) ≡ n
  unfolding numbers_from
  numbers_length zero bytes = refl
  numbers_length (suc n) bytes = ap suc (numbers_length n (drop width bytes))

  numbers_at : (n i : ℕ) (bytes : List ℕ) → i < n → get_or (numbers_from number width n bytes) i 0 ≡ number bytes (width * i)
  unfolding numbers_from
  numbers_at zero i bytes l = absurd (omega arith)
  numbers_at (suc n) zero bytes l = ap (number bytes) (omega arith)
  numbers_at (suc n) (suc i) bytes l =
      let place : width + width * i ≡ width * suc i = omega arith in
      numbers_at n i (drop width bytes) (omega arith) ∙ dropped width (width * i) bytes ∙ ap (number bytes) place

-- n numbers in so many times n bytes
pub record Numbers (number : List ℕ → ℕ → ℕ) (width n : ℕ) (bytes numbers : List ℕ) : Type 0 where
  pub count : length numbers ≡ n
  pub at : (i : ℕ) → i < n → number bytes (width * i) ≡ get_or numbers i 0

module _ (n : ℕ) (bytes : List ℕ) where
  pub words_are : length bytes ≡ 4 * n → Numbers word 4 n bytes (words bytes)
  unfolding words
  words_are whole =
      let count : length bytes / 4 ≡ n = ap (λ (k : ℕ). k / 4) whole ∙ mul-div_right n (omega arith) in
      rw count (record { count = numbers_length word 4 word_drop n bytes; at = λ i l. sym (numbers_at word 4 word_drop n i bytes l) })

  pub halfwords_are : length bytes ≡ 2 * n → Numbers halfword 2 n bytes (halfwords bytes)
  unfolding halfwords
  halfwords_are whole =
      let count : length bytes / 2 ≡ n = ap (λ (k : ℕ). k / 2) whole ∙ mul-div_right n (omega arith) in
      rw count (record { count = numbers_length halfword 2 halfword_drop n bytes; at = λ i l. sym (numbers_at halfword 2 halfword_drop n i bytes l) })

  pub words_length : length bytes ≡ 4 * n → length (words bytes) ≡ n
  words_length whole = (words_are whole).count

-- the numbers of chunks of bytes, for all bytes: those behind the last whole chunk count in neither. `read` gives of the first so many bytes what `number` reads there
module _ (number : List ℕ → ℕ → ℕ) (width : ℕ) (read : List ℕ → ℕ) (reads : (bytes : List ℕ) → read (take width bytes) ≡ number bytes 0) where
  numbers_in_chunks : (n : ℕ) (bytes : List ℕ) → map read (first_chunks width n bytes) ≡ numbers_from number width n bytes
  unfolding numbers_from
  numbers_in_chunks zero bytes = refl
  numbers_in_chunks (suc n) bytes = ap₂ ◌∷◌ (reads bytes) (numbers_in_chunks n (drop width bytes))

  -- the number of a loop's chunk, where these are the loop's chunks
  number_of_chunk : (n : ℕ) (bytes : List ℕ) (chunks : List (List ℕ)) → chunks ≡ first_chunks width n bytes → (i : ℕ) → read (get_or chunks i []) ≡ get_or (numbers_from number width n bytes) i (read [])
  number_of_chunk n bytes chunks front i =
      sym (get_or-map read chunks i []) ∙ ap (λ (numbers : List ℕ). get_or numbers i (read [])) (ap (map read) front ∙ numbers_in_chunks n bytes)

module _ (bytes : List ℕ) where
  halfword_read : from_be_bytes w16 (take 2 bytes) ≡ halfword bytes 0
  unfolding halfword
  halfword_read = omega (arith, get_or-take 2 bytes 0 0 (omega arith), get_or-take 2 bytes 1 0 (omega arith))

  word_read : from_be_bytes w32 (take 4 bytes) ≡ word bytes 0
  unfolding halfword word
  word_read =
      omega (arith, get_or-take 4 bytes 0 0 (omega arith), get_or-take 4 bytes 1 0 (omega arith), get_or-take 4 bytes 2 0 (omega arith), get_or-take 4 bytes 3 0 (omega arith))

module _ (bytes : List ℕ) where
  pub halfwords_in_chunks : map (from_be_bytes w16) (first_chunks 2 (length bytes / 2) bytes) ≡ halfwords bytes
  unfolding halfwords
  halfwords_in_chunks = numbers_in_chunks halfword 2 (from_be_bytes w16) halfword_read _ bytes

  pub words_in_chunks : map (from_be_bytes w32) (first_chunks 4 (length bytes / 4) bytes) ≡ words bytes
  unfolding words
  words_in_chunks = numbers_in_chunks word 4 (from_be_bytes w32) word_read _ bytes

  pub halfwords_count : length (halfwords bytes) ≡ length bytes / 2
  unfolding halfwords
  halfwords_count = numbers_length halfword 2 halfword_drop _ bytes

  pub words_count : length (words bytes) ≡ length bytes / 4
  unfolding words
  words_count = numbers_length word 4 word_drop _ bytes

  module _ (chunks : List (List ℕ)) where
    pub halfword_of_chunk : chunks ≡ first_chunks 2 (length bytes / 2) bytes → (i : ℕ) → from_be_bytes w16 (get_or chunks i []) ≡ get_or (halfwords bytes) i 0
    unfolding halfwords
    halfword_of_chunk = number_of_chunk halfword 2 (from_be_bytes w16) halfword_read _ bytes chunks

    pub word_of_chunk : chunks ≡ first_chunks 4 (length bytes / 4) bytes → (i : ℕ) → from_be_bytes w32 (get_or chunks i []) ≡ get_or (words bytes) i 0
    unfolding words
    word_of_chunk = number_of_chunk word 4 (from_be_bytes w32) word_read _ bytes chunks
