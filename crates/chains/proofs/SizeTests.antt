-- The tests of sizes and of counts, number by number.
use mathlib.Core.Path.{◌≡◌, refl, ap, sym, ◌∙◌}
use mathlib.Core.Bool.{Bool, true, ◌&&◌, and-eq-true_iff}
use mathlib.Core.List.{List, [], ◌∷◌, map}
use Prim.Native.Nat.{ℕ, zero, suc, ◌≤◌, ◌<◌}
use native.Mathlib.Omega.{arith}
use borrow.Author.Tests.{leb-true}
use lib.Dec.{leb}
use lib.ListN.{length, get_or, replicate}
use Rattle.std.specs.List.{list_all}
use Rattle.std.proofs.lemmas.List.Folds.{list_all-map}
use Rattle.fields.specs.Parts.{counts_for}
use Rattle.chains.specs.Sizes.{each, sizes_within, counts_positive}

-- the definition's test of each number is the library's
pub each_is_all : (test : ℕ → Bool) (xs : List ℕ) → each test xs ≡ list_all test xs
unfolding each
each_is_all test [] = refl
each_is_all test (x ∷ xs) = ap (λ (rest : Bool). test x && rest) (each_is_all test xs)

-- and so it is of numbers that are read chunk by chunk
module _ (test : ℕ → Bool) (read : List ℕ → ℕ) (chunks : List (List ℕ)) where
  pub each_of_chunks : (numbers : List ℕ) → map read chunks ≡ numbers → list_all (λ chunk. test (read chunk)) chunks ≡ each test numbers
  each_of_chunks numbers is = sym (list_all-map test read chunks) ∙ ap (list_all test) is ∙ sym (each_is_all test numbers)

-- sizes that pass are within the capacity
pub sizes_most : (least c : ℕ) (sizes : List ℕ) → sizes_within least c sizes ≡ true → (i : ℕ) → i < length sizes → get_or sizes i 0 ≤ c
unfolding each
sizes_most least c [] e i l = absurd (omega arith)
sizes_most least c (x ∷ sizes) e zero l = leb-true x c ((and-eq-true_iff (leb least x) (leb x c)).0 ((and-eq-true_iff (leb least x && leb x c) (sizes_within least c sizes)).0 e).0).1
sizes_most least c (x ∷ sizes) e (suc i) l = sizes_most least c sizes ((and-eq-true_iff (leb least x && leb x c) (sizes_within least c sizes)).0 e).1 i (omega arith)

-- ones are not 0, so that the counts given decide
ones_positive : (n : ℕ) → counts_positive (replicate n 1) ≡ true
unfolding each
ones_positive zero = refl
ones_positive (suc n) = ones_positive n

pub given_positive : (given : List ℕ) (n : ℕ) → counts_positive (counts_for given n) ≡ counts_positive given
unfolding each counts_for
given_positive [] n = ones_positive n
given_positive (k ∷ given) n = refl
