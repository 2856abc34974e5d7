-- A list of sizes with their counts at a capacity, document 01, "Operations and what they refuse", Job, and document 02, requests 4 and 6.
use Rattle.std.specs.Prelude.{◌≡◌, Bool, true, cond, not, ◌&&◌, List, [], ◌∷◌, ◌⊎◌, ℕ, ◌*◌, leb, length}
use Rattle.functions.specs.Words.{capacity_fits}

-- every number of a list passes a test
unfoldable pub each : (ℕ → Bool) → List ℕ → Bool
each test [] = true
each test (x ∷ xs) = test x && each test xs

-- every size is from `least` to the capacity: refusal 17 is that this is false
abbrev pub sizes_within : ℕ → ℕ → List ℕ → Bool
sizes_within least c sizes = each (λ x. leb least x && leb x c) sizes

-- no count is 0: refusal 22 is that this is false
abbrev pub counts_positive : List ℕ → Bool
counts_positive counts = each (leb 1) counts

-- the number that refuses a capacity, sizes from `least` on, their counts, or their blocks, of which `divided` says whether they divide the list, or 0
unfoldable pub list_refusal : ℕ → ℕ → List ℕ → List ℕ → Bool → ℕ
list_refusal least c sizes counts divided =
    cond (not (capacity_fits c)) 1
    (cond (not (sizes_within least c sizes)) 17
    (cond (not (counts_positive counts)) 22
    (cond (not divided) 23 0)))

-- the bytes of no counts, or of one for each of n sizes
abbrev pub NoneOrEach : List ℕ → ℕ → Type 0
NoneOrEach bytes n = (length bytes ≡ 0) ⊎ (length bytes ≡ 2 * n)
