-- A list of sizes with a count for each, lent by a caller outside of a job: document 01, "Operations and what they refuse", Sweep, and document 02, requests 4 and 8.
use Rattle.std.specs.Prelude.{◌≡◌, true, cond, not, ◌||◌, List, ℕ, ◌≤◌, ltb, eqb, length}
use Rattle.fields.specs.Grammar.{most_sizes}
use Rattle.chains.specs.Sizes.{sizes_within, counts_positive}

-- 6, over 2,048 sizes or not a count for each; 17; 22
unfoldable pub counted_refusal : ℕ → List ℕ → List ℕ → ℕ
counted_refusal c sizes counts =
    cond (ltb most_sizes (length sizes) || not (eqb (length counts) (length sizes))) 6
    (cond (not (sizes_within 1 c sizes)) 17
    (cond (not (counts_positive counts)) 22 0))

-- what these refusals leave
pub record CountedList (c : ℕ) (sizes counts : List ℕ) : Type 0 where
  pub few : length sizes ≤ most_sizes
  pub one_each : length counts ≡ length sizes
  pub within : sizes_within 1 c sizes ≡ true
  pub positive : counts_positive counts ≡ true
