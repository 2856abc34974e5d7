-- The fewest windows of a short list, document 02, request 8.
use Rattle.std.specs.Prelude.{◌≡◌, cond, not, List, ℕ, ◌≤◌, ◌<◌, ltb, eqb, length, take, drop, get_or}
use Rattle.functions.specs.Words.{capacity_fits, total}
use Rattle.fields.specs.Parts.{Step}
use Rattle.chains.specs.Chain.{ChainAccepted, chain_floor}
use Rattle.lists.specs.Counted.{counted_refusal}
use Rattle.jobs.specs.Packing.{copies, Fits, bins_used}
use Rattle.exact.specs.declared.ExactAnswer.{ExactAnswer}

-- the most copies in all, and the least places of the buffer for their windows
abbrev pub most_copies : ℕ
most_copies = 10

-- refusals 1, those of the list, 24 and 7, in the papers' order
unfoldable pub exact_refusal : ℕ → List ℕ → List ℕ → ℕ → ℕ
exact_refusal c sizes counts places =
    cond (not (capacity_fits c)) 1
    (cond (eqb (counted_refusal c sizes counts) 0)
    (cond (ltb most_copies (total counts)) 24 (cond (ltb places most_copies) 7 0))
    (counted_refusal c sizes counts))

-- a packing of the sizes that fits, with the bins 0 to k - 1, all of them used, where every packing that fits uses at least k
pub record Fewest (c : ℕ) (sizes : List ℕ) (k : ℕ) (bins : List ℕ) : Type 0 where
  pub fits : Fits c sizes bins
  pub below : (i : ℕ) → i < length bins → get_or bins i 0 < k
  pub uses : bins_used bins ≡ k
  pub least : (other : List ℕ) → Fits c sizes other → k ≤ bins_used other

-- these bins in the first places of a buffer, whose other places stay
pub record FewestWritten (c : ℕ) (sizes windows : List ℕ) (k : ℕ) (windows' : List ℕ) : Type 0 where
  pub fewest_is : Fewest c sizes k (take (length sizes) windows')
  pub others_stay : drop (length sizes) windows' ≡ drop (length sizes) windows

abbrev pub refused_exact : ℕ → ExactAnswer
refused_exact number = record { number = number; fewest = 0 }

-- the answer to an accepted list: the windows of its copies stand in the first places of the buffer, the other places stay, and no accepted chain's floor is above the answer
pub record ExactAccepted (c : ℕ) (sizes counts windows : List ℕ) (answer : ExactAnswer) (windows' : List ℕ) : Type 0 where
  pub number_is : answer.number ≡ 0
  pub written : FewestWritten c (copies counts sizes) windows answer.fewest windows'
  pub floors_below : (steps : List Step) → ChainAccepted c steps → chain_floor c steps counts sizes ≤ answer.fewest

-- a refused list: the answer, and the buffer as it was
pub record ExactRefused (number : ℕ) (windows : List ℕ) (answer : ExactAnswer) (windows' : List ℕ) : Type 0 where
  pub answer_is : answer ≡ refused_exact number
  pub all_stay : windows' ≡ windows

-- the whole operation
pub record ExactAnswered (c : ℕ) (sizes counts windows : List ℕ) (answer : ExactAnswer) (windows' : List ℕ) : Type 0 where
  pub accepted : exact_refusal c sizes counts (length windows) ≡ 0 → ExactAccepted c sizes counts windows answer windows'
  pub refused : (exact_refusal c sizes counts (length windows) ≡ 0 → ⊥) → ExactRefused (exact_refusal c sizes counts (length windows)) windows answer windows'
