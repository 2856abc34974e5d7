-- Within the crate: what the search tries, and what it finds.
use Rattle.std.specs.Prelude.{◌≡◌, List, [], ◌∷◌, ◌⊎◌, ℕ, suc, ◌+◌, ◌≤◌, ◌<◌, max, length, take, drop, get_or}
use Rattle.jobs.specs.Packing.{load}
use Rattle.exact.specs.Exact.{most_copies}

-- bins numbered by first use where `used` are in use: each is one of these or the next, and below k
unfoldable pub Grows : ℕ → ℕ → List ℕ → Type 0
Grows k used [] = Unit {0}
Grows k used (b ∷ bins) = (b ≤ used) × (b < k) × Grows k (max used (suc b)) bins

-- each size has a bin, and no bin gets more than its room
pub record InRooms (rooms sizes bins : List ℕ) : Type 0 where
  pub one_each : length bins ≡ length sizes
  pub within : (b : ℕ) → load b sizes bins ≤ get_or rooms b 0

-- what a search starts from
pub record Seek (sizes : List ℕ) (used : ℕ) (rooms windows : List ℕ) : Type 0 where
  pub few : used + length sizes ≤ most_copies
  pub ten_rooms : length rooms ≡ 10
  pub place_for_each : length sizes ≤ length windows

-- k bins are in use then, and those of the sizes stand in the first places of the buffer; the other places stay
pub record Placed (sizes : List ℕ) (used : ℕ) (rooms windows : List ℕ) (k : ℕ) (windows' : List ℕ) : Type 0 where
  pub all_in_use : used ≤ k
  pub grows : Grows k used (take (length sizes) windows')
  pub in_rooms : InRooms rooms sizes (take (length sizes) windows')
  pub others_stay : drop (length sizes) windows' ≡ drop (length sizes) windows

-- the best number of bins was `best` and is r: a better one has its packing in the buffer, else that is as it was
pub record Improved (sizes : List ℕ) (best used : ℕ) (rooms windows : List ℕ) (r : ℕ) (rooms' windows' : List ℕ) : Type 0 where
  pub rooms_stay : rooms' ≡ rooms
  pub no_worse : r ≤ best
  pub if_better : r < best → Placed sizes used rooms windows r windows'
  pub if_not : r ≡ best → windows' ≡ windows

-- no packing has the rooms with fewer than r bins in use then; none of those with the first size in bin b has
abbrev pub NoneBelow : List ℕ → ℕ → List ℕ → ℕ → Type 0
NoneBelow sizes used rooms r = (k : ℕ) (bins : List ℕ) → used ≤ k → k < r → Grows k used bins → InRooms rooms sizes bins → ⊥

abbrev pub NoneIn : List ℕ → ℕ → List ℕ → ℕ → ℕ → Type 0
NoneIn sizes used rooms r b = (k : ℕ) (bins : List ℕ) → used ≤ k → k < r → Grows k used (b ∷ bins) → InRooms rooms sizes (b ∷ bins) → ⊥

-- the search ended: with no more than `least` bins, or with all packings tried
pub record Searched (sizes : List ℕ) (least best used : ℕ) (rooms windows : List ℕ) (r : ℕ) (rooms' windows' : List ℕ) : Type 0 where
  pub improved : Improved sizes best used rooms windows r rooms' windows'
  pub none_below : (r ≤ least) ⊎ NoneBelow sizes used rooms r

-- so of the packings with the first size in bin b
pub record TriedIn (sizes : List ℕ) (least best used b : ℕ) (rooms windows : List ℕ) (r : ℕ) (rooms' windows' : List ℕ) : Type 0 where
  pub improved : Improved sizes best used rooms windows r rooms' windows'
  pub none_in : (r ≤ least) ⊎ NoneIn sizes used rooms r b
