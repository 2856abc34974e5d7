-- What a search says of all packings: a packing found fits and uses no more bins than it is said to, and where none is found every packing that fits uses more.
use mathlib.Core.Path.{◌≡◌, refl, ap, sym, ◌∙◌}
use mathlib.Core.Bool.{Bool, true, false, cond, ◌||◌, false≢true}
use mathlib.Core.List.{List, [], ◌∷◌, map, map-id}
use mathlib.Core.Logic.{⊎_elim}
use Prim.Native.Nat.{ℕ, zero, suc, ◌+◌, ◌≤◌, ◌<◌, max, zero-le}
use native.Mathlib.Nat.{le_refl, le_trans}
use native.Mathlib.Omega.{arith}
use borrow.Author.Tests.{eqb-true, eq-eqb, ne_eqb}
use lib.Dec.{eqb}
use lib.ListN.{length, get_or, take, replicate, get_or-replicate, get_or-eq_default}
use Rattle.functions.specs.Words.{limit, total, weighted, EachWithin}
use Rattle.functions.specs.Families.{◌up◌}
use Rattle.std.specs.List.{range_with_len}
use Rattle.std.proofs.lemmas.Bool.{cases_lt, false_from_ne_true, or_cases}
use Rattle.std.proofs.lemmas.List.FromFn.{length-range_with_len}
use Rattle.chains.specs.Chain.{chain_image, chain_scale, ChainAccepted, chain_floor}
use Rattle.jobs.specs.Packing.{load, Fits, member, bins_used}
use Rattle.jobs.proofs.Packings.{Covers, copies_total, copies_of_ones}
use Rattle.jobs.proofs.Promise.{chain_is_safe}
use Rattle.exact.specs.Exact.{FewestWritten}
use Rattle.exact.specs.Expand.{Measurable}
use Rattle.exact.specs.Search.{Grows, InRooms, NoneBelow, Searched}
use Rattle.exact.specs.Renumber.{renumbered}
use Rattle.exact.proofs.Renaming.{unused, covers_uses, renumbered_fits, renumbered_grows}

-- the bins from k on, one for each size
from_grows : (most k n : ℕ) → k + n ≤ most → Grows most k (range_with_len k n)
unfolding Grows
from_grows most k zero l = tt
from_grows most k (suc n) l =
    let next : max k (suc k) ≡ k + 1 = omega arith in
    (omega arith, omega arith, rw next (from_grows most (k + 1) n (omega arith)))

from_later : (b k : ℕ) (xs : List ℕ) → b < k → load b xs (range_with_len k (length xs)) ≡ 0
unfolding load
from_later b k [] l = refl
from_later b k (x ∷ xs) l = rw (ne_eqb k b (omega arith)) (omega (arith, from_later b (k + 1) xs (omega arith)))

from_load : (c b k : ℕ) (xs : List ℕ) → EachWithin c xs → load b xs (range_with_len k (length xs)) ≤ c
unfolding load
from_load c b k [] h = omega arith
from_load c b k (x ∷ xs) h = go (eqb k b) refl (from_load c b (k + 1) xs (λ i l. h (suc i) (omega arith)))
  where
    go : (test : Bool) → eqb k b ≡ test → load b xs (range_with_len (k + 1) (length xs)) ≤ c → cond test x 0 + load b xs (range_with_len (k + 1) (length xs)) ≤ c
    go true is rest = omega (arith, h 0 (omega arith), from_later b (k + 1) xs (omega (arith, eqb-true k b is)))
    go false is rest = omega arith

from_has : (b k n : ℕ) → k ≤ b → b < k + n → member b (range_with_len k n) ≡ true
unfolding member
from_has b k zero l m = absurd (omega arith)
from_has b k (suc n) l m = go (eqb k b) refl (from_has b (k + 1) n)
  where
    go : (test : Bool) → eqb k b ≡ test → (k + 1 ≤ b → b < k + 1 + n → member b (range_with_len (k + 1) n) ≡ true) → test || member b (range_with_len (k + 1) n) ≡ true
    go true is rest = refl
    go false is rest = ⊎_elim (λ less. rest (omega (arith, less)) (omega arith)) (λ more. absurd (false≢true (sym is ∙ eq-eqb k b (omega arith)))) (cases_lt k b)

-- bins that the search tries: below `most`, so at most that many are used, and no others have a load
grows_member : (most used b : ℕ) (bins : List ℕ) → Grows most used bins → member b bins ≡ true → b < most
unfolding Grows member
grows_member most used b [] g e = absurd (false≢true e)
grows_member most used b (a ∷ bins) g e =
    ⊎_elim (λ same. omega (arith, eqb-true a b same, g.1)) (grows_member most (max used (suc a)) b bins g.2) (or_cases (eqb a b) (member b bins) e)

grows_uses : (most used : ℕ) (bins : List ℕ) → Grows most used bins → bins_used bins ≤ most
unfolding Covers
grows_uses most used bins g = omega (arith, covers_uses (range_with_len 0 most) bins (λ b e. from_has b 0 most (omega arith) (omega (arith, grows_member most used b bins g e))), length-range_with_len 0 most)

grows_below : (most used : ℕ) (bins : List ℕ) → Grows most used bins → (i : ℕ) → i < length bins → get_or bins i 0 < most
unfolding Grows
grows_below most used [] g i l = absurd (omega arith)
grows_below most used (b ∷ bins) g zero l = g.1
grows_below most used (b ∷ bins) g (suc i) l = grows_below most (max used (suc b)) bins g.2 i (omega arith)

grows_load : (most used b : ℕ) (xs bins : List ℕ) → Grows most used bins → most ≤ b → load b xs bins ≡ 0
grows_load most used b xs bins g l = unused b xs bins (false_from_ne_true (member b bins) (λ e. omega (arith, grows_member most used b bins g e)))

-- ten rooms of the capacity
abbrev rooms : ℕ → List ℕ
rooms c = replicate 10 c

module _ (c : ℕ) (sizes : List ℕ) where
  in_rooms_fit : (bins : List ℕ) → InRooms (rooms c) sizes bins → Fits c sizes bins
  in_rooms_fit bins r = record { one_each = r.one_each; within = λ b. le_trans (r.within b) (small b) }
    where
      small : (b : ℕ) → get_or (rooms c) b 0 ≤ c
      small b = ⊎_elim (λ l. omega (arith, get_or-replicate 10 b c 0 l)) (λ l. omega (arith, get_or-eq_default (rooms c) 0 {n = b} l)) (cases_lt b 10)

  fit_in_rooms : (most used : ℕ) (bins : List ℕ) → most ≤ 10 → Grows most used bins → Fits c sizes bins → InRooms (rooms c) sizes bins
  fit_in_rooms most used bins few g h =
      record {
        one_each = h.one_each;
        within = λ b. ⊎_elim (λ l. omega (arith, h.within b, get_or-replicate 10 b c 0 l)) (λ l. omega (arith, grows_load most used b sizes bins g (omega arith))) (cases_lt b 10);
      }

  -- none into fewer than r bins was found: every packing uses at least r
  none_fewer : (r : ℕ) → r ≤ suc 10 → NoneBelow sizes 0 (rooms c) r → (other : List ℕ) → Fits c sizes other → r ≤ bins_used other
  none_fewer r few none other h = ⊎_elim (λ l. absurd (contra l)) (λ l. l) (cases_lt (bins_used other) r)
    where
      contra : bins_used other < r → ⊥
      contra l =
          let k = bins_used other in
          let grows = renumbered_grows other k (le_refl k) in
          none k (renumbered other) zero-le l grows (fit_in_rooms k 0 (renumbered other) (omega arith) grows (renumbered_fits other c sizes h))

  -- as many bins as sizes are always enough
  alone : EachWithin c sizes → Fits c sizes (range_with_len 0 (length sizes))
  alone within = record { one_each = length-range_with_len 0 (length sizes); within = λ b. from_load c b 0 sizes within }

  alone_grows : Grows (length sizes) 0 (range_with_len 0 (length sizes))
  alone_grows = from_grows (length sizes) 0 (length sizes) (omega arith)

  some_as_many : EachWithin c sizes → length sizes ≤ 10 → NoneBelow sizes 0 (rooms c) (suc (length sizes)) → ⊥
  some_as_many within few none =
      none (length sizes) (range_with_len 0 (length sizes)) zero-le (omega arith) alone_grows (fit_in_rooms (length sizes) 0 (range_with_len 0 (length sizes)) few alone_grows (alone within))

  -- the total over the capacity, rounded up, is the floor of no step at all
  total_safe : 1 ≤ c → c ≤ limit → (other : List ℕ) → Fits c sizes other → (total sizes up c) ≤ bins_used other
  unfolding chain_floor chain_image chain_scale ChainAccepted
  total_safe l m other h =
      let ones : List ℕ = replicate (length sizes) 1 in
      let plain : total sizes ≡ weighted ones (map (chain_image c []) sizes) = ap total (sym (map-id sizes) ∙ sym (ap (map (λ x. x)) (copies_of_ones sizes))) ∙ copies_total (chain_image c []) ones sizes in
      rw plain ((chain_is_safe c [] l m tt).floor_is_safe ones sizes other (rw (copies_of_ones sizes) h))

-- the whole search: it begins with one bin more than there are sizes, so it finds a packing, and its number is at most the bins of every packing
module _ (c : ℕ) (sizes : List ℕ) (given : Measurable c sizes) (least : ℕ) (least_is : least ≡ (total sizes up c)) (windows : List ℕ) (r : ℕ) (rooms' windows' : List ℕ) (searched : Searched sizes least (suc (length sizes)) 0 (rooms c) windows r rooms' windows') where
  least_safe : (other : List ℕ) → Fits c sizes other → least ≤ bins_used other
  least_safe other h = omega (arith, least_is, total_safe c sizes given.capacity_positive given.capacity_within_limit other h)

  few_least : least ≤ length sizes
  few_least = le_trans (least_safe (range_with_len 0 (length sizes)) (alone c sizes given.within_sizes)) (grows_uses (length sizes) 0 (range_with_len 0 (length sizes)) (alone_grows c sizes))

  found : r < suc (length sizes)
  found = ⊎_elim (λ few. omega (arith, few_least)) (λ none. ⊎_elim (λ l. l) (λ l. absurd (some_as_many c sizes given.within_sizes given.few (λ k bins more less. none k bins more (omega arith)))) (cases_lt r (suc (length sizes)))) searched.none_below

  bound : (other : List ℕ) → Fits c sizes other → r ≤ bins_used other
  bound other h = ⊎_elim (λ few. le_trans few (least_safe other h)) (λ none. none_fewer c sizes r (omega (arith, found, given.few)) none other h) searched.none_below

  pub search_fewest : FewestWritten c sizes windows r windows'
  search_fewest =
      let placed = searched.improved.if_better found in
      let bins = take (length sizes) windows' in
      let fits : Fits c sizes bins = in_rooms_fit c sizes bins placed.in_rooms in
      record {
        fewest_is =
            record {
              fits = fits;
              below = grows_below r 0 bins placed.grows;
              uses = omega (arith, grows_uses r 0 bins placed.grows, bound bins fits);
              least = bound;
            };
        others_stay = placed.others_stay;
      }
