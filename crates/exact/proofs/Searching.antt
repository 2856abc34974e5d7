-- A turn of the search: the first size in a bin, and the others in what rooms are left.
use mathlib.Core.Path.{◌≡◌, refl, ap, sym, ◌∙◌}
use mathlib.Core.Bool.{Bool, true, false}
use mathlib.Core.List.{List, [], ◌∷◌, append-nil}
use mathlib.Core.Logic.{◌⊎◌, inl, inr, ⊎_elim}
use Prim.Native.Nat.{ℕ, suc, ◌+◌, ◌-◌, ◌≤◌, ◌<◌, max, zero-le}
use native.Mathlib.Nat.{le_refl}
use native.Mathlib.Omega.{arith}
use borrow.Author.Count.{below_more}
use borrow.Author.Tests.{eqb-true, eqb-false, eq-eqb}
use borrow.Rule.Slice.PartMut.{put_mid, put_same}
use lib.Dec.{eqb}
use lib.ListN.{length, get_or, take, drop, set, drop_of_length-le}
use lib.Seq.{take_all, set-set, set-get_or, get_or-set_same, get_or-set_other}
use Rattle.std.proofs.lemmas.Bool.{cases_lt}
use Rattle.jobs.specs.Packing.{load}
use Rattle.exact.specs.Search.{Grows, Seek, Placed, Improved, NoneBelow, NoneIn, Searched, TriedIn}

-- all but the first
abbrev pub others : List ℕ → List ℕ
others xs = take (length xs - 1) (drop 1 xs)

others_are : (x : ℕ) (xs : List ℕ) → others (x ∷ xs) ≡ xs
others_are x xs = take_all (suc (length xs) - 1) xs (omega arith)

-- the rooms with a size put into bin b
abbrev pub taken : ℕ → List ℕ → ℕ → List ℕ
taken x rooms b = set rooms b (get_or rooms b 0 - x)

-- the room is given back
pub given_back : (rooms : List ℕ) (b v : ℕ) → set (set rooms b v) b (get_or rooms b 0) ≡ rooms
given_back rooms b v = set-set rooms b v (get_or rooms b 0) ∙ set-get_or rooms b 0

load_same : (x b : ℕ) (xs bins : List ℕ) → load b (x ∷ xs) (b ∷ bins) ≡ x + load b xs bins
unfolding load
load_same x b xs bins = rw (eq-eqb b b refl)

load_other : (x a b : ℕ) (xs bins : List ℕ) → eqb a b ≡ false → load b (x ∷ xs) (a ∷ bins) ≡ load b xs bins
unfolding load
load_other x a b xs bins e = rw e (omega arith)

-- the first place of a buffer and the others, written
written : (b w : ℕ) (windows placed : List ℕ) → set (put_mid 1 (length (w ∷ windows) - 1) (w ∷ windows) placed) 0 b ≡ b ∷ placed
written b w windows placed =
    let behind : drop (suc (length windows) - 1) windows ≡ [] = drop_of_length-le windows {i = suc (length windows) - 1} (omega arith) in
    rw (behind, append-nil placed)

module _ (rooms : List ℕ) (b : ℕ) (there : b < length rooms) (x : ℕ) (xs : List ℕ) (enough : x ≤ get_or rooms b 0) (bins : List ℕ) where
  -- the loads before and behind the first size, bin by bin
  loads_left : ((w : ℕ) → load w (x ∷ xs) (b ∷ bins) ≤ get_or rooms w 0) → (w : ℕ) → load w xs bins ≤ get_or (set rooms b (get_or rooms b 0 - x)) w 0
  loads_left h w = go (eqb b w) refl
    where
      go : (test : Bool) → eqb b w ≡ test → load w xs bins ≤ get_or (set rooms b (get_or rooms b 0 - x)) w 0
      go true is = rw (← (eqb-true b w is), get_or-set_same rooms b (get_or rooms b 0 - x) 0 there) (omega (arith, h b, load_same x b xs bins))
      go false is = rw (get_or-set_other rooms b w (get_or rooms b 0 - x) 0 (λ e. eqb-false b w is (sym e))) (omega (arith, h w, load_other x b w xs bins is))

  loads_with : ((w : ℕ) → load w xs bins ≤ get_or (set rooms b (get_or rooms b 0 - x)) w 0) → (w : ℕ) → load w (x ∷ xs) (b ∷ bins) ≤ get_or rooms w 0
  loads_with h w = go (eqb b w) refl
    where
      go : (test : Bool) → eqb b w ≡ test → load w (x ∷ xs) (b ∷ bins) ≤ get_or rooms w 0
      go true is = rw (← (eqb-true b w is)) (omega (arith, h b, get_or-set_same rooms b (get_or rooms b 0 - x) 0 there, load_same x b xs bins))
      go false is = omega (arith, h w, get_or-set_other rooms b w (get_or rooms b 0 - x) 0 (λ e. eqb-false b w is (sym e)), load_other x b w xs bins is)

-- a packing has its first size in a bin that is in use or the next, and that is not the last of r
none_anywhere : (sizes : List ℕ) (used : ℕ) (rooms : List ℕ) (r : ℕ) → 0 < length sizes → ((b : ℕ) → b ≤ used → suc b < r → NoneIn sizes used rooms r b) → NoneBelow sizes used rooms r
unfolding Grows
none_anywhere sizes used rooms r some none k [] l less g h = absurd (omega (arith, h.one_each))
none_anywhere sizes used rooms r some none k (b ∷ bins) l less g h = none b g.0 (omega (arith, g.1)) k bins l less g h

-- nothing changed
unchanged : (sizes : List ℕ) (best used : ℕ) (rooms windows : List ℕ) → Improved sizes best used rooms windows best rooms windows
unchanged sizes best used rooms windows = record { rooms_stay = refl; no_worse = le_refl best; if_better = λ less. absurd (omega arith); if_not = λ _. refl }

-- improved twice
pub improved_again : (sizes : List ℕ) (best used : ℕ) (rooms windows : List ℕ) (m : ℕ) (rooms₁ windows₁ : List ℕ) (r : ℕ) (rooms₂ windows₂ : List ℕ) → Improved sizes best used rooms windows m rooms₁ windows₁ → Improved sizes m used rooms₁ windows₁ r rooms₂ windows₂ → Improved sizes best used rooms windows r rooms₂ windows₂
improved_again sizes best used rooms windows m rooms₁ windows₁ r rooms₂ windows₂ one two =
    record {
      rooms_stay = two.rooms_stay ∙ one.rooms_stay;
      no_worse = omega (arith, two.no_worse, one.no_worse);
      if_better = λ less. go less (cases_lt r m) (cases_lt m best);
      if_not = λ same. two.if_not (omega (arith, two.no_worse, one.no_worse)) ∙ one.if_not (omega (arith, two.no_worse, one.no_worse));
    }
  where
    since : drop (length sizes) windows₁ ≡ drop (length sizes) windows → Placed sizes used rooms₁ windows₁ r windows₂ → Placed sizes used rooms windows r windows₂
    since stay placed =
        record {
          all_in_use = placed.all_in_use;
          grows = placed.grows;
          in_rooms = rw one.rooms_stay at placed.in_rooms;
          others_stay = placed.others_stay ∙ stay;
        }

    go : r < best → (r < m) ⊎ (m ≤ r) → (m < best) ⊎ (best ≤ m) → Placed sizes used rooms windows r windows₂
    go less (inl better) (inl before) = since (one.if_better before).others_stay (two.if_better better)
    go less (inl better) (inr first) = since (ap (drop (length sizes)) (one.if_not (omega (arith, one.no_worse)))) (two.if_better better)
    go less (inr same) before =
        let is : r ≡ m = omega (arith, two.no_worse) in
        rw (two.if_not is, is) (one.if_better (omega arith))

-- nothing to place
pub none_left : (least best used : ℕ) (rooms windows : List ℕ) → used < best → Searched [] least best used rooms windows used rooms windows
unfolding Grows load
none_left least best used rooms windows l =
    record {
      improved =
          record {
            rooms_stay = refl;
            no_worse = omega arith;
            if_better = λ _. record { all_in_use = le_refl used; grows = tt; in_rooms = record { one_each = refl; within = λ b. zero-le }; others_stay = refl };
            if_not = λ same. refl;
          };
      none_below = inr (λ k bins more less g r. omega arith);
    }

-- the first size in bin b: what is left of it
module _ (x : ℕ) (sizes : List ℕ) (used : ℕ) (rooms : List ℕ) (b : ℕ) where
  -- it is larger than the room
  pub too_large : (least best : ℕ) (windows : List ℕ) → get_or rooms b 0 < x → TriedIn (x ∷ sizes) least best used b rooms windows best rooms windows
  too_large least best windows less =
      record {
        improved = unchanged (x ∷ sizes) best used rooms windows;
        none_in = inr (λ k bins l m g h. omega (arith, h.within b, load_same x b sizes bins));
      }

  module _ (there : b < length rooms) (enough : x ≤ get_or rooms b 0) where
    -- with it in bin b the others have no packing
    not_placed : (r : ℕ) → NoneBelow sizes (max used (suc b)) (taken x rooms b) r → NoneIn (x ∷ sizes) used rooms r b
    unfolding Grows
    not_placed r none k bins l m g h =
        none k bins (omega (arith, g.1)) m g.2 (record { one_each = omega (arith, h.one_each); within = loads_left rooms b there x sizes enough bins h.within })

    -- or they have one
    first_placed : (windows : List ℕ) (k : ℕ) (placed : List ℕ) → suc (length sizes) ≤ length windows → b ≤ used → Placed sizes (max used (suc b)) (taken x rooms b) (others windows) k placed → Placed (x ∷ sizes) used rooms windows k (set (put_mid 1 (length windows - 1) windows placed) 0 b)
    unfolding Grows
    first_placed [] k placed room l p = absurd (omega arith)
    first_placed (w ∷ windows) k placed room l p =
        let found : Placed sizes (max used (suc b)) (taken x rooms b) windows k placed = rw (others_are w windows) at p in
        rw (written b w windows placed)
        (record {
          all_in_use = omega (arith, found.all_in_use);
          grows = (l, omega (arith, found.all_in_use), found.grows);
          in_rooms = record { one_each = ap suc found.in_rooms.one_each; within = loads_with rooms b there x sizes enough (take (length sizes) placed) found.in_rooms.within };
          others_stay = found.others_stay;
        })

-- the search of the others: what it starts from
module _ (x : ℕ) (sizes : List ℕ) (used : ℕ) (rooms windows : List ℕ) (seek : Seek (x ∷ sizes) used rooms windows) (b : ℕ) (in_use : b ≤ used) where
  pub bin_there : b < length rooms
  bin_there = omega (arith, seek.few, seek.ten_rooms)

  -- and how it ends
  module _ (least best opened : ℕ) (opened-is : opened ≡ max used (suc b)) (enough : x ≤ get_or rooms b 0) (r : ℕ) (rooms' windows' : List ℕ) (searched : Searched sizes least best opened (taken x rooms b) (others windows) r rooms' windows') where
    rooms_back : set rooms' b (get_or rooms b 0) ≡ rooms
    rooms_back = ap (λ (l : List ℕ). set l b (get_or rooms b 0)) searched.improved.rooms_stay ∙ given_back rooms b (get_or rooms b 0 - x)

    none : (r ≤ least) ⊎ NoneIn (x ∷ sizes) used rooms r b
    none = ⊎_elim (λ few. inl few) (λ below. inr (not_placed x sizes used rooms b bin_there enough r (rw opened-is at below))) searched.none_below

    pub tried_not_better : best ≤ r → TriedIn (x ∷ sizes) least best used b rooms windows best (set rooms' b (get_or rooms b 0)) (put_mid 1 (length windows - 1) windows windows')
    tried_not_better l =
        let same : r ≡ best = omega (arith, searched.improved.no_worse) in
        record {
          improved =
              record {
                rooms_stay = rooms_back;
                no_worse = le_refl best;
                if_better = λ less. absurd (omega arith);
                if_not = λ _. ap (put_mid 1 (length windows - 1) windows) (searched.improved.if_not same) ∙ put_same 1 (length windows - 1) windows;
              };
          none_in = rw same at none;
        }

    pub tried_better : r < best → TriedIn (x ∷ sizes) least best used b rooms windows r (set rooms' b (get_or rooms b 0)) (set (put_mid 1 (length windows - 1) windows windows') 0 b)
    tried_better l =
        record {
          improved =
              record {
                rooms_stay = rooms_back;
                no_worse = searched.improved.no_worse;
                if_better = λ _. first_placed x sizes used rooms b bin_there enough windows r windows' seek.place_for_each in_use (rw opened-is at (searched.improved.if_better l));
                if_not = λ same. absurd (omega arith);
              };
          none_in = none;
        }

-- the loop over the bins in use: the best so far, with which the search goes on, and the bins that were tried
pub record Trying (sizes : List ℕ) (least best used : ℕ) (rooms windows : List ℕ) (r : ℕ) (rooms' windows' : List ℕ) (b : ℕ) : Type 0 where
  pub improved : Improved sizes best used rooms windows r rooms' windows'
  pub none_before : (r ≤ least) ⊎ ((a : ℕ) → a < b → NoneIn sizes used rooms r a)
  pub bins_in_use : b ≤ used
  pub goes_on : used < r

module _ (sizes : List ℕ) (least best used : ℕ) (rooms windows : List ℕ) where
  module _ (m : ℕ) (rooms₁ windows₁ : List ℕ) (b : ℕ) (trying : Trying sizes least best used rooms windows m rooms₁ windows₁ b) where
    -- one bin more was tried
    module _ (r : ℕ) (rooms₂ windows₂ : List ℕ) (tried : TriedIn sizes least m used b rooms₁ windows₁ r rooms₂ windows₂) where
      both_improved : Improved sizes best used rooms windows r rooms₂ windows₂
      both_improved = improved_again sizes best used rooms windows m rooms₁ windows₁ r rooms₂ windows₂ trying.improved tried.improved

      none_so_far : (r ≤ least) ⊎ ((a : ℕ) → a < b + 1 → NoneIn sizes used rooms r a)
      none_so_far = both trying.none_before (rw trying.improved.rooms_stay at tried.none_in)
        where
          both : (m ≤ least) ⊎ ((a : ℕ) → a < b → NoneIn sizes used rooms m a) → (r ≤ least) ⊎ NoneIn sizes used rooms r b → (r ≤ least) ⊎ ((a : ℕ) → a < b + 1 → NoneIn sizes used rooms r a)
          both (inl few) here = inl (omega (arith, tried.improved.no_worse))
          both (inr before) (inl few) = inl few
          both (inr before) (inr here) = inr (below_more _ _ (λ a less k bins more fewer. before a less k bins more (omega (arith, tried.improved.no_worse))) here)

      -- the next bin was the last one to try
      pub last_tried : 0 < length sizes → b ≡ used → Searched sizes least best used rooms windows r rooms₂ windows₂
      last_tried some is =
          record { improved = both_improved; none_below = ⊎_elim (λ few. inl few) (λ none. inr (none_anywhere sizes used rooms r some (λ a l m. none a (omega arith)))) none_so_far }

    -- all bins in use were tried
    pub trying_all : used ≤ b → Trying sizes least best used rooms windows m rooms₁ windows₁ used
    trying_all l =
        let is : b ≡ used = omega (arith, trying.bins_in_use) in
        rw is at trying

    -- a next bin would make as many as the best so far has
    pub none_to_open : 0 < length sizes → used ≤ b → m ≤ used + 1 → Searched sizes least best used rooms windows m rooms₁ windows₁
    none_to_open some all few =
        record { improved = trying.improved; none_below = ⊎_elim (λ below. inl below) (λ none. inr (none_anywhere sizes used rooms m some (λ a l n. none a (omega arith)))) trying.none_before }
