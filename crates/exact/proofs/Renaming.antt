-- The renaming law: a packing whose bins get other names, from which the old ones can be told, fits just as well and uses as many bins. So does a packing renumbered by first use, whose
-- bins are then those that the search tries.
use mathlib.Core.Path.{◌≡◌, refl, ap, sym, ◌∙◌}
use mathlib.Core.Bool.{Bool, true, false, cond, ◌||◌, or-true, or-false, or_assoc, false≢true}
use mathlib.Core.List.{List, [], ◌∷◌, ◌++◌, map, map-id}
use mathlib.Core.Logic.{⊎_elim}
use Prim.Native.Nat.{ℕ, suc, ◌+◌, ◌≤◌, ◌<◌, max}
use native.Mathlib.Nat.{le_trans}
use native.Mathlib.Omega.{arith}
use borrow.Author.Tests.{eqb-true, eq-eqb, ne_eqb}
use lib.Dec.{eqb}
use lib.ListN.{length, get_or, replicate, length-map, length-append, length-replicate}
use Rattle.std.proofs.lemmas.Bool.{false_from_ne_true, or_cases}
use Rattle.functions.specs.Words.{total}
use Rattle.functions.proofs.Summed.{total_most}
use Rattle.functions.proofs.Totals.{total_repeated}
use Rattle.jobs.specs.Packing.{load, Fits, member, distinct, bins_used}
use Rattle.jobs.proofs.Packings.{Covers, covered, distinct_covers}
use Rattle.exact.specs.Renumber.{used_from, place_of, renumbered}
use Rattle.exact.specs.Rows.{RenumberRows}
use Rattle.exact.specs.Search.{Grows}

pub renumber_rows : RenumberRows
unfolding used_from place_of renumbered member
renumber_rows = record { used_once = refl; used_before = refl; place_there = refl; place_nowhere = refl; by_first_use = refl }

-- a bin that is not used has no load
pub unused : (b : ℕ) (xs bins : List ℕ) → member b bins ≡ false → load b xs bins ≡ 0
unfolding load member
unused b [] bins e = refl
unused b (x ∷ xs) [] e = refl
unused b (x ∷ xs) (a ∷ bins) e = go (eqb a b) refl e (unused b xs bins)
  where
    go : (test : Bool) → eqb a b ≡ test → test || member b bins ≡ false → (member b bins ≡ false → load b xs bins ≡ 0) → cond test x 0 + load b xs bins ≡ 0
    go true is h rest = absurd (false≢true (sym h))
    go false is h rest = omega (arith, rest h)

distinct_of : (b : ℕ) (bins : List ℕ) → member b (distinct bins) ≡ true → member b bins ≡ true
unfolding member distinct
distinct_of b [] e = e
distinct_of b (a ∷ bins) e = go (member a bins) e (distinct_of b bins)
  where
    go : (test : Bool) → member b (cond test (distinct bins) (a ∷ distinct bins)) ≡ true → (member b (distinct bins) ≡ true → member b bins ≡ true) → eqb a b || member b bins ≡ true
    go true h rest = rw (rest h) (or-true (eqb a b))
    go false h rest = ⊎_elim (λ same. rw same) (λ later. rw (rest later) (or-true (eqb a b))) (or_cases (eqb a b) (member b (distinct bins)) h)

-- the distinct bins of a list, each with one thing in it: no bin has two
one_in_each : (b : ℕ) (bins : List ℕ) → load b (replicate (length (distinct bins)) 1) (distinct bins) ≤ 1
unfolding load distinct
one_in_each b [] = omega arith
one_in_each b (a ∷ bins) = go (member a bins) refl (one_in_each b bins)
  where
    alone : (test : Bool) → eqb a b ≡ test → member a bins ≡ false → load b (replicate (length (distinct bins)) 1) (distinct bins) ≤ 1 → cond test 1 0 + load b (replicate (length (distinct bins)) 1) (distinct bins) ≤ 1
    alone true is out rest =
        let gone : member b bins ≡ false = rw (eqb-true a b is) at out in
        omega (arith, unused b (replicate (length (distinct bins)) 1) (distinct bins) (false_from_ne_true (member b (distinct bins)) (λ e. false≢true (sym gone ∙ distinct_of b bins e))))
    alone false is out rest = omega arith

    go : (test : Bool) → member a bins ≡ test → load b (replicate (length (distinct bins)) 1) (distinct bins) ≤ 1 → load b (replicate (length (cond test (distinct bins) (a ∷ distinct bins))) 1) (cond test (distinct bins) (a ∷ distinct bins)) ≤ 1
    go true is rest = rest
    go false is rest = alone (eqb a b) refl is rest

-- a list that has every bin of a packing is at least as long as the bins used are many
pub covers_uses : (ws bins : List ℕ) → Covers ws bins → bins_used bins ≤ length ws
unfolding bins_used Covers
covers_uses ws bins h =
    let d = distinct bins in
    let ones : List ℕ = replicate (length d) 1 in
    let all : total ones ≡ length d = omega (arith, simp map-id at (total_repeated (λ x. x) (length d) 1)) in
    let most = total_most (λ w. load w ones d) 1 ws (λ i l. one_in_each (get_or ws i 0) bins) in
    omega (arith, all, most, covered ws ones d (sym (length-replicate (length d) 1)) (λ b e. h b (distinct_of b bins e)))

member_renamed : (f : ℕ → ℕ) (b : ℕ) (ws : List ℕ) → member b ws ≡ true → member (f b) (map f ws) ≡ true
unfolding member
member_renamed f b [] e = absurd (false≢true e)
member_renamed f b (w ∷ ws) e =
    ⊎_elim (λ same. rw (eq-eqb (f w) (f b) (ap f (eqb-true w b same)))) (λ later. rw (member_renamed f b ws later) (or-true (eqb (f w) (f b)))) (or_cases (eqb w b) (member b ws) e)

covers_renamed : (f : ℕ → ℕ) (ws bins : List ℕ) → Covers ws bins → Covers (map f ws) (map f bins)
unfolding Covers member
covers_renamed f ws [] h b e = absurd (false≢true e)
covers_renamed f ws (a ∷ bins) h b e =
    let here = member_renamed f a ws (h a (rw (eq-eqb a a refl))) in
    let rest = covers_renamed f ws bins (λ w m. h w (rw m (or-true (eqb a w)))) b in
    ⊎_elim (λ same. rw (eqb-true (f a) b same) at here) rest (or_cases (eqb (f a) b) (member b (map f bins)) e)

-- new names are not more than the old ones
renamed_uses_most : (f : ℕ → ℕ) (bins : List ℕ) → bins_used (map f bins) ≤ bins_used bins
unfolding bins_used
renamed_uses_most f bins = omega (arith, covers_uses (map f (distinct bins)) (map f bins) (covers_renamed f (distinct bins) bins (distinct_covers bins)), length-map (distinct bins) f)

-- f gives the bins of a packing new names, and g tells the old ones
module _ (f g : ℕ → ℕ) where
  renamed_load : (b : ℕ) (xs bins : List ℕ) → map g (map f bins) ≡ bins → load b xs (map f bins) ≤ load (g b) xs bins
  unfolding load
  renamed_load b [] bins e = omega arith
  renamed_load b (x ∷ xs) [] e = omega arith
  renamed_load b (x ∷ xs) (a ∷ bins) e =
      let first : g (f a) ≡ a = cc in
      let others : map g (map f bins) ≡ bins = cc in
      go (eqb (f a) b) refl first (renamed_load b xs bins others)
    where
      go : (test : Bool) → eqb (f a) b ≡ test → g (f a) ≡ a → load b xs (map f bins) ≤ load (g b) xs bins → cond test x 0 + load b xs (map f bins) ≤ cond (eqb a (g b)) x 0 + load (g b) xs bins
      go true is first rest = rw (eq-eqb a (g b) (sym first ∙ ap g (eqb-true (f a) b is))) (omega arith)
      go false is first rest = omega arith

  module _ (bins : List ℕ) (told : map g (map f bins) ≡ bins) where
    pub renamed_fits : (c : ℕ) (sizes : List ℕ) → Fits c sizes bins → Fits c sizes (map f bins)
    renamed_fits c sizes h = record { one_each = length-map bins f ∙ h.one_each; within = λ b. le_trans (renamed_load b sizes bins told) (h.within (g b)) }

    pub renamed_uses : bins_used (map f bins) ≡ bins_used bins
    renamed_uses =
        let back : bins_used bins ≤ bins_used (map f bins) = rw told at (renamed_uses_most g (map f bins)) in
        omega (arith, renamed_uses_most f bins)

-- the bins in the order of their first use: what was seen stays, and each bin gets in
member_append : (b a : ℕ) (seen : List ℕ) → member b (seen ++ (a ∷ [])) ≡ member b seen || eqb a b
unfolding member
member_append b a [] = or-false (eqb a b)
member_append b a (w ∷ seen) = rw (member_append b a seen) (sym (or_assoc (eqb w b) (member b seen) (eqb a b)))

-- what is seen once b is
abbrev with_bin : List ℕ → ℕ → List ℕ
with_bin seen b = cond (member b seen) seen (seen ++ (b ∷ []))

member_with : (a b : ℕ) (seen : List ℕ) → member a seen ≡ true → member a (with_bin seen b) ≡ true
member_with a b seen e = go (member b seen)
  where
    go : (test : Bool) → member a (cond test seen (seen ++ (b ∷ []))) ≡ true
    go true = e
    go false = rw (member_append a b seen, e)

member_self : (b : ℕ) (seen : List ℕ) → member b (with_bin seen b) ≡ true
member_self b seen = go (member b seen) refl
  where
    go : (test : Bool) → member b seen ≡ test → member b (cond test seen (seen ++ (b ∷ []))) ≡ true
    go true is = is
    go false is = rw (member_append b b seen, eq-eqb b b refl) (or-true (member b seen))

seen_stays : (b : ℕ) (seen bins : List ℕ) → member b seen ≡ true → member b (used_from seen bins) ≡ true
unfolding used_from
seen_stays b seen [] e = e
seen_stays b seen (a ∷ bins) e = seen_stays b (with_bin seen a) bins (member_with b a seen e)

used_covers : (seen bins : List ℕ) → Covers (used_from seen bins) bins
unfolding used_from Covers member
used_covers seen [] b e = absurd (false≢true e)
used_covers seen (a ∷ bins) b e =
    let here = seen_stays a (with_bin seen a) bins (member_self a seen) in
    ⊎_elim (λ same. ap (λ (n : ℕ). member n (used_from (with_bin seen a) bins)) (sym (eqb-true a b same)) ∙ here) (used_covers (with_bin seen a) bins b) (or_cases (eqb a b) (member b bins) e)

-- it has no others
covers_with : (ws seen : List ℕ) (b : ℕ) → Covers ws seen → member b ws ≡ true → Covers ws (with_bin seen b)
unfolding Covers
covers_with ws seen b h there a e = go (member b seen) e
  where
    go : (test : Bool) → member a (cond test seen (seen ++ (b ∷ []))) ≡ true → member a ws ≡ true
    go true m = h a m
    go false m = ⊎_elim (h a) (λ same. rw (eqb-true b a same) at there) (or_cases (member a seen) (eqb b a) (rw (member_append a b seen) at m))

covers_used : (ws seen bins : List ℕ) → Covers ws seen → Covers ws bins → Covers ws (used_from seen bins)
unfolding used_from Covers member
covers_used ws seen [] h k = h
covers_used ws seen (b ∷ bins) h k =
    covers_used ws (with_bin seen b) bins (covers_with ws seen b h (k b (rw (eq-eqb b b refl)))) (λ a e. k a (rw e (or-true (eqb b a))))

-- and none twice
uses_one_more : (b : ℕ) (seen : List ℕ) → member b seen ≡ false → bins_used (seen ++ (b ∷ [])) ≡ suc (bins_used seen)
unfolding bins_used distinct member
uses_one_more b [] e = refl
uses_one_more b (a ∷ seen) e = go (eqb a b) refl e (uses_one_more b seen)
  where
    go : (test : Bool) → eqb a b ≡ test → test || member b seen ≡ false → (member b seen ≡ false → bins_used (seen ++ (b ∷ [])) ≡ suc (bins_used seen)) → length (cond (member a (seen ++ (b ∷ []))) (distinct (seen ++ (b ∷ []))) (a ∷ distinct (seen ++ (b ∷ [])))) ≡ suc (length (cond (member a seen) (distinct seen) (a ∷ distinct seen)))
    go true is out rest = absurd (false≢true (sym out))
    go false is out rest = rw (member_append a b seen, other, or-false (member a seen)) (by (member a seen) (rest out))
      where
        other : eqb b a ≡ false
        other = ne_eqb b a (λ same. false≢true (sym is ∙ eq-eqb a b (sym same)))

        by : (test : Bool) → length (distinct (seen ++ (b ∷ []))) ≡ suc (length (distinct seen)) → length (cond test (distinct (seen ++ (b ∷ []))) (a ∷ distinct (seen ++ (b ∷ [])))) ≡ suc (length (cond test (distinct seen) (a ∷ distinct seen)))
        by true e = e
        by false e = ap suc e

used_once : (seen bins : List ℕ) → bins_used seen ≡ length seen → bins_used (used_from seen bins) ≡ length (used_from seen bins)
unfolding used_from
used_once seen [] e = e
used_once seen (b ∷ bins) e = used_once (with_bin seen b) bins (go (member b seen) refl)
  where
    go : (test : Bool) → member b seen ≡ test → bins_used (cond test seen (seen ++ (b ∷ []))) ≡ length (cond test seen (seen ++ (b ∷ [])))
    go true is = e
    go false is = omega (arith, uses_one_more b seen is, e, length-append seen (b ∷ []))

used_most : (bins : List ℕ) → length (used_from [] bins) ≤ bins_used bins
unfolding bins_used distinct Covers member
used_most bins =
    omega (arith, used_once [] bins refl, covers_uses (distinct bins) (used_from [] bins) (covers_used (distinct bins) [] bins (λ b e. absurd (false≢true e)) (distinct_covers bins)))

-- the place of a bin that is seen
at_place : (b : ℕ) (seen : List ℕ) → member b seen ≡ true → get_or seen (place_of seen b) 0 ≡ b
unfolding place_of member
at_place b [] e = absurd (false≢true e)
at_place b (a ∷ seen) e = go (eqb a b) refl e (at_place b seen)
  where
    go : (test : Bool) → eqb a b ≡ test → test || member b seen ≡ true → (member b seen ≡ true → get_or seen (place_of seen b) 0 ≡ b) → get_or (a ∷ seen) (cond test 0 (suc (place_of seen b))) 0 ≡ b
    go true is h rest = eqb-true a b is
    go false is h rest = rest h

place_within : (b : ℕ) (seen : List ℕ) → member b seen ≡ true → place_of seen b < length seen
unfolding place_of member
place_within b [] e = absurd (false≢true e)
place_within b (a ∷ seen) e = go (eqb a b) e (place_within b seen)
  where
    go : (test : Bool) → test || member b seen ≡ true → (member b seen ≡ true → place_of seen b < length seen) → cond test 0 (suc (place_of seen b)) < suc (length seen)
    go true h rest = omega arith
    go false h rest = omega (arith, rest h)

place_kept : (b a : ℕ) (seen : List ℕ) → member b seen ≡ true → place_of (seen ++ (a ∷ [])) b ≡ place_of seen b
unfolding place_of member
place_kept b a [] e = absurd (false≢true e)
place_kept b a (w ∷ seen) e = go (eqb w b) e (place_kept b a seen)
  where
    go : (test : Bool) → test || member b seen ≡ true → (member b seen ≡ true → place_of (seen ++ (a ∷ [])) b ≡ place_of seen b) → cond test 0 (suc (place_of (seen ++ (a ∷ [])) b)) ≡ cond test 0 (suc (place_of seen b))
    go true h rest = refl
    go false h rest = ap suc (rest h)

place_new : (b : ℕ) (seen : List ℕ) → member b seen ≡ false → place_of (seen ++ (b ∷ [])) b ≡ length seen
unfolding place_of member
place_new b [] e = rw (eq-eqb b b refl)
place_new b (a ∷ seen) e = go (eqb a b) e (place_new b seen)
  where
    go : (test : Bool) → test || member b seen ≡ false → (member b seen ≡ false → place_of (seen ++ (b ∷ [])) b ≡ length seen) → cond test 0 (suc (place_of (seen ++ (b ∷ [])) b)) ≡ suc (length seen)
    go true h rest = absurd (false≢true (sym h))
    go false h rest = ap suc (rest h)

place_with : (a b : ℕ) (seen : List ℕ) → member a seen ≡ true → place_of (with_bin seen b) a ≡ place_of seen a
place_with a b seen e = go (member b seen)
  where
    go : (test : Bool) → place_of (cond test seen (seen ++ (b ∷ []))) a ≡ place_of seen a
    go true = refl
    go false = place_kept a b seen e

place_stays : (b : ℕ) (seen bins : List ℕ) → member b seen ≡ true → place_of (used_from seen bins) b ≡ place_of seen b
unfolding used_from
place_stays b seen [] e = refl
place_stays b seen (a ∷ bins) e = place_stays b (with_bin seen a) bins (member_with b a seen e) ∙ place_with b a seen e

-- the numbers by first use are those that the search tries
grows_more : (m most used : ℕ) (bins : List ℕ) → m ≤ most → Grows m used bins → Grows most used bins
unfolding Grows
grows_more m most used [] l g = g
grows_more m most used (b ∷ bins) l g = (g.0, omega (arith, g.1), grows_more m most (max used (suc b)) bins l g.2)

grows_from : (order seen bins : List ℕ) → used_from seen bins ≡ order → Grows (length order) (length seen) (map (place_of order) bins)
unfolding used_from Grows
grows_from order seen [] is = tt
grows_from order seen (b ∷ bins) is =
    let placed : place_of order b ≡ place_of (with_bin seen b) b = ap (λ (l : List ℕ). place_of l b) (sym is) ∙ place_stays b (with_bin seen b) bins (member_self b seen) in
    let within : place_of order b < length order = place_within b order (ap (λ (l : List ℕ). member b l) (sym is) ∙ seen_stays b (with_bin seen b) bins (member_self b seen)) in
    go (member b seen) refl placed within (grows_from order (with_bin seen b) bins is)
  where
    go : (test : Bool) → member b seen ≡ test → place_of order b ≡ place_of (cond test seen (seen ++ (b ∷ []))) b → place_of order b < length order → Grows (length order) (length (cond test seen (seen ++ (b ∷ [])))) (map (place_of order) bins) → (place_of order b ≤ length seen) × (place_of order b < length order) × Grows (length order) (max (length seen) (suc (place_of order b))) (map (place_of order) bins)
    go true there placed within rest =
        let here = place_within b seen there in
        let same : max (length seen) (suc (place_of order b)) ≡ length seen = omega (arith, placed) in
        (omega (arith, placed), within, rw same rest)
    go false new placed within rest =
        let here = place_new b seen new in
        let same : max (length seen) (suc (place_of order b)) ≡ length (seen ++ (b ∷ [])) = omega (arith, placed, length-append seen (b ∷ [])) in
        (omega (arith, placed), within, rw same rest)

-- the renaming law at first use
module _ (bins : List ℕ) where
  abbrev order : List ℕ
  order = used_from [] bins

  abbrev binAt : ℕ → ℕ
  binAt i = get_or order i 0

  told_back : (some : List ℕ) → Covers order some → map binAt (map (place_of order) some) ≡ some
  unfolding Covers member
  told_back [] h = refl
  told_back (b ∷ some) h = cc (at_place b order (h b (rw (eq-eqb b b refl))), told_back some (λ a e. h a (rw e (or-true (eqb b a)))))

  told : map binAt (map (place_of order) bins) ≡ bins
  told = told_back bins (used_covers [] bins)

  pub renumbered_fits : (c : ℕ) (sizes : List ℕ) → Fits c sizes bins → Fits c sizes (renumbered bins)
  unfolding renumbered
  renumbered_fits = renamed_fits (place_of order) binAt bins told

  pub renumbered_uses : bins_used (renumbered bins) ≡ bins_used bins
  unfolding renumbered
  renumbered_uses = renamed_uses (place_of order) binAt bins told

  pub renumbered_grows : (most : ℕ) → bins_used bins ≤ most → Grows most 0 (renumbered bins)
  unfolding renumbered
  renumbered_grows most l = grows_more (length order) most 0 (map (place_of order) bins) (omega (arith, used_most bins)) (grows_from order [] bins refl)
