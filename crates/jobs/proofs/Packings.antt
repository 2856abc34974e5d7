-- The floor of an accepted chain is at most the bins of every packing of the copies that fits, and its cut holds. The rows on packings and blocks, the
-- copies where each count is 1, and the floor of the empty list.
use mathlib.Core.Path.{◌≡◌, refl, ap, sym, ◌∙◌}
use mathlib.Core.Bool.{Bool, true, false, cond, ◌||◌, or-true, false≢true}
use mathlib.Core.List.{List, [], ◌∷◌, map, map-id}
use mathlib.Core.Logic.{◌⊎◌, inl, inr}
use Prim.Native.Nat.{ℕ, zero, suc, ◌+◌, ◌≤◌}
use native.Mathlib.Nat.{le_trans}
use native.Mathlib.Omega.{arith}
use borrow.Author.Tests.{eqb-true, eq-eqb}
use lib.Dec.{eqb}
use lib.ListN.{length, replicate, length-map, get_or}
use Rattle.functions.specs.Words.{limit, total, weighted}
use Rattle.functions.specs.Families.{◌up◌}
use Rattle.functions.specs.Promise.{StepPromise}
use Rattle.functions.proofs.Superadditive.{total_append}
use Rattle.functions.proofs.Totals.{total_none, total_cons, weighted_no_counts, weighted_none, weighted_cons, total_plus, total_repeated, feasible_images}
use Rattle.std.proofs.lemmas.List.{map-append}
use Rattle.functions.proofs.Quotient.{up_zero, up_least}
use Rattle.functions.proofs.Summed.{total_most}
use Rattle.fields.specs.Parts.{Step}
use Rattle.chains.specs.Chain.{chain_image, chain_scale, ChainAccepted, chain_floor}
use Rattle.jobs.specs.Packing.{copies, load, Fits, member, distinct, bins_used, block_of_each, KeepsSeparate}
use Rattle.jobs.specs.Rows.{PackingRows}
use Rattle.chains.proofs.Chains.{chain_promise}

-- a copy of each of two blocks: separate in two bins, and not in one
two_bins : KeepsSeparate (0 ∷ 1 ∷ []) (4 ∷ 1 ∷ [])
unfolding KeepsSeparate
two_bins zero zero l m e = refl
two_bins zero (suc zero) l m e = absurd (omega (arith, e))
two_bins zero (suc (suc j)) l m e = absurd (omega (arith, m))
two_bins (suc zero) zero l m e = absurd (omega (arith, e))
two_bins (suc zero) (suc zero) l m e = refl
two_bins (suc zero) (suc (suc j)) l m e = absurd (omega (arith, m))
two_bins (suc (suc i)) j l m e = absurd (omega (arith, l))

one_bin : KeepsSeparate (0 ∷ 1 ∷ []) (4 ∷ 4 ∷ []) → ⊥
unfolding KeepsSeparate
one_bin separate = omega (arith, separate 0 1 (omega arith) (omega arith) refl)

pub packing_rows : PackingRows
unfolding copies load member distinct bins_used block_of_each
packing_rows =
    let all = weighted_cons 2 (0 ∷ 1 ∷ []) 7 (5 ∷ 3 ∷ []) in
    let two = weighted_cons 0 (1 ∷ []) 5 (3 ∷ []) in
    let one = weighted_cons 1 [] 3 [] in
    record {
      load_of_two = refl;
      load_of_one = refl;
      load_of_none = refl;
      used_two = refl;
      no_bins_used = refl;
      copies_counted = refl;
      blocks_of_copies = refl;
      in_two_bins = two_bins;
      in_one_bin = one_bin;
      weighted_total = omega (arith, all, two, one, weighted_none []);
    }

-- "it is 0 for an empty list"
pub empty_floor : (c : ℕ) (steps : List Step) (counts : List ℕ) → chain_floor c steps counts [] ≡ 0
unfolding chain_floor
empty_floor c steps counts = ap (λ (sum : ℕ). sum up chain_scale c steps) (weighted_none counts) ∙ up_zero (chain_scale c steps)

-- the sizes that a packing puts into bin b
select : ℕ → List ℕ → List ℕ → List ℕ
select b [] bins = []
select b (x ∷ xs) [] = []
select b (x ∷ xs) (a ∷ bins) = cond (eqb a b) (x ∷ select b xs bins) (select b xs bins)

-- the load of the images is the total of the images of those sizes
load_of : (f : ℕ → ℕ) (b : ℕ) (xs bins : List ℕ) → load b (map f xs) bins ≡ total (map f (select b xs bins))
unfolding load select
load_of f b [] bins = sym total_none
load_of f b (x ∷ xs) [] = sym total_none
load_of f b (x ∷ xs) (a ∷ bins) = go (eqb a b) (load_of f b xs bins)
  where
    go : (test : Bool) → load b (map f xs) bins ≡ total (map f (select b xs bins)) → cond test (f x) 0 + load b (map f xs) bins ≡ total (map f (cond test (x ∷ select b xs bins) (select b xs bins)))
    go true e = omega (arith, e, total_cons (f x) (map f (select b xs bins)))
    go false e = omega (arith, e)

load_is : (b : ℕ) (xs bins : List ℕ) → load b xs bins ≡ total (select b xs bins)
load_is b xs bins = simp map-id at (load_of (λ x. x) b xs bins)

pub either : (a b : Bool) → a || b ≡ true → (a ≡ true) ⊎ (b ≡ true)
either true b e = inl refl
either false b e = inr e

-- a bin of the list gets the size
counted : (a x : ℕ) (ws : List ℕ) → member a ws ≡ true → x ≤ total (map (λ w. cond (eqb a w) x 0) ws)
unfolding member
counted a x [] e = absurd (false≢true e)
counted a x (w ∷ ws) e = rw (total_cons _ _) (go (either (eqb w a) (member a ws) e) (counted a x ws))
  where
    go : (eqb w a ≡ true) ⊎ (member a ws ≡ true) → (member a ws ≡ true → x ≤ total (map (λ v. cond (eqb a v) x 0) ws)) → x ≤ cond (eqb a w) x 0 + total (map (λ v. cond (eqb a v) x 0) ws)
    go (inl here) rest = rw (eq-eqb a w (sym (eqb-true w a here))) (omega arith)
    go (inr later) rest = omega (arith, rest later)

-- every bin that is used stands in `ws`
unfoldable pub Covers : List ℕ → List ℕ → Type 0
Covers ws bins = (b : ℕ) → member b bins ≡ true → member b ws ≡ true

pub covered : (ws xs bins : List ℕ) → length bins ≡ length xs → Covers ws bins → total xs ≤ total (map (λ w. load w xs bins) ws)
unfolding load member Covers
covered ws [] bins l c = omega (arith, total_none)
covered ws (x ∷ xs) [] l c = absurd (omega arith)
covered ws (x ∷ xs) (a ∷ bins) l c =
    let rest = covered ws xs bins (omega arith) (λ b e. c b (rw e (or-true (eqb a b)))) in
    let here = counted a x ws (c a (rw (eq-eqb a a refl))) in
    omega (arith, rest, here, total_cons x xs, total_plus (λ w. cond (eqb a w) x 0) (λ w. load w xs bins) ws)

pub distinct_covers : (bins : List ℕ) → Covers (distinct bins) bins
unfolding Covers member distinct
distinct_covers [] b e = e
distinct_covers (a ∷ bins) b e = go (member a bins) refl (either (eqb a b) (member b bins) e) (distinct_covers bins b)
  where
    go : (test : Bool) → member a bins ≡ test → (eqb a b ≡ true) ⊎ (member b bins ≡ true) → (member b bins ≡ true → member b (distinct bins) ≡ true) → member b (cond test (distinct bins) (a ∷ distinct bins)) ≡ true
    go true is (inl same) rest = rest (ap (λ (n : ℕ). member n bins) (sym (eqb-true a b same)) ∙ is)
    go true is (inr later) rest = rest later
    go false is (inl same) rest = rw same
    go false is (inr later) rest = rw (rest later) (or-true (eqb a b))

-- the total over the copies is the weighted sum: floors and cuts both rest on it
pub copies_total : (f : ℕ → ℕ) (counts sizes : List ℕ) → total (map f (copies counts sizes)) ≡ weighted counts (map f sizes)
unfolding copies
copies_total f [] sizes = total_none ∙ sym (weighted_no_counts (map f sizes))
copies_total f (n ∷ counts) [] = total_none ∙ sym (weighted_none (n ∷ counts))
copies_total f (n ∷ counts) (x ∷ sizes) =
    ap total (map-append f (replicate n x) (copies counts sizes))
    ∙ total_append (map f (replicate n x)) (map f (copies counts sizes))
    ∙ omega (arith, total_repeated f n x, copies_total f counts sizes, weighted_cons n counts (f x) (map f sizes))

-- where each count is 1, the copies are the list
pub copies_of_ones : (sizes : List ℕ) → copies (replicate (length sizes) 1) sizes ≡ sizes
unfolding copies
copies_of_ones [] = refl
copies_of_ones (x ∷ sizes) = ap (λ (xs : List ℕ). x ∷ xs) (copies_of_ones sizes)

module _ (c : ℕ) (steps : List Step) (l : 1 ≤ c) (m : c ≤ limit) (a : ChainAccepted c steps) where
  chain : StepPromise (chain_image c steps) c (chain_scale c steps)
  chain = chain_promise steps c l m a

  pub floor_safe : (counts sizes bins : List ℕ) → Fits c (copies counts sizes) bins → chain_floor c steps counts sizes ≤ bins_used bins
  unfolding chain_floor bins_used
  floor_safe counts sizes bins h =
      let f = chain_image c steps in
      let all = copies counts sizes in
      let share : (b : ℕ) → load b (map f all) bins ≤ chain_scale c steps = λ b. rw (load_of f b all bins) (feasible_images chain (select b all bins) (rw (load_is b all bins) at (h.within b))) in
      rw (← (copies_total f counts sizes))
      (up_least (chain_scale c steps) chain.scale_positive (total (map f all)) (length (distinct bins))
      (le_trans
      (covered (distinct bins) (map f all) bins (h.one_each ∙ sym (length-map all f)) (distinct_covers bins))
      (total_most (λ b. load b (map f all) bins) (chain_scale c steps) (distinct bins) (λ i l. share (get_or (distinct bins) i 0)))))

  pub cut_holds : (row counts : List ℕ) → length counts ≡ length row → weighted counts row ≤ c → weighted counts (map (chain_image c steps) row) ≤ chain_scale c steps
  cut_holds row counts e h =
      let plain : total (copies counts row) ≡ weighted counts row = simp map-id at (copies_total (λ x. x) counts row) in
      rw (← (copies_total (chain_image c steps) counts row)) (feasible_images chain (copies counts row) (omega (arith, plain, h)))
