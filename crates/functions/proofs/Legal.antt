-- What refusals 1 to 4 leave of a family step, as facts on numbers.
use Rattle.std.proofs.lemmas.Bool.{cases_lt}
use mathlib.Core.Path.{◌≡◌, refl, sym, ◌∙◌}
use mathlib.Core.Bool.{Bool, true, false, cond, not, ◌&&◌, ◌||◌, and-eq-true_iff, and-false, or-true}
use mathlib.Core.Logic.{◌⊎◌, inl, inr, ⊎_elim}
use Prim.Native.Nat.{ℕ, zero, suc, ◌+◌, ◌-◌, ◌*◌, ◌%◌, ◌≤◌, ◌<◌}
use native.Mathlib.Nat.{mod-lt, mul-le-mul_right}
use native.Mathlib.Omega.{arith}
use borrow.Author.Tests.{leb-true, ltb-true, ltb-false, eqb-true, le-leb, lt-leb, lt-ltb, le-ltb, eq-eqb, not-false}
use lib.Dec.{leb, ltb, eqb}
use Rattle.functions.specs.Words.{limit, capacity_fits}
use Rattle.functions.specs.Families.{is_family, legal, legal_for, legal_pair, family_scale, ◌up◌}
use Rattle.functions.specs.Image.{family_refusal}
use Rattle.functions.specs.Prepared.{greatest_p}
use Rattle.functions.proofs.Cases.{not_refused}
use Rattle.functions.proofs.Quotient.{up_reaches}

-- by cases on a family byte
pub seven : (P : ℕ → Type 0) → P 1 → P 2 → P 3 → P 4 → P 5 → P 6 → P 7 → (n : ℕ) → 1 ≤ n → n ≤ 7 → P n
seven P a b c d e f g zero l m = absurd (omega arith)
seven P a b c d e f g (suc zero) l m = a
seven P a b c d e f g (suc (suc zero)) l m = b
seven P a b c d e f g (suc (suc (suc zero))) l m = c
seven P a b c d e f g (suc (suc (suc (suc zero)))) l m = d
seven P a b c d e f g (suc (suc (suc (suc (suc zero))))) l m = e
seven P a b c d e f g (suc (suc (suc (suc (suc (suc zero)))))) l m = f
seven P a b c d e f g (suc (suc (suc (suc (suc (suc (suc zero))))))) l m = g
seven P a b c d e f g (suc (suc (suc (suc (suc (suc (suc (suc n)))))))) l m = absurd (omega arith)

both : (a b : Bool) → a && b ≡ true → (a ≡ true) × (b ≡ true)
both a b e = (and-eq-true_iff a b).0 e

pub both_le : (a b m n : ℕ) → leb a b && leb m n ≡ true → (a ≤ b) × (m ≤ n)
both_le a b m n e =
    let parts = both (leb a b) (leb m n) e in
    (leb-true a b parts.0, leb-true m n parts.1)

pub passed : (b : Bool) (number rest : ℕ) → 0 < number → cond (not b) number rest ≡ 0 → (b ≡ true) × (rest ≡ 0)
passed b number rest l e =
    let n = not_refused (not b) number rest l e in
    (not-false b n.0, n.1)

pub capacity_bounds : (c : ℕ) → capacity_fits c ≡ true → (1 ≤ c) × (c ≤ limit)
unfolding capacity_fits
capacity_bounds c e = both_le 1 c c limit e

pub family_bounds : (family : ℕ) → is_family family ≡ true → (1 ≤ family) × (family ≤ 7)
unfolding is_family
family_bounds family e = both_le 1 family family 7 e

pub record Accepted (c family p q : ℕ) : Type 0 where
  pub capacity_in_range : capacity_fits c ≡ true
  pub capacity_positive : 1 ≤ c
  pub capacity_within_limit : c ≤ limit
  pub family_known : is_family family ≡ true
  pub family_least : 1 ≤ family
  pub family_most : family ≤ 7
  pub is_legal : legal c family p q ≡ true
  pub scale_within_limit : family_scale c family p q ≤ limit

pub accepted : (c family p q : ℕ) → family_refusal c family p q ≡ 0 → Accepted c family p q
unfolding family_refusal
accepted c family p q e =
    let one = passed (capacity_fits c) 1 _ (omega arith) e in
    let two = passed (is_family family) 2 _ (omega arith) one.1 in
    let three = passed (legal c family p q) 3 _ (omega arith) two.1 in
    let capacity = capacity_bounds c one.0 in
    let byte = family_bounds family two.0 in
    record {
      capacity_in_range = one.0;
      capacity_positive = capacity.0;
      capacity_within_limit = capacity.1;
      family_known = two.0;
      family_least = byte.0;
      family_most = byte.1;
      is_legal = three.0;
      scale_within_limit = ltb-false limit (family_scale c family p q) (not_refused _ 4 0 (omega arith) three.1).0;
    }

pub family_refusal_most : (c family p q : ℕ) → family_refusal c family p q ≤ 4
unfolding family_refusal
family_refusal_most c family p q = most (capacity_fits c) (is_family family) (legal c family p q) (ltb limit (family_scale c family p q))
  where
    most : (a b d e : Bool) → cond (not a) 1 (cond (not b) 2 (cond (not d) 3 (cond e 4 0))) ≤ 4
    most false b d e = omega arith
    most true false d e = omega arith
    most true true false e = omega arith
    most true true true true = omega arith
    most true true true false = omega arith

-- the limits of an accepted step's numbers
pub record Within (c p q : ℕ) : Type 0 where
  pub capacity_positive : 1 ≤ c
  pub capacity_within_limit : c ≤ limit
  pub p_within_limit : p ≤ limit
  pub q_within_limit : q ≤ limit

-- what families 6 and 7 ask
pub record LegalPair (c p q : ℕ) : Type 0 where
  pub least : 1 ≤ p
  pub most : p ≤ c
  pub remainder : 0 < c % p
  pub below : c % p < p
  pub enough : p - c % p ≤ q * (c % p)

module _ (c p q : ℕ) where
  legal_pair_lem : legal_pair c p q ≡ true → LegalPair c p q
  unfolding legal_pair
  legal_pair_lem e =
      let last = both (leb 1 p && leb p c && ltb 0 (c % p)) (leb ((p up (c % p)) - 1) q) e in
      let third = both (leb 1 p && leb p c) (ltb 0 (c % p)) last.0 in
      let range = both_le 1 p p c third.0 in
      let positive = ltb-true 0 (c % p) third.1 in
      let q-least = leb-true ((p up (c % p)) - 1) q last.1 in
      let reach : (p up (c % p)) * (c % p) ≤ (q + 1) * (c % p) = mul-le-mul_right (c % p) (omega arith) in
      record {
        least = range.0;
        most = range.1;
        remainder = positive;
        below = mod-lt c range.0;
        enough = omega (arith, up_reaches (c % p) positive p);
      }

  pub parameters : (family : ℕ) → legal c family p q ≡ true → (p ≤ limit) × (q ≤ limit)
  unfolding legal
  parameters family e =
      let three = both (leb p limit && leb q limit && (ltb 5 family || eqb q 0)) (legal_for c family p q) e in
      let two = both (leb p limit && leb q limit) (ltb 5 family || eqb q 0) three.0 in
      both_le p limit q limit two.0

  -- families 1 to 5 have no q
  pub no_q : (family : ℕ) → family ≤ 5 → family_refusal c family p q ≡ 0 → q ≡ 0
  unfolding legal
  no_q family l e =
      let three = both (leb p limit && leb q limit && (ltb 5 family || eqb q 0)) (legal_for c family p q) (accepted c family p q e).is_legal in
      let or = (both (leb p limit && leb q limit) (ltb 5 family || eqb q 0) three.0).1 in
      eqb-true q 0 (rw (le-ltb 5 family l) at or)

  pub within : (family : ℕ) → capacity_fits c ≡ true → legal c family p q ≡ true → Within c p q
  within family fits e =
      let capacity = capacity_bounds c fits in
      let parameter = parameters family e in
      record {
        capacity_positive = capacity.0;
        capacity_within_limit = capacity.1;
        p_within_limit = parameter.0;
        q_within_limit = parameter.1;
      }

  pub limits : (family : ℕ) → family_refusal c family p q ≡ 0 → Within c p q
  limits family e =
      let a = accepted c family p q e in
      within family a.capacity_in_range a.is_legal

  pub legal_of : (family : ℕ) → family_refusal c family p q ≡ 0 → legal c family p q ≡ true
  legal_of family e = (accepted c family p q e).is_legal

  -- within the limits, and for families 1 to 5 with q 0, only the family's own line counts
  pub legal_within : (family : ℕ) → p ≤ limit → q ≤ limit → (5 < family) ⊎ (q ≡ 0) → legal c family p q ≡ legal_for c family p q
  unfolding legal
  legal_within family hp hq (inl l) = rw (le-leb p limit hp, le-leb q limit hq, lt-ltb 5 family l)
  legal_within family hp hq (inr e) = rw (le-leb p limit hp, le-leb q limit hq, eq-eqb q 0 e, or-true (ltb 5 family))

  pub legal_for_pair : (family : ℕ) → 5 < family → family ≤ 7 → legal_for c family p q ≡ legal_pair c p q
  unfolding legal_for
  legal_for_pair family l m = ⊎_elim (λ k. rw (six k)) (λ k. rw (seventh k)) (cases_lt family 7)
    where
      six : family < 7 → family ≡ 6
      six k = omega arith

      seventh : 7 ≤ family → family ≡ 7
      seventh k = omega arith

  own : (family : ℕ) → legal c family p q ≡ true → legal_for c family p q ≡ true
  unfolding legal
  own family e = (both (leb p limit && leb q limit && (ltb 5 family || eqb q 0)) (legal_for c family p q) e).1

  pub legal_1 : legal c 1 p q ≡ true → 2 * p ≤ c + 1
  unfolding legal_for
  legal_1 e = omega (arith, leb-true (2 * p) _ (own 1 e))

  pub legal_2 : legal c 2 p q ≡ true → 1 ≤ p
  unfolding legal_for
  legal_2 e = leb-true 1 p (own 2 e)

  pub legal_3 : legal c 3 p q ≡ true → (1 ≤ p) × (2 * p ≤ c)
  unfolding legal_for
  legal_3 e = both_le 1 p (2 * p) c (own 3 e)

  pub legal_4 : legal c 4 p q ≡ true → (2 ≤ p) × (p ≤ c)
  unfolding legal_for
  legal_4 e = both_le 2 p p c (own 4 e)

  pub legal_5 : legal c 5 p q ≡ true → (1 ≤ p) × (p ≤ c)
  unfolding legal_for
  legal_5 e = both_le 1 p p c (own 5 e)

  pub legal_6 : legal c 6 p q ≡ true → LegalPair c p q
  unfolding legal_for
  legal_6 e = legal_pair_lem (own 6 e)

  pub legal_7 : legal c 7 p q ≡ true → LegalPair c p q
  unfolding legal_for
  legal_7 e = legal_pair_lem (own 7 e)

  by_own_line : (family : ℕ) → legal_for c family p q ≡ false → legal c family p q ≡ false
  unfolding legal
  by_own_line family e = rw e (and-false (leb p limit && leb q limit && (ltb 5 family || eqb q 0)))

  over_pair : c < p → legal_pair c p q ≡ false
  unfolding legal_pair
  over_pair l = rw (lt-leb p c l, and-false (leb 1 p))

  -- a p over the greatest is illegal
  pub over_greatest : (family : ℕ) → 1 ≤ c → 1 ≤ family → family ≤ 7 → greatest_p c family < p → legal c family p q ≡ false
  unfolding legal legal_for
  over_greatest family pos least most over =
      seven (λ n. greatest_p c n < p → legal c n p q ≡ false)
      (λ l. by_own_line 1 (lt-leb (2 * p) (c + 1) (omega (arith, l))))
      (λ l. rw (lt-leb p limit l))
      (λ l. by_own_line 3 (rw (lt-leb (2 * p) c (omega (arith, l))) (and-false (leb 1 p))))
      (λ l. by_own_line 4 (rw (lt-leb p c l) (and-false (leb 2 p))))
      (λ l. by_own_line 5 (rw (lt-leb p c l) (and-false (leb 1 p))))
      (λ l. by_own_line 6 (over_pair l))
      (λ l. by_own_line 7 (over_pair l))
      family least most over

  -- only family 1 takes p = 0
  pub p_positive : (family : ℕ) → (family ≡ 1 → ⊥) → family_refusal c family p q ≡ 0 → 1 ≤ p
  p_positive family other e =
      let a = accepted c family p q e in
      seven (λ n. (n ≡ 1 → ⊥) → legal c n p q ≡ true → 1 ≤ p)
      (λ k. absurd (k refl))
      (λ _ l. legal_2 l)
      (λ _ l. (legal_3 l).0)
      (λ _ l. omega (arith, legal_4 l))
      (λ _ l. (legal_5 l).0)
      (λ _ l. (legal_6 l).least)
      (λ _ l. (legal_7 l).least)
      family a.family_least a.family_most other a.is_legal

-- with q 0 only families 1 to 5 are accepted
pub single_most : (c family p : ℕ) → family_refusal c family p 0 ≡ 0 → family ≤ 5
single_most c family p e = ⊎_elim (λ l. absurd (pair l)) (λ h. h) (cases_lt 5 family)
  where
    pair : 5 < family → ⊥
    pair l =
        let a = accepted c family p 0 e in
        let legal_here = legal_pair_lem c p 0 (sym (legal_for_pair c p 0 family l a.family_most) ∙ own c p 0 family a.is_legal) in
        omega arith
