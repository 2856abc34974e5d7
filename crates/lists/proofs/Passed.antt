-- What the refusals of a counted list leave, and that they are no others.
use mathlib.Core.Path.{◌≡◌, subst, sym}
use mathlib.Core.Bool.{not, ◌||◌}
use mathlib.Core.List.{List}
use mathlib.Core.Logic.{◌⊎◌, inl, inr}
use Prim.Native.Nat.{ℕ}
use native.Mathlib.Omega.{arith}
use borrow.Author.Tests.{not-false, ltb-false, eqb-true}
use lib.Dec.{ltb, eqb}
use lib.ListN.{length}
use Rattle.std.proofs.lemmas.Bool.{or_parts}
use Rattle.functions.proofs.Cases.{not_refused}
use Rattle.fields.specs.Grammar.{most_sizes}
use Rattle.lists.specs.Counted.{counted_refusal, CountedList}

module _ (c : ℕ) (sizes counts : List ℕ) where
  pub counted : counted_refusal c sizes counts ≡ 0 → CountedList c sizes counts
  unfolding counted_refusal
  counted e =
      let six = not_refused (ltb most_sizes (length sizes) || not (eqb (length counts) (length sizes))) 6 _ (omega arith) e in
      let lengths = or_parts (ltb most_sizes (length sizes)) (not (eqb (length counts) (length sizes))) six.0 in
      record {
        few = ltb-false most_sizes (length sizes) lengths.0;
        one_each = eqb-true _ _ (not-false _ lengths.1);
        within = grind arith;
        positive = grind arith;
      }

  -- the refusal is one of these numbers
  one_of : (counted_refusal c sizes counts ≡ 6) ⊎ ((counted_refusal c sizes counts ≡ 17) ⊎ ((counted_refusal c sizes counts ≡ 22) ⊎ (counted_refusal c sizes counts ≡ 0)))
  unfolding counted_refusal
  one_of = grind arith

  -- what holds of 6, 17, 22 and 0 holds of the number
  pub of_counted : (P : ℕ → Type 0) → P 6 → P 17 → P 22 → P 0 → P (counted_refusal c sizes counts)
  of_counted P six seventeen twenty-two none =
      elim one_of [
        | inl e ↦ subst P (sym e) six
        | inr (inl e) ↦ subst P (sym e) seventeen
        | inr (inr (inl e)) ↦ subst P (sym e) twenty-two
        | inr (inr (inr e)) ↦ subst P (sym e) none
      ]
