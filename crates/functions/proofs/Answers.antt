-- The answer of the image operation, by cases.
use Rattle.std.specs.Prelude.{Result, Ok, Err, IfOk}
use Rattle.std.specs.Result.{MatchResult}
use mathlib.Core.Path.{◌≡◌, ◌∙◌}
use Prim.Native.Nat.{ℕ, ◌≤◌, ◌<◌}
use native.Mathlib.Omega.{arith}
use borrow.Author.Tests.{ne_eqb, lt-ltb, le-ltb}
use Rattle.refusals.specs.Number.{number_in, number_of}
use Rattle.refusals.specs.declared.Refusal.{Refusal}
use Rattle.refusals.proofs.Numbers.{number_positive}
use Rattle.functions.specs.Families.{family_image, family_scale}
use Rattle.functions.specs.Image.{family_refusal, image_refusal, image_answer, refused_image}
use Rattle.functions.specs.declared.ImageAnswer.{ImageAnswer}

module _ (c family p q x : ℕ) where
  pub image_refused : (number : ℕ) → number ≡ image_refusal c family p q x → (number ≡ 0 → ⊥) → refused_image number ≡ image_answer c family p q x
  unfolding image_answer
  image_refused number e n = rw (← e, ne_eqb number 0 n)

  pub step_refused : (number : ℕ) → number ≡ family_refusal c family p q → (number ≡ 0 → ⊥) → number ≡ image_refusal c family p q x
  unfolding image_refusal
  step_refused number e n = rw (← e, ne_eqb number 0 n)

  pub image_over : family_refusal c family p q ≡ 0 → c < x → 5 ≡ image_refusal c family p q x
  unfolding image_refusal
  image_over e l = rw (e, lt-ltb c x l)

  pub image_passes : family_refusal c family p q ≡ 0 → x ≤ c → 0 ≡ image_refusal c family p q x
  unfolding image_refusal
  image_passes e l = rw (e, le-ltb c x l)

  pub image_accepted : family_refusal c family p q ≡ 0 → x ≤ c → record { number = 0; image = family_image c family p q x; scale = family_scale c family p q } ≡ image_answer c family p q x
  unfolding image_answer image_refusal
  image_accepted e l = rw (e, le-ltb c x l)

  -- the answer, from what accepts or refuses it
  pub image_told : (outcome : Result ImageAnswer Refusal) (answer : ImageAnswer) → number_in outcome ≡ image_refusal c family p q x → IfOk outcome (λ a. a ≡ image_answer c family p q x) → MatchResult outcome (λ a. answer ≡ a) (λ e. answer ≡ refused_image (number_of e)) → answer ≡ image_answer c family p q x
  image_told (Ok accepted) answer number told is = is ∙ told
  image_told (Err e) answer number told is = is ∙ image_refused _ number (λ none. omega (arith, none, number_positive e))
