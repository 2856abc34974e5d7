-- The image operation of document 01, "Operations and what they refuse", and the judgement of a family step, which is its refusals 1 to 4.
use Rattle.std.specs.Prelude.{cond, not, ℕ, ltb, eqb}
use Rattle.functions.specs.Words.{limit, capacity_fits}
use Rattle.functions.specs.Families.{is_family, legal, family_image, family_scale}
use Rattle.functions.specs.declared.ImageAnswer.{ImageAnswer}

-- the number that refuses a family step at capacity c, or 0
unfoldable pub family_refusal : ℕ → ℕ → ℕ → ℕ → ℕ
family_refusal c family p q =
    cond (not (capacity_fits c)) 1
    (cond (not (is_family family)) 2
    (cond (not (legal c family p q)) 3
    (cond (ltb limit (family_scale c family p q)) 4 0)))

-- the number that refuses an image, or 0
unfoldable pub image_refusal : ℕ → ℕ → ℕ → ℕ → ℕ → ℕ
image_refusal c family p q x =
    cond (eqb (family_refusal c family p q) 0) (cond (ltb c x) 5 0) (family_refusal c family p q)

-- an image that is refused
abbrev pub refused_image : ℕ → ImageAnswer
refused_image number = record { number = number; image = 0; scale = 0 }

-- the whole operation
unfoldable pub image_answer : ℕ → ℕ → ℕ → ℕ → ℕ → ImageAnswer
image_answer c family p q x =
    record {
      number = image_refusal c family p q x;
      image = cond (eqb (image_refusal c family p q x) 0) (family_image c family p q x) 0;
      scale = cond (eqb (image_refusal c family p q x) 0) (family_scale c family p q) 0;
    }
