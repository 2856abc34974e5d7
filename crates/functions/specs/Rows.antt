-- The starred rows of document 01, "Checked by reckoning", on families, and those of request 5: inputs of the image operation
-- with the answer they must have.
-- The crate `tables` has the rows on tables, and the theorem that all of them hold.
use Rattle.std.specs.Prelude.{Bool, ◌&&◌, List, [], ◌∷◌, ℕ, eqb}
use Rattle.functions.specs.Image.{image_answer}
use Rattle.functions.specs.declared.ImageAnswer.{ImageAnswer}

pub record ImageRow : Type 0 where
  pub capacity : ℕ
  pub family : ℕ
  pub p : ℕ
  pub q : ℕ
  pub x : ℕ
  pub answer : ImageAnswer

unfoldable pub same_answer : ImageAnswer → ImageAnswer → Bool
same_answer a b = eqb a.number b.number && eqb a.image b.image && eqb a.scale b.scale

unfoldable pub image_row_holds : ImageRow → Bool
image_row_holds row = same_answer (image_answer row.capacity row.family row.p row.q row.x) row.answer

abbrev gives : ℕ → ℕ → ImageAnswer
gives image scale = record { number = 0; image = image; scale = scale }

abbrev refused : ℕ → ImageAnswer
refused number = record { number = number; image = 0; scale = 0 }

-- capacity, family, p, q, x, answer
abbrev row : ℕ → ℕ → ℕ → ℕ → ℕ → ImageAnswer → ImageRow
row capacity family p q x answer = record { capacity = capacity; family = family; p = p; q = q; x = x; answer = answer }

unfoldable pub image_rows : List ImageRow
image_rows =
    row 10 1 3 0 2 (gives 0 10)
    ∷ row 10 1 3 0 3 (gives 3 10)
    ∷ row 10 1 3 0 7 (gives 7 10)
    ∷ row 10 1 3 0 8 (gives 10 10)
    ∷ row 10 1 5 0 5 (gives 5 10)
    ∷ row 10 1 6 0 5 (refused 3)
    ∷ row 10 2 2 0 3 (gives 0 20)
    ∷ row 10 2 2 0 4 (gives 10 20)
    ∷ row 10 2 2 0 7 (gives 20 20)
    ∷ row 9 2 2 0 3 (gives 6 18)
    ∷ row 9 2 2 0 4 (gives 9 18)
    ∷ row 10 3 3 0 3 (gives 2 6)
    ∷ row 10 3 3 0 5 (gives 3 6)
    ∷ row 10 3 3 0 6 (gives 4 6)
    ∷ row 10 3 3 0 8 (gives 6 6)
    ∷ row 10 4 2 0 4 (gives 0 2)
    ∷ row 10 4 2 0 5 (gives 1 2)
    ∷ row 10 4 2 0 6 (gives 2 2)
    ∷ row 10 5 4 0 2 (gives 0 4)
    ∷ row 10 5 4 0 3 (gives 1 4)
    ∷ row 10 5 4 0 7 (gives 3 4)
    ∷ row 10 6 3 2 2 (gives 2 18)
    ∷ row 10 6 3 2 5 (gives 9 18)
    ∷ row 10 6 3 2 8 (gives 16 18)
    ∷ row 10 6 3 1 2 (refused 3)
    ∷ row 10 6 5 2 2 (refused 3)
    ∷ row 10 7 3 2 2 (gives 3 18)
    ∷ row 10 7 3 2 5 (gives 9 18)
    ∷ row 10 7 3 2 8 (gives 15 18)
    ∷ row 10 7 3 3 2 (gives 4 24)
    -- request 5: half of an odd window
    ∷ row 5 1 3 0 2 (gives 0 5)
    ∷ row 5 1 3 0 3 (gives 5 5)
    ∷ row 6 1 4 0 3 (refused 3)
    ∷ row 1 1 1 0 1 (gives 1 1)
    ∷ []
