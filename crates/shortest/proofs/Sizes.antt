-- Lists of sizes: two after one another, and one without a size that is no greater than the average.
use Rattle.std.proofs.lemmas.Bool.{cases_lt}
use Rattle.std.proofs.lemmas.List.{map-append, take-append-drop}
use Rattle.std.proofs.Math.Nat.{suc-mul, mul-le-mul_left}
use mathlib.Core.Path.{◌≡◌, refl, ap, sym, ◌∙◌}
use mathlib.Core.List.{List, [], ◌∷◌, ◌++◌, map}
use mathlib.Core.Logic.{◌⊎◌, inl, inr}
use Prim.Native.Nat.{ℕ, suc, ◌+◌, ◌*◌, ◌≤◌, ◌<◌}
use native.Mathlib.Omega.{arith}
use lib.ListN.{length, take, drop}
use Rattle.functions.specs.Words.{total}
use Rattle.functions.proofs.Superadditive.{total_append}
use Rattle.tables.specs.Table.{entry}
use Rattle.shortest.specs.Rows.{image_total}

module _ (t : List ℕ) where
  pub image_total_append : (xs ys : List ℕ) → image_total t (xs ++ ys) ≡ image_total t xs + image_total t ys
  image_total_append xs ys = ap total (map-append (entry t) xs ys) ∙ total_append (map (entry t) xs) (map (entry t) ys)

  -- a list cut in two
  pub cut_total : (j : ℕ) (xs : List ℕ) → total (take j xs) + total (drop j xs) ≡ total xs
  cut_total j xs = sym (total_append (take j xs) (drop j xs)) ∙ ap total (take-append-drop j xs)

  pub cut_image_total : (j : ℕ) (xs : List ℕ) → image_total t (take j xs) + image_total t (drop j xs) ≡ image_total t xs
  cut_image_total j xs = sym (image_total_append (take j xs) (drop j xs)) ∙ ap (image_total t) (take-append-drop j xs)

  -- a list without one of its sizes, of which as many as the list has would fit
  pub record Without (xs : List ℕ) : Type 0 where
    pub size : ℕ
    pub others : List ℕ
    pub fewer : suc (length others) ≡ length xs
    pub fits : size + total others ≡ total xs
    pub images : entry t size + image_total t others ≡ image_total t xs
    pub small : length xs * size ≤ total xs

  pub without_one : (x : ℕ) (xs : List ℕ) → Without (x ∷ xs)
  unfolding total
  without_one x [] = record { size = x; others = []; fewer = refl; fits = refl; images = refl; small = omega arith }
  without_one x (y ∷ ys) = go (without_one y ys)
    where
      go : Without (y ∷ ys) → Without (x ∷ y ∷ ys)
      go w = by (cases_lt w.size x)
        where
          by : (w.size < x) ⊎ (x ≤ w.size) → Without (x ∷ y ∷ ys)
          by (inl less) =
              record {
                size = w.size;
                others = x ∷ w.others;
                fewer = ap suc w.fewer;
                fits = omega (arith, w.fits);
                images = omega (arith, w.images);
                small = omega (arith, w.small, suc-mul (length (y ∷ ys)) w.size);
              }
          by (inr more) =
              record {
                size = x;
                others = y ∷ ys;
                fewer = refl;
                fits = refl;
                images = refl;
                small = omega (arith, w.small, mul-le-mul_left (length (y ∷ ys)) more, suc-mul (length (y ∷ ys)) x);
              }
