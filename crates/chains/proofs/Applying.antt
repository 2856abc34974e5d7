-- A step applied to a list: from what the lower crates promise.
use mathlib.Core.Path.{◌≡◌, refl, sym, ◌∙◌}
use mathlib.Core.List.{List, ◌∷◌, map, map-id, map-map}
use Prim.Native.Nat.{ℕ, suc, ◌+◌, ◌≤◌, ◌<◌}
use native.Mathlib.Numerals.{add-one}
use native.Mathlib.Omega.{arith}
use lib.ListN.{length, get_or, drop, length-map, drop_of_length-le}
use Rattle.std.proofs.lemmas.List.{get_or-map}
use Rattle.functions.specs.Words.{EachWithin}
use Rattle.functions.specs.Promise.{StepPromise}
use Rattle.tables.specs.Table.{entry, table_scale}
use Rattle.fields.specs.Parts.{Step, on_table}
use Rattle.chains.specs.Chain.{step_image, step_scale, chain_image, chain_scale, ChainAccepted}
use Rattle.chains.specs.Apply.{Appliable, Applied, ChainAppliable, ChainApplied}
use Rattle.chains.proofs.Chains.{step_promise}

pub table_applied : (c : ℕ) (t xs ys : List ℕ) (d : ℕ) → (d ≡ table_scale t) × (ys ≡ map (entry t) xs) → Applied c (on_table t) xs d ys
unfolding step_scale step_image
table_applied c t xs ys d e = record { scale_is = e.0; images_are = e.1 }

-- the images of sizes within the capacity are within the scale
pub images_within : {f : ℕ → ℕ} {c d : ℕ} → StepPromise f c d → (xs : List ℕ) → EachWithin c xs → EachWithin d (map f xs)
images_within {f} promise xs within i l =
    let inside : i < length xs = omega (arith, length-map xs f) in
    rw (get_or-map f xs i 0 0 inside) (promise.image_within_scale (get_or xs i 0) (within i inside))

-- the images after i steps of an accepted chain, and what is left to do
pub record Through (c : ℕ) (S : List Step) (old images : List ℕ) (present i : ℕ) : Type 0 where
  pub mapped : map (chain_image present (drop i S)) images ≡ map (chain_image c S) old
  pub scaled : chain_scale present (drop i S) ≡ chain_scale c S
  pub left : ChainAppliable present (drop i S) images
  pub same_length : length images ≡ length old

module _ (c : ℕ) (S : List Step) (old : List ℕ) where
  pub through_start : ChainAppliable c S old → Through c S old old c 0
  through_start a = record { mapped = refl; scaled = refl; left = a; same_length = refl }

  module _ (images : List ℕ) (present i : ℕ) (t : Through c S old images present i) where
    module _ (s : Step) (here : drop i S ≡ s ∷ drop (suc i) S) where
      accepted : ChainAccepted present (s ∷ drop (suc i) S)
      accepted = rw here at t.left.accepted

      pub appliable : Appliable present s images
      unfolding ChainAccepted
      appliable = record { accepted = accepted.0; within = t.left.within }

      pub through_next : (d : ℕ) (next : List ℕ) → Applied present s images d next → Through c S old next d (i + 1)
      unfolding ChainAccepted chain_image chain_scale
      through_next d next a =
          let promise = step_promise present s t.left.positive appliable.accepted in
          rw (add-one, a.scale_is, a.images_are)
          (record {
            mapped = map-map (chain_image (step_scale present s) (drop (suc i) S)) (step_image present s) images ∙ rw here at t.mapped;
            scaled = rw here at t.scaled;
            left =
                record {
                  positive = promise.scale_positive;
                  in_limit = promise.scale_within_limit;
                  accepted = accepted.1;
                  within = images_within promise images t.left.within;
                };
            same_length = length-map images (step_image present s) ∙ t.same_length;
          })

    pub through_end : length S ≤ i → ChainApplied c S old present images
    unfolding chain_image chain_scale
    through_end l =
        let over = drop_of_length-le S {i = i} l in
        record { scale_is = rw over at t.scaled; images_are = sym (map-id images) ∙ (rw over at t.mapped) }
