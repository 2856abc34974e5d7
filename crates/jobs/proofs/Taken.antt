-- A job that was read: what is truncated in its type, taken out whole.
use mathlib.Core.Path.{◌≡◌, refl, ap, sym, ◌∙◌}
use mathlib.Core.Bool.{Bool, true, false, cond}
use mathlib.Core.List.{List, [], ◌∷◌, map}
use mathlib.Core.Logic.{inl, inr, ⊎_elim}
use Rattle.std.proofs.Math.Logic.{∥∥₁_elim, ∥∥₁_map}
use Rattle.std.proofs.Props.{props}
use Prim.Native.Nat.{ℕ, zero, suc, ◌*◌, ◌/◌}
use native.Mathlib.Nat.{eq-zero-or-pos}
use native.Mathlib.Omega.{arith}
use borrow.Author.Tests.{eqb-true, eq-eqb}
use lib.Dec.{eqb}
use lib.ListN.{length}
use Rattle.std.specs.Prelude.{Option, None, Some}
use denote.Bor.{Bor}
use Rattle.fields.specs.Bytes.{field_rest}
use Rattle.fields.specs.Parts.{Field, field_of, Step, on_family, on_table}
use Rattle.fields.specs.Grammar.{length_right}
use Rattle.fields.specs.Record.{FieldAt, Stand, BlocksOf, PartsOf}
use Rattle.fields.specs.declared.JobParts.{JobParts}
use Rattle.jobs.specs.Job.{fields_in}
use Rattle.jobs.specs.declared.read.ReadJob.{ReadJob}

cond_follows : (test here other next : Bool) → (other ≡ true → next ≡ true) → cond test here other ≡ true → cond test here next ≡ true
cond_follows true here other next f e = e
cond_follows false here other next f e = f e

counts_half : (sizes n : ℕ) (other : Bool) (test : Bool) → cond test (eqb n (2 * sizes)) other ≡ true → cond test (eqb n (2 * (n / 2))) other ≡ true
counts_half sizes n other true e = let twice = eqb-true n (2 * sizes) e in eq-eqb n (2 * (n / 2)) (omega (arith, twice))
counts_half sizes n other false e = e

-- of the sizes that a field stands behind only counts ask: half of their bytes
half_right : (sizes tag n : ℕ) → length_right sizes tag n ≡ true → length_right (n / 2) tag n ≡ true
unfolding length_right
half_right sizes tag n =
    cond_follows (eqb tag 1) _ _ _
    (cond_follows (eqb tag 2) _ _ _
    (cond_follows (eqb tag 3) _ _ _
    (cond_follows (eqb tag 4) _ _ _
    (cond_follows (eqb tag 6) _ _ _ (counts_half sizes n _ (eqb tag 7))))))

same_field : (f g : Field) → f.tag ≡ g.tag → f.value ≡ g.value → f ≡ g
same_field f g tag value = ap (λ (t : ℕ). field_of t f.value) tag ∙ ap (field_of g.tag) value

field_at : (rest : List ℕ) (f : Field) → ∥ FieldAt rest f ∥₁ → FieldAt rest f
field_at rest f t =
    record {
      sizes = length f.value / 2;
      within = ∥∥₁_elim t (search props) (λ at. at.within);
      is_first = same_field _ _ (∥∥₁_elim t (search props) (λ at. ap (λ (g : Field). g.tag) at.is_first)) (∥∥₁_elim t (search props) (λ at. ap (λ (g : Field). g.value) at.is_first));
      right_length = ∥∥₁_elim t (search props) (λ at. half_right at.sizes f.tag (length f.value) at.right_length);
    }

stand_of : (fields : List Field) (rest : List ℕ) (behind : List ℕ) → ∥ Stand rest fields behind ∥₁ → Stand rest fields behind
unfolding Stand
stand_of [] rest behind t = ∥∥₁_elim t (search props) (λ at. at)
stand_of (f ∷ fields) rest behind t = (field_at rest f (∥∥₁_map t (λ at. at.0)), stand_of fields (field_rest rest) behind (∥∥₁_map t (λ at. at.1)))

-- steps by their numbers, of which antt knows that two lists are the same in one way
code : Step → List ℕ
code (on_family family p q) = 0 ∷ family ∷ p ∷ q ∷ []
code (on_table t) = 1 ∷ t

step_of : List ℕ → Step
step_of (zero ∷ family ∷ p ∷ q ∷ more) = on_family family p q
step_of (suc k ∷ t) = on_table t
step_of _ = on_table []

step_back : (s : Step) → step_of (code s) ≡ s
unfolding step_of code
step_back (on_family family p q) = refl
step_back (on_table t) = refl

steps_back : (steps : List Step) → map step_of (map code steps) ≡ steps
steps_back [] = refl
steps_back (s ∷ steps) = rw (step_back s, steps_back steps) refl

same_steps : (a b : List Step) → map code a ≡ map code b → a ≡ b
same_steps a b e = sym (steps_back a) ∙ ap (map step_of) e ∙ steps_back b

blocks_of : (fields : List Field) (given : Option (Bor (List ℕ))) → ∥ BlocksOf fields given ∥₁ → BlocksOf fields given
blocks_of fields None t = (∥∥₁_elim t (search props) (λ h. h.0), ∥∥₁_elim t (search props) (λ h. h.1))
blocks_of fields (Some bytes) t = (∥∥₁_elim t (search props) (λ h. h.0), ∥∥₁_elim t (search props) (λ h. h.1), ∥∥₁_elim t (search props) (λ h. h.2))

parts_of : (fields : List Field) (parts : JobParts) → ∥ PartsOf fields parts ∥₁ → PartsOf fields parts
parts_of fields parts t =
    record {
      kind_is = ∥∥₁_elim t (search props) (λ h. h.kind_is);
      capacity_is = ∥∥₁_elim t (search props) (λ h. h.capacity_is);
      sizes_are = ∥∥₁_elim t (search props) (λ h. h.sizes_are);
      sizes_whole = ∥∥₁_elim t (search props) (λ h. h.sizes_whole);
      sizes_most = ∥∥₁_elim t (search props) (λ h. h.sizes_most);
      counts_given = ∥∥₁_elim t (search props) (λ h. h.counts_given);
      none_or_each =
          ⊎_elim
          (λ none. inl none)
          (λ some. inr (∥∥₁_elim t (search props) (λ h. ⊎_elim (λ none. absurd (omega (arith, none, some))) (λ each. each) h.none_or_each)))
          (eq-zero-or-pos (length parts.counts.now));
      blocks_are = blocks_of fields parts.blocks (∥∥₁_map t (λ h. h.blocks_are));
      steps_are = same_steps _ _ (∥∥₁_elim t (search props) (λ h. ap (map code) h.steps_are));
      rows_count = ∥∥₁_elim t (search props) (λ h. h.rows_count);
      coefficients_count = ∥∥₁_elim t (search props) (λ h. h.coefficients_count);
    }

module _ (job : ReadJob) where
  pub parts_are : PartsOf (fields_in job.bytes.now) job.parts
  parts_are = parts_of _ _ (∥∥₁_map job.read (λ j. j.parts_are))

  pub standing : Stand job.bytes.now (fields_in job.bytes.now) []
  standing = stand_of _ _ _ (∥∥₁_map job.read (λ j. j.stand))
