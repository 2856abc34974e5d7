-- Whether the list of a job is divided into blocks, by its kind and its parts.
use Rattle.std.specs.Prelude.{Some}
use denote.Bor.{Bor}
use mathlib.Core.Path.{◌≡◌, ◌∙◌}
use mathlib.Core.Bool.{Bool, true, false}
use mathlib.Core.List.{List}
use Prim.Native.Nat.{ℕ, ◌/◌}
use borrow.Author.Tests.{ne_eqb}
use lib.ListN.{length}
use Rattle.fields.specs.Bytes.{halfwords}
use Rattle.fields.specs.Parts.{Field, job_kind, block_numbers, blocks_there}
use Rattle.fields.specs.Grammar.{floor_kind}
use Rattle.fields.specs.Record.{BlocksOf, PartsOf}
use Rattle.fields.specs.declared.JobParts.{JobParts}
use Rattle.fields.proofs.Filling.{sizes_count}
use Rattle.blocks.specs.Block.{blocks_fit}
use Rattle.jobs.specs.Job.{is_divided, blocks_right}

pub floor_divided : (fields : List Field) → job_kind fields ≡ floor_kind → is_divided fields ≡ blocks_there fields
unfolding is_divided
floor_divided fields kind = rw kind

pub cut_undivided : (fields : List Field) → (job_kind fields ≡ floor_kind → ⊥) → is_divided fields ≡ false
unfolding is_divided
cut_undivided fields kind = rw (ne_eqb (job_kind fields) floor_kind kind)

-- the blocks, by the parts of the job
pub divided_right : (fields : List Field) (parts : JobParts) → PartsOf fields parts → job_kind fields ≡ floor_kind → (given : Bor (List ℕ)) → BlocksOf fields (Some given) → (right : Bool) → right ≡ blocks_fit (halfwords given.now) (length parts.sizes.now / 4) → right ≡ blocks_right fields
unfolding blocks_right block_numbers
divided_right fields parts h kind given divided right e = e ∙ rw (floor_divided fields kind, divided.2, divided.0, sizes_count fields parts h)

pub undivided_right : (fields : List Field) → is_divided fields ≡ false → true ≡ blocks_right fields
unfolding blocks_right
undivided_right fields is = rw is
