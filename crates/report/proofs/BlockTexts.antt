-- The floors of an accepted job's blocks in their buffer.
use mathlib.Core.Path.{◌≡◌, ap, sym, ◌∙◌}
use mathlib.Core.Bool.{true, false}
use mathlib.Core.List.{List}
use Prim.Native.Nat.{ℕ, ◌/◌, ◌≤◌}
use Rattle.std.specs.Prelude.{None, Some}
use denote.Bor.{Bor}
use native.Mathlib.Omega.{arith}
use lib.ListN.{length, take, length-append}
use lib.Seq.{take_at}
use Rattle.fields.specs.Parts.{blocks_there}
use Rattle.fields.specs.Record.{BlocksOf, PartsOf}
use Rattle.fields.specs.declared.JobParts.{JobParts}
use Rattle.fields.proofs.Filling.{blocks_count}
use Rattle.jobs.specs.Job.{fields_in, is_divided}
use Rattle.jobs.proofs.Divided.{floor_divided}
use Rattle.floors.specs.Floor.{job_block_floors}
use Rattle.floors.proofs.Finishing.{floors_count}
use Rattle.report.specs.Answer.{BlocksHeld}

module _ (job blocks : List ℕ) (h : BlocksHeld job blocks) {parts : JobParts} (read : PartsOf (fields_in job) parts) where
  division_is : is_divided (fields_in job) ≡ blocks_there (fields_in job)
  division_is = floor_divided (fields_in job) h.is_floor

  pub undivided : parts.blocks ≡ None → is_divided (fields_in job) ≡ false
  undivided none = division_is ∙ (rw none at read.blocks_are).1

  module _ (numbers : Bor (List ℕ)) (some : parts.blocks ≡ Some numbers) where
    there : BlocksOf (fields_in job) (Some numbers)
    there = rw some at read.blocks_are

    pub divided : is_divided (fields_in job) ≡ true
    divided = division_is ∙ there.2

    count : length (job_block_floors (fields_in job)) ≡ length numbers.now / 2
    count = floors_count (fields_in job) divided ∙ sym (blocks_count (fields_in job) numbers there)

    pub floors_there : length numbers.now / 2 ≤ length blocks
    floors_there = omega (arith, count, ap length h.floors_held, length-append (job_block_floors (fields_in job)) h.more_floors)

    pub floors_are : take (length numbers.now / 2) blocks ≡ job_block_floors (fields_in job)
    floors_are = ap (take (length numbers.now / 2)) h.floors_held ∙ take_at (job_block_floors (fields_in job)) h.more_floors (length numbers.now / 2) count
