-- What a step's bytes are, whatever job it is in.
use Rattle.std.specs.Prelude.{◌≡◌, List, ℕ, ◌*◌, ◌%◌, ◌≤◌, length, get_or}
use denote.Bor.{Bor}
use Rattle.tables.specs.Check.{most_entries}
use Rattle.fields.specs.declared.steps.StepFunction.TheVariants.{Table}
use Rattle.fields.specs.declared.steps.JobStep.{JobStep}

-- a table's entries are whole, and its length is a table's
pub record TableWithin (bytes : List ℕ) : Type 0 where
  pub whole : length bytes % 4 ≡ 0
  pub least : 8 ≤ length bytes
  pub most : length bytes ≤ 4 * most_entries

-- of a family step nothing is asked
abbrev pub StepWithin : JobStep → Type 0
StepWithin s = (entries : Bor (List ℕ)) → s.function ≡ Table entries → TableWithin entries.now

abbrev pub StepAt : List JobStep → ℕ → Type 0
StepAt items i = (none : JobStep) → StepWithin (get_or items i none)
