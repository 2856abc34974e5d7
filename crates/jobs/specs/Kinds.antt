-- The kinds of a job, which of them an operation takes, and how many rows there may be, document 01, "Jobs", and document 02, requests 1 and 9.
use Rattle.std.specs.Prelude.{Bool, true, false, cond, ◌≡◌, ◌&&◌, ◌||◌, Result, Ok, Err, ℕ, leb, eqb}
use Rattle.refusals.specs.declared.Refusal.{Refusal}
use Rattle.refusals.specs.Number.{number_of}
use Rattle.fields.specs.Grammar.{most_sizes, most_rows, floor_kind, rows_kind}
use Rattle.jobs.specs.declared.kind.JobKind.{JobKind}
use Rattle.jobs.specs.declared.kind.JobKind.TheVariants.{Floor, Cut, Rows}
use Rattle.jobs.specs.declared.kind.Operation.{Operation}
use Rattle.jobs.specs.declared.kind.Operation.TheVariants.{Floors, Cuts}

abbrev pub cut_kind : ℕ
cut_kind = 2

abbrev pub kind_number : JobKind → ℕ
kind_number Floor = floor_kind
kind_number Cut = cut_kind
kind_number Rows = rows_kind

-- whether the operation takes jobs of a kind: refusal 16 is that this is false
unfoldable pub takes : Operation → ℕ → Bool
takes Floors kind = eqb kind floor_kind
takes Cuts kind = eqb kind cut_kind || eqb kind rows_kind

-- the kind with a number, or 16 where the operation takes none that has it
abbrev pub KindOf : Operation → ℕ → Result JobKind Refusal → Type 0
KindOf asked number (Ok kind) = (kind_number kind ≡ number) × (takes asked number ≡ true)
KindOf asked number (Err refusal) = (takes asked number ≡ false) × (number_of refusal ≡ 16)

-- a floor's sizes are from 1 on, a row's coefficients from 0
unfoldable pub least_of : ℕ → ℕ
least_of kind = cond (eqb kind floor_kind) 1 0

-- how many rows, and coefficients in all: refusal 21 is that this is false
unfoldable pub rows_fit : ℕ → ℕ → Bool
rows_fit rows coefficients = leb 1 rows && leb rows most_rows && leb coefficients most_sizes
