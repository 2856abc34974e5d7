-- A kind, by its number.
use mathlib.Core.Path.{◌≡◌, refl}
use mathlib.Core.Logic.{◌⊎◌, ⊎_elim}
use native.Mathlib.Omega.{arith}
use Rattle.fields.specs.Grammar.{floor_kind, rows_kind}
use Rattle.jobs.specs.declared.kind.JobKind.{JobKind}
use Rattle.jobs.specs.declared.kind.JobKind.TheVariants.{Floor, Cut, Rows}
use Rattle.jobs.specs.Kinds.{kind_number}

pub floor_of : (kind : JobKind) → kind_number kind ≡ floor_kind → kind ≡ Floor
floor_of Floor e = refl
floor_of Cut e = absurd (omega (arith, e))
floor_of Rows e = absurd (omega (arith, e))

pub no_rows : (kind : JobKind) → (kind ≡ Floor) ⊎ (kind ≡ Cut) → kind_number kind ≡ rows_kind → ⊥
no_rows kind is e = ⊎_elim (λ floor. omega (arith, rw floor at e)) (λ cut. omega (arith, rw cut at e)) is
