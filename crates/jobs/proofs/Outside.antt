-- The numbers that refuse a job outside of its steps: none of them is 11.
use mathlib.Core.Path.{◌≡◌}
use mathlib.Core.Bool.{false, ◌||◌}
use mathlib.Core.List.{List}
use Prim.Native.Nat.{ℕ, ◌-◌}
use native.Mathlib.Omega.{arith}
use lib.Dec.{ltb}
use Rattle.tables.specs.Check.{most_entries}
use Rattle.fields.specs.Grammar.{most_bytes, most_sizes}
use Rattle.fields.specs.Reading.{refused, job_fields}
use Rattle.fields.proofs.Said.{three, unread_said}
use Rattle.jobs.specs.Job.{Places, own_places, buffer_refusal}
use Rattle.jobs.specs.declared.kind.Operation.{Operation}

abbrev Other : ℕ → Type 0
Other n = n ≡ 11 → ⊥

pub buffers_other : (asked : Operation) (n : ℕ) (lent : Places) → buffer_refusal asked n lent ≡ 11 → ⊥
unfolding buffer_refusal
buffers_other asked n lent e = three Other (ltb most_bytes n) (ltb lent.images most_sizes || ltb lent.working most_entries || ltb lent.list (most_entries - 1) || ltb lent.own (own_places asked)) false 12 7 0 (omega arith) (omega arith) (omega arith) (omega (arith, e)) e

pub unread_other : (job : List ℕ) (n : ℕ) → job_fields job ≡ refused n → n ≡ 11 → ⊥
unread_other job n e = unread_said Other (omega arith) (omega arith) (omega arith) job n e
