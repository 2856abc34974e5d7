-- `apply_step` meets its contract: a family or a table.
use mathlib.Core.Path.{sym, ◌∙◌}
use native.Mathlib.Omega.{arith}
use Rattle.fields.specs.Record.{function_in}
use Rattle.chains.proofs.Chains.{table_accepted}
use Rattle.chains.proofs.Judging.{capacity_of}
use Rattle.chains.proofs.Applying.{table_applied}
use Rattle.chains.proofs.apply.apply_step.Goals as goal

pub apply_family-requires : goal.apply_family-requires
unfolding function_in
apply_family-requires c = rw c.in-Family.is at c.requires.1

pub returns-in-Family : goal.returns-in-Family
unfolding function_in
returns-in-Family c = rw c.in-Family.is c.apply_family.ensures

pub apply_table-requires : goal.apply_table-requires
unfolding function_in
apply_table-requires c =
    let within = c.requires.0 _ c.in-Table.is in
    let table = rw c.in-Table.is at c.requires.1 in
    let capacity = sym (capacity_of _ within.whole) ∙ (table_accepted _ _ table.accepted).0 in
    record { some = omega (arith, within.least); whole = within.whole; within = rw capacity table.within }

pub returns-in-Table : goal.returns-in-Table
unfolding function_in
returns-in-Table c = rw c.in-Table.is (table_applied _ _ _ _ _ c.apply_table.ensures)
