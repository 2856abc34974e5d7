-- `judge_entries` meets its contract: the table check of the decoded entries.
use mathlib.Core.Path.{◌≡◌, refl, ap, sym, ◌∙◌}
use Prim.Native.Nat.{◌/◌, ◌≤◌}
use native.Mathlib.Omega.{arith}
use lib.ListN.{length}
use Rattle.refusals.proofs.Stopped.{stopped}
use Rattle.tables.specs.Table.{table_capacity}
use Rattle.tables.proofs.Entries.{capacity_is, scale_is_last}
use Rattle.chains.proofs.Counts.{whole_words}
use Rattle.chains.proofs.Judging.{entries_refused, entries_pass}
use Rattle.chains.proofs.judge.judge_entries.Goals.{After-check}
use Rattle.chains.proofs.judge.judge_entries.Goals as goal

count : (c : After-check) → length c.decode_words.new.out ≡ length c.args.entries.now / 4
count c = ap length c.decode_words.ensures ∙ (whole_words _ c.requires.whole).count

-- there is room for any table
room : (c : After-check) → length c.decode_words.new.out ≤ length c.args.working.now
room c = omega (arith, count c, c.told-working, c.requires.whole, c.requires.most)

list_room : (c : After-check) → table_capacity c.decode_words.new.out ≤ length c.args.list.now
list_room c = omega (arith, count c, c.told-list, c.requires, capacity_is c.decode_words.new.out)

pub returns-in_err-check : goal.returns-in_err-check
returns-in_err-check c =
    let at = (goal.at.returns-in_err-check c).After-check in
    let e = c.in_err-check.ensures in
    rw (stopped _ c.from_residual.ensures.1, ← c.decode_words.ensures) (entries_refused _ _ _ (room at) (list_room at) _ e.told _ e.list c.in_err-check.field-0.0.refusal refl)

pub returns : goal.returns
returns c =
    let at = (goal.at.returns c).After-check in
    let e = c.in_ok-check.ensures in
    rw (← c.decode_words.ensures) (entries_pass _ _ _ (room at) (list_room at) _ e.told _ e.list refl _ (c.from.ensures ∙ sym (scale_is_last c.decode_words.new.out)))
