-- `fewest` meets its contract: the loop's invariant is `Seeking`.
use native.Mathlib.Omega.{arith}
use Rattle.tables.proofs.Entries.{capacity_is, scale_is_last}
use Rattle.tables.proofs.Filled.{last_best}
use Rattle.shortest.proofs.Seeking.{at_least_one, seeking_start, seeking_few}
use Rattle.shortest.proofs.seek.fewest.Goals as goal

pub try_two-requires-clause-least : goal.try_two-requires-clause-least
try_two-requires-clause-least c = at_least_one c.args.table.now

pub returns-then-fewer-last : goal.returns-then-fewer-last
returns-then-fewer-last c =
    let t = c.args.table.now in
    omega (arith, last_best t c.requires.room.form _ _ c.fill_bests.ensures, c.if-fewer-last.true, c.from.ensures, scale_is_last t)

pub loop-split-init : goal.loop-split-init
loop-split-init c =
    let t = c.args.table.now in
    seeking_start c.first_rows.ensures (omega arith) (omega arith)
    (omega (arith, last_best t c.requires.room.form _ _ c.fill_bests.ensures, c.if-fewer-last.false, c.from.ensures, scale_is_last t))
    c.in_default.ensures

pub overflow_add-k : goal.overflow_add-k
overflow_add-k c =
    omega (arith, seeking_few c.loop-split.invariant, capacity_is c.args.table.now, c.requires.room.form.most)

pub try_two-requires-in-loop-split-clause-few : goal.try_two-requires-in-loop-split-clause-few
try_two-requires-in-loop-split-clause-few c = omega (arith, seeking_few c.loop-split.invariant, capacity_is c.args.table.now)

pub loop-split-smaller : goal.loop-split-smaller
loop-split-smaller c = omega (arith, seeking_few c.loop-split.invariant)
