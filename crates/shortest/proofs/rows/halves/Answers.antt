-- `halves` meets its contract: row k - 1 is known before a turn.
use mathlib.Core.Path.{◌≡◌, refl}
use Prim.Native.Nat.{◌+◌, ◌-◌, ◌/◌}
use native.Mathlib.Omega.{arith}
use Rattle.shortest.proofs.Greatest.{fewer_small, last_small}
use Rattle.shortest.proofs.Splitting.{halves_at}
use Rattle.shortest.proofs.rows.halves.Goals as goal

pub loop-k-init : goal.loop-k-init
loop-k-init c = c.first_rows.ensures

pub next_row-requires-clause-before : goal.next_row-requires-clause-before
next_row-requires-clause-before c = c.loop-k.invariant.row_is

pub loop-k-preserved : goal.loop-k-preserved
loop-k-preserved c =
    let same : c.loop-k.k + 1 - 1 ≡ c.loop-k.k = omega arith in
    rw same c.next_row.ensures

pub greatest_place-requires-clause-small : goal.greatest_place-requires-clause-small
greatest_place-requires-clause-small c = last_small c.loop-k.invariant

pub greatest_place-requires-clause-small_rest : goal.greatest_place-requires-clause-small_rest
greatest_place-requires-clause-small_rest c = last_small c.loop-k.invariant

pub greatest_place-requires-2-clause-small : goal.greatest_place-requires-2-clause-small
greatest_place-requires-2-clause-small c = fewer_small c.loop-k.invariant

pub greatest_place-requires-2-clause-small_rest : goal.greatest_place-requires-2-clause-small_rest
greatest_place-requires-2-clause-small_rest c = last_small c.loop-k.invariant

pub returns-then-n-eq0 : goal.returns-then-n-eq0
returns-then-n-eq0 c =
    let rows = c.loop-k.invariant in
    let last : c.loop-k.k - 1 ≡ c.args.n - c.args.n / 2 = omega (arith, c.loop-k.auto.k-end (omega arith)) in
    halves_at rows.row_is rows.row_is refl (omega (arith, rows.room.some)) _ _ _ c.greatest_place.ensures (omega arith) (omega arith) (omega arith) (omega arith)

pub returns : goal.returns
returns c =
    let rows = c.loop-k.invariant in
    let last : c.loop-k.k - 1 ≡ c.args.n - c.args.n / 2 = omega (arith, c.loop-k.auto.k-end (omega arith)) in
    halves_at rows.fewer_is rows.row_is rows.room.same (omega (arith, rows.room.some, rows.room.same)) _ _ _ c.greatest_place-2.ensures (omega (arith, rows.room.same)) (omega arith) (omega arith) (omega arith)
