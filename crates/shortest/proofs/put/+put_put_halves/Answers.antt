-- `put` and `put_halves` meet their contracts: what both halves reach together is the most.
use Rattle.std.proofs.lemmas.List.{nil_from_length, length-take-le}
use mathlib.Core.Path.{◌≡◌, refl, sym, ◌∙◌}
use Prim.Native.Nat.{◌+◌, ◌-◌}
use lib.ListN.{length}
use native.Mathlib.Omega.{arith}
use Rattle.std.proofs.lemmas.Bool.{eqb-true}
use Rattle.shortest.proofs.Splitting.{parts_written, whole_written, rest_length}
use Rattle.shortest.proofs.Writing.{greatest_none, greatest_one, one_set}
use Rattle.shortest.proofs.put.+put_put_halves.Goals as goal

pub put-returns-then-is_empty : goal.put-returns-then-is_empty
put-returns-then-is_empty t c =
    rw (nil_from_length c.args.list.now (eqb-true _ _ (sym c.is_empty.ensures ∙ c.if-is_empty.true))) (greatest_none _ _)

pub put-returns-then-list-eq1 : goal.put-returns-then-list-eq1
put-returns-then-list-eq1 t c =
    rw (one_set c.args.list.now c.greatest.result c.if-list-eq1.true) (greatest_one _ _ _ _ c.greatest.ensures refl c.requires.some)

pub put-returns : goal.put-returns
put-returns t c =
    let same : length c.halves-first.new.row - 1 ≡ length c.args.row.now - 1 = omega arith in
    whole_written _ _ _ _ c.halves-first.ensures (rw same at c.put_halves.ensures) (omega arith)

pub put_halves-returns : goal.put_halves-returns
put_halves-returns t c =
    let half = length-take-le (c.args.first + 1) c.args.row.now (omega arith) in
    parts_written _ _ _ _ _ _ _ (omega arith) c.put.ensures c.put-2.ensures (omega (arith, half))
    (rest_length c.args.first c.put.new.row c.args.row.now (c.put.auto.row ∙ half) (omega arith))
    (omega arith)
    (omega arith)
