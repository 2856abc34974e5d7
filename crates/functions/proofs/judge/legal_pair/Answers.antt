-- `legal_pair` meets its contract: q is at least (p up r) - 1 where (q + 1) * r is at least p.
use Prim.Native.Nat.{◌+◌, ◌%◌}
use native.Mathlib.Nat.{mod-lt}
use native.Mathlib.Omega.{arith}
use borrow.Author.Tests.{le-leb, lt-leb, lt-ltb, le-ltb}
use Rattle.functions.specs.Families.{legal_pair}
use Rattle.functions.proofs.Bounds.{product_most}
use Rattle.functions.proofs.Quotient.{up_test}
use Rattle.functions.proofs.judge.legal_pair.Goals as goal

pub returns-then-p-lt1 : goal.returns-then-p-lt1
unfolding legal_pair
returns-then-p-lt1 c = rw (lt-leb 1 _ c.if-p-lt1.true)

pub overflow_mul-result : goal.overflow_mul-result
overflow_mul-result c =
    let a = c.args in
    omega (arith, product_most (a.q + 1) (a.capacity % a.p) (omega arith) (omega (arith, mod-lt a.capacity c.if-p-lt1.false)))

pub returns-then-r-gt0 : goal.returns-then-r-gt0
unfolding legal_pair
returns-then-r-gt0 c =
    let a = c.args in
    rw (le-leb 1 a.p c.if-p-lt1.false, le-leb a.p a.capacity c.requires.0, lt-ltb 0 (a.capacity % a.p) c.if-r-gt0.true, up_test (a.capacity % a.p) c.if-r-gt0.true a.p a.q)

pub returns-else-r-gt0 : goal.returns-else-r-gt0
unfolding legal_pair
returns-else-r-gt0 c =
    let a = c.args in
    rw (le-leb 1 a.p c.if-p-lt1.false, le-leb a.p a.capacity c.requires.0, le-ltb 0 (a.capacity % a.p) c.if-r-gt0.false)
