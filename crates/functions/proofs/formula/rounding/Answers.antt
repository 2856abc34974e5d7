-- `rounding` meets its contract: x * (p + 1) less its remainder, and less x where there is no remainder.
use mathlib.Core.Path.{sym}
use Prim.Native.Nat.{◌+◌, ◌*◌, ◌^◌, ◌≤◌}
use native.Mathlib.Nat.{div-add-mod', div-mul-le_self, mul-le-mul}
use native.Mathlib.Omega.{arith}
use Rattle.functions.specs.Words.{limit}
use Rattle.functions.proofs.FirstFour.{rounding_whole, rounding_broken}
use Rattle.functions.proofs.formula.rounding.Goals.{Start}
use Rattle.functions.proofs.formula.rounding.Goals as goal

scaled_most : (c : Start) → c.args.x * (c.args.p + 1) ≤ 2 ^ 32 * (limit + 1)
scaled_most c =
    let word : c.args.x ≤ 2 ^ 32 = omega arith in
    let factor : c.args.p + 1 ≤ limit + 1 = omega arith in
    mul-le-mul word factor

pub overflow_mul-scaled : goal.overflow_mul-scaled
overflow_mul-scaled c = omega (arith, scaled_most (goal.at.overflow_mul-scaled c).Start)

pub overflow_mul-whole : goal.overflow_mul-whole
overflow_mul-whole c = omega (arith, scaled_most (goal.at.overflow_mul-whole c).Start, div-mul-le_self (c.args.x * (c.args.p + 1)) c.args.capacity)

pub returns-then-whole-scaled : goal.returns-then-whole-scaled
returns-then-whole-scaled c =
    let a = c.args in
    let none = div-add-mod' (a.x * (a.p + 1)) a.capacity in
    omega (arith, rounding_whole a.capacity a.p a.x (omega arith))

pub returns-else-whole-scaled : goal.returns-else-whole-scaled
returns-else-whole-scaled c =
    let a = c.args in
    let some = div-add-mod' (a.x * (a.p + 1)) a.capacity in
    sym (rounding_broken a.capacity a.p a.x (omega arith))
