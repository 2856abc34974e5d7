-- `mirrored_quotient` meets its contract: `mirrored` at the quotient by p.
use mathlib.Core.Path.{◌≡◌, sym}
use Rattle.std.proofs.Common.{rules}
use native.Mathlib.Nat.{div-le_self}
use native.Mathlib.Omega.{arith}
use Rattle.functions.specs.Families.{quotient}
use Rattle.functions.proofs.Superadditive.{monotone}
use Rattle.functions.proofs.FirstFour.{quotient_superadditive}
use Rattle.functions.proofs.formula.mirrored_quotient.Goals as goal

pub mirrored-requires-clause-range : goal.mirrored-requires-clause-range
unfolding quotient
mirrored-requires-clause-range c = omega (arith, div-le_self c.args.capacity c.args.p)

pub mirrored-requires-clause-within : goal.mirrored-requires-clause-within
unfolding quotient
mirrored-requires-clause-within c = λ y part l e.
    let a = c.args in
    let value : part ≡ quotient a.p y = search rules in
    omega (arith, value, monotone (quotient a.p) a.capacity (quotient_superadditive a.capacity a.p (omega arith)) y a.capacity l (omega arith))

pub returns : goal.returns
unfolding quotient
returns c = c.mirrored.ensures (quotient c.args.p) (sym c.requires.3) (λ y part l e. search rules)
