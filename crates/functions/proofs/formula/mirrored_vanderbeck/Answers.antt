-- `mirrored_vanderbeck` meets its contract: `mirrored` at the quotient rounded up, less 1 where it is not 0.
use mathlib.Core.Path.{◌≡◌, sym}
use Rattle.std.proofs.Common.{rules}
use native.Mathlib.Omega.{arith}
use Rattle.functions.specs.Families.{vanderbeck}
use Rattle.functions.proofs.Superadditive.{monotone}
use Rattle.functions.proofs.FirstFour.{vanderbeck_superadditive, vanderbeck_top, vanderbeck_is}
use Rattle.functions.proofs.formula.mirrored_vanderbeck.Goals as goal

pub mirrored-requires-clause-range : goal.mirrored-requires-clause-range
mirrored-requires-clause-range c =
    let a = c.args in
    omega (arith, vanderbeck_top a.capacity a.p c.requires.1 c.requires.3)

pub mirrored-requires-clause-within : goal.mirrored-requires-clause-within
mirrored-requires-clause-within c = λ y part l e.
    let a = c.args in
    let pre = c.requires in
    let is = vanderbeck_is a.capacity a.p pre.1 pre.3 y in
    let value : part ≡ vanderbeck a.capacity a.p y = search rules in
    omega (arith, value, monotone (vanderbeck a.capacity a.p) a.capacity (vanderbeck_superadditive a.capacity a.p pre.1 pre.3) y a.capacity l (omega arith))

pub returns : goal.returns
returns c =
    let a = c.args in
    c.mirrored.ensures (vanderbeck a.capacity a.p) (sym c.requires.5) (λ y part l e. let is = vanderbeck_is a.capacity a.p c.requires.1 c.requires.3 y in search rules)
