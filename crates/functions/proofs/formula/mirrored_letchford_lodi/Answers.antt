-- `mirrored_letchford_lodi` meets its contract: `mirrored` at `letchford_lodi`.
use mathlib.Core.Path.{◌≡◌}
use Rattle.std.proofs.Common.{rules}
use native.Mathlib.Omega.{arith}
use Rattle.functions.specs.Families.{letchford_lodi}
use Rattle.functions.proofs.Superadditive.{monotone}
use Rattle.functions.proofs.Remainder.{letchford_lodi_superadditive, letchford_lodi_twice}
use Rattle.functions.proofs.formula.mirrored_letchford_lodi.Goals as goal

pub mirrored-requires-clause-range : goal.mirrored-requires-clause-range
mirrored-requires-clause-range c =
    let a = c.args in
    let pre = c.requires in
    omega (arith, letchford_lodi_twice a.p a.q a.r pre.4 pre.5 a.capacity (omega arith) (omega arith))

pub mirrored-requires-clause-within : goal.mirrored-requires-clause-within
mirrored-requires-clause-within c = λ y part l e.
    let a = c.args in
    let pre = c.requires in
    let g = letchford_lodi a.p a.q a.r in
    let value : part ≡ g y = search rules in
    omega (arith, value, monotone g a.capacity (letchford_lodi_superadditive a.p a.q a.r pre.4 pre.5 a.capacity) y a.capacity l (omega arith))
