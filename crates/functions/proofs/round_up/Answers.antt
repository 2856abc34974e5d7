-- `round_up` meets its contract: the definition has the same shape.
use native.Mathlib.Omega.{arith}
use Rattle.functions.specs.Families.{◌up◌}
use Rattle.functions.proofs.round_up.Goals as goal

pub returns : goal.returns
unfolding ◌up◌
returns c = omega arith
