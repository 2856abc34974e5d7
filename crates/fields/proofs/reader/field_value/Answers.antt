-- `field_value` meets its contract: a header tells that there is a value.
use mathlib.Core.Path.{sym, ◌∙◌}
use native.Mathlib.Omega.{arith}
use Rattle.fields.proofs.Headers.{header_cuts, header_ends, value_inside}
use Rattle.fields.proofs.reader.field_value.Goals as goal

pub overflow_add-result : goal.overflow_add-result
overflow_add-result c = omega (arith, value_inside _ c.requires c.in-Some.is)

pub slice_bounds-result-end : goal.slice_bounds-result-end
slice_bounds-result-end c = omega (arith, value_inside _ c.requires c.in-Some.is)

pub returns-in-Some : goal.returns-in-Some
returns-in-Some c = (header_cuts _ _ (sym c.requires ∙ c.in-Some.is)).1

pub returns-in-None : goal.returns-in-None
returns-in-None c = (header_ends _ (sym c.requires ∙ c.in-None.is)).0
