-- `field_rest` meets its contract: a header tells where the next field is.
use mathlib.Core.Path.{sym, ◌∙◌}
use native.Mathlib.Omega.{arith}
use Rattle.fields.proofs.Headers.{header_cuts, header_ends, value_inside}
use Rattle.fields.proofs.reader.field_rest.Goals as goal

pub overflow_add-result : goal.overflow_add-result
overflow_add-result c = omega (arith, value_inside _ c.requires c.in-Some.is)

pub slice_bounds-result-count : goal.slice_bounds-result-count
slice_bounds-result-count c = omega (arith, value_inside _ c.requires c.in-Some.is)

pub slice_bounds-result-start : goal.slice_bounds-result-start
slice_bounds-result-start c = omega (arith, value_inside _ c.requires c.in-Some.is)

pub returns-in-Some : goal.returns-in-Some
returns-in-Some c = (header_cuts _ _ (sym c.requires ∙ c.in-Some.is)).2

pub returns-in-None : goal.returns-in-None
returns-in-None c = (header_ends _ (sym c.requires ∙ c.in-None.is)).1
