-- `put_values` meets its contract: each turn puts the next value.

use lib.ListN.{take}
use Rattle.report.specs.Text.{values_text}
use Rattle.report.specs.Put.{Put}
use Rattle.report.proofs.put.put_values.Given as goal

abbrev pub invariant-loop-value : goal.invariant-loop-value
invariant-loop-value l = Put l.initial.out l.at (values_text (take l.value-index l.values)) l.out l.next
