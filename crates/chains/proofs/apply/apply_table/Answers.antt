-- `apply_table` meets its contract: the entries are read where they lie, the last one too.
use mathlib.Core.Path.{◌∙◌}
use native.Mathlib.Omega.{arith}
use Rattle.chains.proofs.Judging.{scale_of}
use Rattle.chains.proofs.apply.apply_table.Goals as goal

pub returns : goal.returns
returns c = (c.word_at.ensures.0 ∙ scale_of _ c.requires.whole c.requires.some _ (omega (arith, c.requires)), c.map_entries.ensures)
