-- `put_blocks` meets its contract.
use mathlib.Core.Path.{sym}
use lib.Seq.{length-take-le}
use Rattle.report.proofs.BlockTexts.{undivided, divided, floors_there, floors_are}
use Rattle.report.proofs.Texts.{blocks_none, blocks_some}
use Rattle.report.proofs.lines.put_blocks.Goals as goal

pub slice_bounds-put_list_line-end-in-Some : goal.slice_bounds-put_list_line-end-in-Some
slice_bounds-put_list_line-end-in-Some c =
    let read = c.accepted_parts.ensures.parts_are in
    sym (length-take-le _ _ (floors_there _ _ c.requires.1 read _ c.in-Some.is))

pub returns-in-Some : goal.returns-in-Some
returns-in-Some c =
    let read = c.accepted_parts.ensures.parts_are in
    blocks_some _ _ (divided _ _ c.requires.1 read _ c.in-Some.is) (rw (floors_are _ _ c.requires.1 read _ c.in-Some.is) at c.put_list_line.ensures)

pub returns-in-None : goal.returns-in-None
returns-in-None c = blocks_none _ _ _ _ c.requires.0 (undivided _ _ c.requires.1 c.accepted_parts.ensures.parts_are c.in-None.is)
