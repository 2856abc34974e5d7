-- `hand_over` meets its contract: the text of what the operation left that was called.
use mathlib.Core.Path.{sym, ◌∙◌}
use Rattle.std.proofs.Common.{rules}
use Rattle.report.proofs.Answered.{cuts_called, floors_called}
use Rattle.report.proofs.FloorAnswered.{floor_left}
use Rattle.report.proofs.CutAnswered.{cut_left}
use Rattle.report.proofs.Puts.{put_whole}
use Rattle.report.proofs.hand_over.Goals as goal

pub put_cut_answer-requires : goal.put_cut_answer-requires
put_cut_answer-requires c =
    cut_left (cuts_called _ (sym (rw c.fourth_byte.ensures at c.takes.ensures) ∙ c.if-takes.true)) c.windowfloor_cut-answer.ensures
    (search rules)
    (search rules)

pub put_floor_answer-requires : goal.put_floor_answer-requires
put_floor_answer-requires c =
    floor_left (floors_called _ (sym (rw c.fourth_byte.ensures at c.takes.ensures) ∙ c.if-takes.false)) c.windowfloor_floor-answer.ensures
    (search rules)
    (search rules)
    (search rules)

pub returns-then-takes-clause-text : goal.returns-then-takes-clause-text
returns-then-takes-clause-text c = put_whole c.put_cut_answer.ensures.put

pub returns-clause-text : goal.returns-clause-text
returns-clause-text c = put_whole c.put_floor_answer.ensures.put
