-- `put_floor_answer` meets its contract.
use Rattle.std.proofs.Common.{arith, rules}
use Rattle.report.proofs.Texts.{refused_told, floor_answer_put}
use Rattle.report.proofs.lines.put_floor_answer.Goals as goal

pub put_refused-requires : goal.put_refused-requires
put_refused-requires c = refused_told c.requires.told c.if-answer-ne0.true

pub returns : goal.returns
returns c = floor_answer_put _ _ _ _ _ c.requires c.if-answer-ne0.false
    (omega arith)
    (omega arith)
    (omega arith)
    (λ i. search rules)
    (λ i. search rules)
    c.put_floor-next.ensures
    c.put_blocks.ensures
