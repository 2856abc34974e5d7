-- `put_refused` meets its contract.
use mathlib.Core.List.{List}
use Prim.Native.Nat.{ℕ}
use Rattle.std.proofs.Common.{arith, rules}
use Rattle.report.specs.Text.{refused_text, fourth_byte, hand_over_text}
use Rattle.report.specs.Put.{Put}
use Rattle.report.specs.Answer.{TextPut}
use Rattle.report.proofs.Texts.{refused_one, refused_two, refused_put}
use Rattle.report.proofs.lines.put_refused.Goals.{After-put_refused_line-next}
use Rattle.report.proofs.lines.put_refused.Goals as goal

-- the refusal is the whole text
whole : (c : After-put_refused_line-next) {new : List ℕ} {end : ℕ} → Put c.args.out.now 0 (refused_text (fourth_byte c.args.job.now) (record { number = c.args.number; row = c.args.row; step = c.args.step; list = c.args.list.now })) new end → TextPut c.args.out.now (hand_over_text c.args.job.now) new end
whole c put = refused_put _ _ _ _ _ c.requires
    (omega arith)
    (omega arith)
    (omega arith)
    (λ i. search rules)
    put

pub returns-then-number-ne-WITH_LIST : goal.returns-then-number-ne-WITH_LIST
returns-then-number-ne-WITH_LIST c =
    whole (goal.at.returns-then-number-ne-WITH_LIST c).After-put_refused_line-next
    (refused_one _ _ _ _ _ c.if-number-ne-WITH_LIST.true (rw c.fourth_byte.ensures at c.put_refused_line-next.ensures))

pub returns : goal.returns
returns c =
    whole (goal.at.returns c).After-put_refused_line-next
    (refused_two _ _ _ _ _ c.if-number-ne-WITH_LIST.false (rw c.fourth_byte.ensures at c.put_refused_line-next.ensures) c.put_list_line.ensures)
