-- `put_cut_answer` meets its contract.
use mathlib.Core.Path.{sym, ◌∙◌}
use Rattle.std.proofs.Common.{arith, rules}
use Rattle.report.proofs.Texts.{refused_told, one_put, rows_put}
use Rattle.report.proofs.lines.put_cut_answer.Goals as goal

pub put_refused-requires : goal.put_refused-requires
put_refused-requires c = refused_told c.requires.told c.if-answer-ne0.true

pub returns-then-fourth_byte-eq-ROWS_KIND : goal.returns-then-fourth_byte-eq-ROWS_KIND
returns-then-fourth_byte-eq-ROWS_KIND c = rows_put _ _ _ _ _ c.requires c.if-answer-ne0.false
    (λ i. search rules)
    (sym c.fourth_byte.ensures ∙ c.if-fourth_byte-eq-ROWS_KIND.true)
    (λ i. search rules)
    c.put_rows.ensures

pub returns : goal.returns
returns c = one_put _ _ _ _ _ c.requires c.if-answer-ne0.false
    (λ i. search rules)
    (λ three. c.if-fourth_byte-eq-ROWS_KIND.false (c.fourth_byte.ensures ∙ three))
    (omega arith)
    c.put_cut.ensures
