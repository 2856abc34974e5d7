-- `put_row` meets its contract.
use Rattle.report.proofs.Texts.{row_none, row_some}
use Rattle.report.proofs.lines.put_row.Goals as goal

pub returns-then-fourth-ne-ROWS_KIND : goal.returns-then-fourth-ne-ROWS_KIND
returns-then-fourth-ne-ROWS_KIND c = row_none _ _ _ _ c.requires c.if-fourth-ne-ROWS_KIND.true

pub returns : goal.returns
returns c = row_some _ _ c.if-fourth-ne-ROWS_KIND.false c.put_value.ensures
