-- `put_value` meets its contract.
use mathlib.Core.Path.{sym, ◌∙◌}
use native.Mathlib.Omega.{arith}
use Rattle.report.proofs.Decimals.{decimal_is}
use Rattle.report.proofs.Puts.{put_then}
use Rattle.report.proofs.put.put_value.Goals as goal

pub returns : goal.returns
returns c =
    let text = c.as_bytes.ensures.value ∙ c.format.ensures.text ∙ sym (decimal_is c.args.n (omega (arith, c.ranges.n.fits))) in
    put_then c.put_byte-next.ensures (rw text at c.put_bytes.ensures)
