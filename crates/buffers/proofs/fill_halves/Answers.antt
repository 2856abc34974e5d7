-- `fill_halves` meets its contract: each place holds its value, mod 2^16.
use Rattle.std.proofs.Common.{◌+◌, ◌*◌, rules}
use Rattle.std.proofs.Math.Pow.{mod-mod-pow}
use Rattle.buffers.proofs.fill_halves.Goals as goal

pub returns : goal.returns
returns c = λ i within.
    let made = c.fill_by.ensures i within 0 in
    let half = mod-mod-pow (c.args.first + i * c.args.step) 16 16 in
    search rules
