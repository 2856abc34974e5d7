-- `sum_of` meets its contract: the sum of family 1 is carried on from the number before p, where that is known.
use Rattle.std.proofs.Common.{sym, ◌∙◌}
use Rattle.sweeps.proofs.Sweeps.{sizes_each, few_enough, carriable}
use Rattle.sweeps.proofs.sweep.Sweep.sum_of.Goals as goal

pub carry-requires : goal.carry-requires
carry-requires c =
    let pre = c.requires in
    let list = c.args.self.list.accepted in
    let one = c.if-step-eq1.true in
    let known = rw c.in-Some.is at pre.3 in
    (one, known.0, pre.2, rw pre.0 (sizes_each _ _ _ list), carriable _ _ _ list, rw (sym pre.0, sym pre.1 ∙ one) at known.1.sum_is)

pub sum-requires : goal.sum-requires
sum-requires c =
    let pre = c.requires in
    let list = c.args.self.list.accepted in
    (pre.2, rw pre.0 (sizes_each _ _ _ list), list.one_each, few_enough _ _ _ list)
