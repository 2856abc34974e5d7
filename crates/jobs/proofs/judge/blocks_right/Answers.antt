-- `blocks_right` meets its contract: there are no blocks, or they divide the list.
use mathlib.Core.Path.{sym, ◌∙◌}
use Rattle.jobs.proofs.KindNumbers.{floor_of}
use Rattle.jobs.proofs.Taken.{parts_are}
use Rattle.jobs.proofs.Divided.{floor_divided, cut_undivided, divided_right, undivided_right}
use Rattle.jobs.proofs.judge.blocks_right.Goals as goal

pub returns-in-Floor-Some : goal.returns-in-Floor-Some
returns-in-Floor-Some c =
    let h = parts_are c.args.job in
    divided_right _ _ h (sym (rw c.in-Floor-Some.is-0 at c.args.job.kind_is ∙ h.kind_is)) c.in-Floor-Some.numbers (rw c.in-Floor-Some.is-1 at h.blocks_are) _ c.blocks_fit.ensures

pub returns-in_default : goal.returns-in_default
returns-in_default c =
    let h = parts_are c.args.job in
    undivided_right _ (floor_divided _ (sym (rw c.in_default.is-0 at c.args.job.kind_is ∙ h.kind_is)) ∙ (rw c.in_default.is-1 at h.blocks_are).1)

pub returns-in_default-2 : goal.returns-in_default-2
returns-in_default-2 c =
    undivided_right _ (cut_undivided _ (λ one. c.in_default.not-Floor-0 (floor_of _ (c.args.job.kind_is ∙ (parts_are c.args.job).kind_is ∙ one))))
