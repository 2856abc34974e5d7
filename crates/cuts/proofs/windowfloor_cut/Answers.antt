-- `windowfloor_cut` meets its contract: refused, or finished in the first places of its buffers.
use Rattle.std.proofs.lemmas.Option.{MatchOption-at_some}
use Rattle.jobs.proofs.Accepted.{accepted_fields}
use Rattle.jobs.proofs.Answering.{job_rooms}
use Rattle.cuts.proofs.Answering.{answered_refused, answered_finished}
use Rattle.cuts.proofs.windowfloor_cut.Goals as goal

pub unwrap-images-requires : goal.unwrap-images-requires
unwrap-images-requires c = c.first_chunk_mut.ensures.variant.1 (job_rooms _ _ _ c.in-Ok.ensures.judged.told).for_images

pub unwrap-scales-requires : goal.unwrap-scales-requires
unwrap-scales-requires c = c.first_chunk_mut-in-Ok.ensures.variant.1 (job_rooms _ _ _ c.in-Ok.ensures.judged.told).for_own

pub finish-requires : goal.finish-requires
finish-requires c = rw c.in-Ok.ensures.read (accepted_fields _ _ _ c.in-Ok.ensures.judged.told).parts_accepted

pub returns-in-Ok : goal.returns-in-Ok
returns-in-Ok c =
    let images = (MatchOption-at_some _ _ _ c.unwrap-images.ensures c.first_chunk_mut.ensures.cases).same in
    let scales = (MatchOption-at_some _ _ _ c.unwrap-scales.ensures c.first_chunk_mut-in-Ok.ensures.cases).same in
    let left = rw (images, scales, c.in-Ok.ensures.read) at c.finish.ensures in
    let judged = c.in-Ok.ensures.judged in
    answered_finished _ _ _ _ _ _ _ _ _ judged.list_is c.in-Ok.ensures.working _ _ judged.told left.finished left.lengths

pub returns-in-Err : goal.returns-in-Err
returns-in-Err c =
    let judged = c.in-Err.ensures.judged in
    answered_refused _ _ _ _ _ _ _ _ _ judged.list_is c.in-Err.ensures.working _ judged.told c.from.ensures
