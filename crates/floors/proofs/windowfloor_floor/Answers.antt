-- `windowfloor_floor` meets its contract: refused, or finished in the first places of its buffers.
use Rattle.std.proofs.lemmas.Option.{MatchOption-at_some}
use Rattle.jobs.proofs.Answering.{job_rooms}
use Rattle.floors.proofs.Answering.{job_accepted, answered_refused, answered_finished}
use Rattle.floors.proofs.windowfloor_floor.Goals as goal

pub unwrap-images-requires : goal.unwrap-images-requires
unwrap-images-requires c = c.first_chunk_mut.ensures.variant.1 (job_rooms _ _ _ c.in-Ok.ensures.judged.told).for_images

pub unwrap-blocks-requires : goal.unwrap-blocks-requires
unwrap-blocks-requires c = c.first_chunk_mut-in-Ok.ensures.variant.1 (job_rooms _ _ _ c.in-Ok.ensures.judged.told).for_own

pub finish-requires : goal.finish-requires
finish-requires c = rw c.in-Ok.ensures.read (job_accepted _ _ c.in-Ok.ensures.judged.told)

pub returns-in-Ok : goal.returns-in-Ok
returns-in-Ok c =
    let images = (MatchOption-at_some _ _ _ c.unwrap-images.ensures c.first_chunk_mut.ensures.cases).same in
    let blocks = (MatchOption-at_some _ _ _ c.unwrap-blocks.ensures c.first_chunk_mut-in-Ok.ensures.cases).same in
    let left = rw (images, blocks, c.in-Ok.ensures.read) at c.finish.ensures in
    let judged = c.in-Ok.ensures.judged in
    answered_finished _ _ _ _ _ _ _ _ _ judged.list_is c.in-Ok.ensures.working _ _ judged.told left.finished left.lengths

pub returns-in-Err : goal.returns-in-Err
returns-in-Err c =
    let judged = c.in-Err.ensures.judged in
    answered_refused _ _ _ _ _ _ _ _ _ judged.list_is c.in-Err.ensures.working _ judged.told c.from.ensures
