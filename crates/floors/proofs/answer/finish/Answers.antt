-- `finish` meets its contract: sizes mapped through the steps, and then the answer.
use Prim.Native.Nat.{◌/◌, ◌≤◌}
use native.Mathlib.Omega.{arith}
use lib.ListN.{length}
use lib.Seq.{length-take-le}
use Rattle.jobs.proofs.Taken.{parts_are}
use Rattle.floors.proofs.Finishing.{appliable, images_written}
use Rattle.floors.proofs.answer.finish.Goals.{Start}
use Rattle.floors.proofs.answer.finish.Goals as goal

-- a place for each size
places : (c : Start) → length c.args.job.parts.sizes.now / 4 ≤ length c.args.images.now
places c = omega (arith, (parts_are c.args.job).sizes_most, c.told-images)

pub map_list-scale-requires : goal.map_list-scale-requires
map_list-scale-requires c =
    let at = (goal.at.map_list-scale-requires c).Start in
    let h = parts_are c.args.job in
    (appliable _ c.requires _ h, omega (arith, h.sizes_whole, length-take-le _ c.args.images.now (places at)))

pub returns-clause-finished : goal.returns-clause-finished
returns-clause-finished c =
    record {
      answer_is = c.accepted_floor.ensures.0;
      images_are = images_written _ c.requires _ (parts_are c.args.job) _ _ c.map_list-scale.ensures _;
      blocks_are = c.accepted_floor.ensures.1;
    }
