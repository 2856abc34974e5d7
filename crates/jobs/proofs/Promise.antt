-- P3: what is promised of a chain, for its whole list and for blocks that share no bin.
use mathlib.Core.Path.{◌≡◌}
use mathlib.Core.List.{List, map}
use Prim.Native.Nat.{ℕ, ◌≤◌}
use lib.ListN.{length, length-map}
use Rattle.functions.specs.Words.{limit, total}
use Rattle.fields.specs.Parts.{Step}
use Rattle.chains.specs.Chain.{chain_image, chain_scale, chain_floor, ChainAccepted}
use Rattle.chains.specs.Apply.{ChainAppliable}
use Rattle.chains.proofs.Chains.{chain_promise}
use Rattle.blocks.specs.Block.{divide, block_floor}
use Rattle.blocks.proofs.Dividing.{whole_within, floors_of_images}
use Rattle.jobs.specs.Packing.{ChainPromise}
use Rattle.jobs.proofs.Packings.{floor_safe, cut_holds}
use Rattle.jobs.proofs.Separate.{separate_total}

module _ (c : ℕ) (steps : List Step) (l : 1 ≤ c) (m : c ≤ limit) (a : ChainAccepted c steps) where
  within_total : (numbers counts sizes : List ℕ) → total numbers ≡ length sizes → chain_floor c steps counts sizes ≤ total (map (block_floor c steps) (divide numbers counts sizes))
  unfolding chain_floor
  within_total numbers counts sizes e =
      let images = map (chain_image c steps) sizes in
      rw (← (floors_of_images c steps numbers counts sizes)) (whole_within (chain_scale c steps) (chain_promise steps c l m a).scale_positive numbers counts images (rw (length-map sizes (chain_image c steps)) e))

  pub chain_is_safe : ChainPromise c steps
  unfolding block_floor
  chain_is_safe =
      record {
        floor_is_safe = floor_safe c steps l m a;
        floor_within_total = within_total;
        total_is_safe = λ numbers counts sizes e bins fits separate. separate_total c (chain_floor c steps) (floor_safe c steps l m a) numbers 0 counts sizes bins e fits separate;
        cut_holds = cut_holds c steps l m a;
      }

-- of a chain that was judged
pub promised : (c : ℕ) (steps : List Step) (sizes : List ℕ) → ChainAppliable c steps sizes → ChainPromise c steps
promised c steps sizes a = chain_is_safe c steps a.positive a.in_limit a.accepted
