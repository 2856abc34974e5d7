-- The images and the answer of an accepted floor job, from what the code computes.
use Rattle.std.specs.Prelude.{None, Some}
use denote.Bor.{Bor}
use mathlib.Core.Path.{◌≡◌, refl, ap, sym, ◌∙◌}
use mathlib.Core.Bool.{true, false}
use mathlib.Core.List.{List, [], ◌++◌, map}
use mathlib.Core.Logic.{inl, inr, ⊎_elim}
use Prim.Native.Nat.{ℕ, ◌+◌, ◌-◌, ◌*◌, ◌/◌, ◌^◌, ◌≤◌, ◌<◌}
use native.Mathlib.Nat.{mul-le-mul, mul-le-mul_right}
use native.Mathlib.Omega.{arith}
use lib.ListN.{length, length-map, drop}
use Rattle.functions.specs.Words.{limit, total, most_count, weighted, EachWithin}
use Rattle.functions.specs.Families.{◌up◌}
use Rattle.functions.specs.Promise.{StepPromise}
use Rattle.fields.specs.Bytes.{halfwords, words}
use Rattle.fields.specs.Parts.{Field, counts_for, job_kind, job_capacity, job_sizes, job_counts, block_numbers, job_steps}
use Rattle.fields.specs.Grammar.{most_sizes, most_blocks, rows_kind}
use Rattle.fields.specs.Record.{steps_in, BlocksOf, PartsOf}
use Rattle.fields.specs.declared.JobParts.{JobParts}
use Rattle.chains.specs.Chain.{chain_image, chain_scale, chain_floor}
use Rattle.chains.specs.Apply.{ChainAppliable, ChainApplied}
use Rattle.chains.specs.Sizes.{NoneOrEach}
use Rattle.blocks.specs.Block.{divide}
use Rattle.blocks.specs.Sums.{sum_up, counts_of, Divided, Summed}
use Rattle.blocks.specs.declared.BlockSums.{BlockSums}
use Rattle.blocks.proofs.Dividing.{divide_count, floors_of_images}
use Rattle.fields.proofs.Filling.{sizes_count}
use Rattle.chains.proofs.Applying.{images_within}
use Rattle.chains.proofs.Chains.{chain_promise}
use Rattle.jobs.specs.Job.{is_divided, written}
use Rattle.jobs.proofs.Divided.{floor_divided}
use Rattle.jobs.proofs.Judged.{list_fine, parts_fine, parts_applied, blocks_fine}
use Rattle.floors.specs.Floor.{floor_images, job_floor, job_blocks, job_block_floors, job_total, accepted_floor, FloorAccepted}
use Rattle.floors.specs.declared.FloorAnswer.{FloorAnswer}

-- an answer of which each field is 0, as its default
pub none_answered : (a : FloorAnswer) → (a.number ≡ 0) × ((a.n ≡ 0) × ((a.floor ≡ 0) × ((a.sum ≡ 0) × ((a.scale ≡ 0) × ((a.step ≡ 0) × ((a.length ≡ 0) × ((a.row ≡ 0) × (a.total ≡ 0)))))))) → a ≡ record { number = 0; n = 0; floor = 0; sum = 0; scale = 0; step = 0; length = 0; row = 0; total = 0 }
none_answered a z =
    let fields : a ≡ record { number = a.number; n = a.n; floor = a.floor; sum = a.sum; scale = a.scale; step = a.step; length = a.length; row = a.row; total = a.total } = refl in
    fields ∙ rw (z.0, z.1.0, z.1.1.0, z.1.1.1.0, z.1.1.1.1.0, z.1.1.1.1.1.0, z.1.1.1.1.1.1.0, z.1.1.1.1.1.1.1.0, z.1.1.1.1.1.1.1.1) refl

-- an image for each size
pub images_count : (fields : List Field) → length (floor_images fields) ≡ length (job_sizes fields)
unfolding floor_images
images_count fields = length-map (job_sizes fields) _

-- the blocks of a divided list, and none
pub divided_blocks : (fields : List Field) → is_divided fields ≡ true → job_blocks fields ≡ divide (block_numbers fields) (job_counts fields) (job_sizes fields)
unfolding job_blocks
divided_blocks fields is = rw is

-- a floor for each block
pub floors_count : (fields : List Field) → is_divided fields ≡ true → length (job_block_floors fields) ≡ length (block_numbers fields)
unfolding job_block_floors
floors_count fields is =
    length-map (job_blocks fields) _ ∙ ap length (divided_blocks fields is) ∙ divide_count (block_numbers fields) (job_counts fields) (job_sizes fields)

undivided_blocks : (fields : List Field) → is_divided fields ≡ false → (job_block_floors fields ≡ []) × (job_total fields ≡ job_floor fields)
unfolding job_blocks job_block_floors job_total
undivided_blocks fields is = (rw is, rw is)

module _ (fields : List Field) (ready : FloorAccepted fields) where
  pub no_rows : job_kind fields ≡ rows_kind → ⊥
  no_rows many = omega (arith, ready.is_floor, many)

  fine : ChainAppliable (job_capacity fields) (job_steps fields) (job_sizes fields)
  fine = list_fine fields no_rows ready.accepted

  promise : StepPromise (chain_image (job_capacity fields) (job_steps fields)) (job_capacity fields) (chain_scale (job_capacity fields) (job_steps fields))
  promise = chain_promise (job_steps fields) (job_capacity fields) fine.positive fine.in_limit fine.accepted

  module _ (parts : JobParts) (h : PartsOf fields parts) where
    pub appliable : ChainAppliable parts.capacity (steps_in parts.steps) (words parts.sizes.now)
    appliable = parts_fine fields no_rows parts h ready.accepted

    module _ (scale : ℕ) (images : List ℕ) (applied : ChainApplied parts.capacity (steps_in parts.steps) (words parts.sizes.now) scale images) where
      is : ChainApplied (job_capacity fields) (job_steps fields) (job_sizes fields) scale images
      is = parts_applied fields parts h scale images applied

      images_are : images ≡ floor_images fields
      unfolding floor_images
      images_are = is.images_are

      -- in the first places of their buffer
      pub images_written : (buffer : List ℕ) → images ++ drop (length parts.sizes.now / 4) buffer ≡ written (floor_images fields) buffer
      unfolding written
      images_written buffer = rw (images_are, images_count fields, sizes_count fields parts h)

      count : length images ≡ length (job_sizes fields)
      count = ap length images_are ∙ images_count fields

      -- no counts, or one for each image
      counted : NoneOrEach parts.counts.now (length images)
      counted = ⊎_elim (λ none. inl none) (λ all. inr (omega (arith, all, sizes_count fields parts h, count, h.sizes_whole))) h.none_or_each

      weighed : weighted (counts_for (halfwords parts.counts.now) (length images)) images ≡ weighted (job_counts fields) (floor_images fields)
      unfolding job_counts
      weighed = rw (images_are, h.counts_given, images_count fields)

      scale_range : (1 ≤ scale) × (scale ≤ limit)
      scale_range = (omega (arith, is.scale_is, promise.scale_positive), omega (arith, is.scale_is, promise.scale_within_limit))

      pub roundable : (sum : ℕ) → sum ≤ most_sizes * (most_count * limit) → (0 < scale) × (sum + (scale - 1) < 2 ^ 64)
      roundable sum l = (omega (arith, scale_range), omega (arith, scale_range))

      -- no image is over the scale
      within_scale : EachWithin scale images
      within_scale = rw (is.images_are, is.scale_is) (images_within promise (job_sizes fields) fine.within)

      few : length images ≤ most_sizes
      few = omega (arith, h.sizes_most, sizes_count fields parts h, count)

      pub countable : NoneOrEach parts.counts.now (length images) × (length images ≤ most_sizes)
      countable = (counted, few)

      pub sum_bound : (sum : ℕ) → ((most : ℕ) → EachWithin most images → sum ≤ length images * (most_count * most)) → sum ≤ most_sizes * (most_count * limit)
      sum_bound sum bound = omega (arith, bound scale within_scale, mul-le-mul few (mul-le-mul_right most_count scale_range.1))

      -- the sum, rounded up, is the floor of the whole list
      whole_floor : (sum floor : ℕ) → sum ≡ weighted (job_counts fields) (floor_images fields) → floor ≡ (sum up scale) → floor ≡ job_floor fields
      unfolding job_floor chain_floor floor_images
      whole_floor sum floor summed rounded = rounded ∙ rw (summed, is.scale_is)

      answer_of : (sum floor all : ℕ) → sum ≡ weighted (job_counts fields) (floor_images fields) → floor ≡ (sum up scale) → all ≡ job_total fields → record { number = 0; n = length images; floor = floor; sum = sum; scale = scale; step = 0; length = 0; row = 0; total = all } ≡ accepted_floor fields
      unfolding accepted_floor
      answer_of sum floor all summed rounded added =
          rw (count, whole_floor sum floor summed rounded, summed, is.scale_is, added)

      -- without blocks the total is the floor, and nothing is written
      module _ (undivided : BlocksOf fields None) where
        none : is_divided fields ≡ false
        none = floor_divided fields ready.is_floor ∙ undivided.1

        pub whole_answer : (sum floor : ℕ) → sum ≡ weighted (counts_for (halfwords parts.counts.now) (length images)) images → floor ≡ (sum up scale) → record { number = 0; n = length images; floor = floor; sum = sum; scale = scale; step = 0; length = 0; row = 0; total = floor } ≡ accepted_floor fields
        whole_answer sum floor summed rounded =
            let whole = summed ∙ weighed in
            answer_of sum floor floor whole rounded (whole_floor sum floor whole rounded ∙ sym (undivided_blocks fields none).1)

        pub whole_written : (blocks : List ℕ) → blocks ≡ written (job_block_floors fields) blocks
        unfolding written
        whole_written blocks = sym (rw (undivided_blocks fields none).0)

      module _ (given : Bor (List ℕ)) (divided : BlocksOf fields (Some given)) where
        abbrev numbers : List ℕ
        numbers = given.now

        divided_so : is_divided fields ≡ true
        divided_so = floor_divided fields ready.is_floor ∙ divided.2

        numbers_are : halfwords numbers ≡ block_numbers fields
        unfolding block_numbers
        numbers_are = ap halfwords divided.0

        pub blocks_ready : (floors : List ℕ) → most_blocks ≤ length floors → Divided parts.counts.now numbers images scale floors
        blocks_ready floors room =
            record {
              counted = record { none_or_each = counted; few = few };
              fit = rw (numbers_are, count) (blocks_fine fields no_rows ready.accepted divided_so);
              within = within_scale;
              positive = scale_range.0;
              in_limit = scale_range.1;
              room = room;
            }

        -- what was written are the floors of the blocks
        floors_are : map (sum_up scale) (divide (halfwords numbers) (counts_of parts.counts.now images) images) ≡ job_block_floors fields
        unfolding job_block_floors job_counts
        floors_are =
            rw (numbers_are, divided_blocks fields divided_so, is.scale_is, h.counts_given, count, is.images_are)
            (floors_of_images (job_capacity fields) (job_steps fields) (block_numbers fields) (job_counts fields) (job_sizes fields))

        total_of : (all : ℕ) → all ≡ total (job_block_floors fields) → all ≡ job_total fields
        unfolding job_total
        total_of all e = rw divided_so e

        module _ (floors : List ℕ) (sums : BlockSums) (floors' : List ℕ) (s : Summed parts.counts.now numbers images scale floors sums floors') where
          pub blocks_answer : (floor : ℕ) → floor ≡ (sums.sum up scale) → record { number = 0; n = length images; floor = floor; sum = sums.sum; scale = scale; step = 0; length = 0; row = 0; total = sums.total } ≡ accepted_floor fields
          blocks_answer floor rounded = answer_of sums.sum floor sums.total (s.sum_is ∙ weighed) rounded (total_of sums.total (s.total_is ∙ ap total floors_are))

          pub blocks_written : floors' ≡ written (job_block_floors fields) floors
          unfolding written
          blocks_written =
              let places = ap length numbers_are ∙ sym (floors_count fields divided_so) in
              s.floors_are ∙ rw (floors_are, places)
