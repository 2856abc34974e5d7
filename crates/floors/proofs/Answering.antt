-- What the floor operation promises of its answer and of the buffers afterwards: P4, from P3, and what 11 shows.
use mathlib.Core.Path.{◌≡◌, refl, ap, sym, ◌∙◌}
use mathlib.Core.Bool.{Bool, true, false, cond}
use mathlib.Core.List.{List, ◌++◌, map}
use Prim.Native.Nat.{ℕ, ◌≤◌, ◌<◌}
use native.Mathlib.Omega.{arith}
use borrow.Author.Tests.{eqb-true, ne_eqb}
use lib.ListN.{length, get_or, take, drop}
use Rattle.refusals.specs.Number.{number_of}
use Rattle.functions.specs.Words.{total}
use Rattle.fields.specs.Parts.{Field, job_kind, job_capacity, job_sizes, job_counts, block_numbers, job_steps}
use Rattle.fields.specs.Grammar.{most_sizes, most_blocks, floor_kind, rows_kind}
use Rattle.chains.specs.Judge.{place_of, Judgement, RefusedAs, StepOvershoots, list_by}
use Rattle.chains.specs.declared.Refused.{Refused}
use Rattle.blocks.specs.Block.{divide, block_floor}
use Rattle.blocks.proofs.Dividing.{fit}
use Rattle.jobs.specs.Kinds.{takes}
use Rattle.jobs.specs.declared.kind.Operation.TheVariants.{Floors}
use Rattle.jobs.specs.Packing.{FloorSafe, TotalSafe, ChainPromise}
use Rattle.jobs.specs.Job.{fields_in, is_divided, Places, judge_job, written, start_capacity}
use Rattle.jobs.proofs.Promise.{promised}
use Rattle.jobs.proofs.Judged.{list_fine, blocks_fine}
use Rattle.jobs.proofs.Accepted.{accepted_fields}
use Rattle.jobs.proofs.Answering.{job_overshoots, list_told, some_refused, answer_pass, answer_stop, written_pass, kept, put, value_at}
use Rattle.floors.specs.Floor.{floor_images, job_floor, job_blocks, job_block_floors, job_total, accepted_floor, refused_floor, FloorAccepted, FloorFinished, no_block, FloorsSafe, FloorAnswered}
use Rattle.floors.specs.declared.FloorAnswer.{FloorAnswer}
use Rattle.floors.proofs.Finishing.{no_rows, divided_blocks}

-- what the operation takes is a floor
pub floor_taken : (fields : List Field) → takes Floors (job_kind fields) ≡ true → job_kind fields ≡ floor_kind
unfolding takes
floor_taken fields taken = eqb-true (job_kind fields) floor_kind taken

module _ (fields : List Field) (ready : FloorAccepted fields) where
  promise : ChainPromise (job_capacity fields) (job_steps fields)
  promise = promised (job_capacity fields) (job_steps fields) (job_sizes fields) (list_fine fields (no_rows fields ready) ready.accepted)

  -- by whether the list is divided
  by_division : (P : ℕ → Type 0) → (is_divided fields ≡ true → P (total (job_block_floors fields))) → (is_divided fields ≡ false → P (job_floor fields)) → P (job_total fields)
  unfolding job_total
  by_division P blocks whole = go (is_divided fields) refl
    where
      go : (test : Bool) → is_divided fields ≡ test → P (cond test (total (job_block_floors fields)) (job_floor fields))
      go true is = blocks is
      go false is = whole is

  -- the blocks' floors, and that the blocks have all sizes
  floors_of : is_divided fields ≡ true → job_block_floors fields ≡ map (block_floor (job_capacity fields) (job_steps fields)) (divide (block_numbers fields) (job_counts fields) (job_sizes fields))
  unfolding job_block_floors
  floors_of is = rw (divided_blocks fields is)

  all_sizes : is_divided fields ≡ true → total (block_numbers fields) ≡ length (job_sizes fields)
  all_sizes is = (fit _ _ (blocks_fine fields (no_rows fields ready) ready.accepted is)).add_up

  list_floor : FloorSafe (job_capacity fields) (job_counts fields) (job_sizes fields) (job_floor fields)
  unfolding job_floor
  list_floor = promise.floor_is_safe (job_counts fields) (job_sizes fields)

  within_total : job_floor fields ≤ job_total fields
  unfolding job_floor
  within_total = by_division (λ all. job_floor fields ≤ all) (λ is. rw (floors_of is) (promise.floor_within_total (block_numbers fields) (job_counts fields) (job_sizes fields) (all_sizes is))) (λ is. omega arith)

  list_total : TotalSafe (job_capacity fields) (block_numbers fields) (job_counts fields) (job_sizes fields) (job_total fields)
  list_total =
      by_division (TotalSafe (job_capacity fields) (block_numbers fields) (job_counts fields) (job_sizes fields))
      (λ is. rw (floors_of is) (promise.total_is_safe (block_numbers fields) (job_counts fields) (job_sizes fields) (all_sizes is)))
      (λ is bins fits separate. list_floor bins fits)

  block_floor_safe : (behind : List ℕ) (i : ℕ) → i < length (job_blocks fields) → FloorSafe (job_capacity fields) (get_or (job_blocks fields) i no_block).counts (get_or (job_blocks fields) i no_block).sizes (get_or (job_block_floors fields ++ behind) i 0)
  unfolding job_block_floors block_floor
  block_floor_safe behind i l = rw (value_at (block_floor (job_capacity fields) (job_steps fields)) no_block (job_blocks fields) i behind l) (promise.floor_is_safe (get_or (job_blocks fields) i no_block).counts (get_or (job_blocks fields) i no_block).sizes)

  floors_safe : (behind : List ℕ) → FloorsSafe fields (accepted_floor fields) (job_block_floors fields ++ behind)
  unfolding accepted_floor
  floors_safe behind =
      record {
        floor_is_safe = list_floor;
        floor_within_total = within_total;
        total_is_safe = list_total;
        every_block_is_safe = block_floor_safe behind;
      }

-- an accepted job is a floor job
module _ (job : List ℕ) (lent : Places) (none : (judge_job Floors job lent).number ≡ 0) where
  pub job_accepted : FloorAccepted (fields_in job)
  job_accepted =
      let accepted = accepted_fields Floors job lent none in
      record { accepted = accepted.parts_accepted; is_floor = floor_taken (fields_in job) accepted.is_taken }

-- what the operation leaves
module _ (job : List ℕ) (lent : Places) (images working list blocks : List ℕ) where
  abbrev fields : List Field
  fields = fields_in job

  abbrev r : Judgement
  r = judge_job Floors job lent

  -- 11 is of the job's own capacity
  overshoots : (list' : List ℕ) → list' ≡ list_by r list → r.number ≡ 11 → StepOvershoots (job_capacity fields) (job_steps fields) r.step (take (length r.list) list')
  unfolding start_capacity
  overshoots list' listed eleven =
      let over = job_overshoots Floors job lent eleven in
      let kind = floor_taken fields over.is_taken in
      rw (list_told r list list' listed) (rw (ne_eqb (job_kind fields) rows_kind (λ many. omega (arith, kind, many))) at over.overshoots)

  module _ (answer : FloorAnswer) (working' list' : List ℕ) (listed : list' ≡ list_by r list) (long : length working' ≡ length working) where
    pub answered_refused : (e : Refused) → RefusedAs r e → answer ≡ record { number = number_of e.refusal; n = 0; floor = 0; sum = 0; scale = 0; step = place_of e.step; length = e.length; row = 0; total = 0 } → FloorAnswered fields r images working list blocks answer images working' list' blocks
    unfolding refused_floor
    answered_refused e told is =
        let some = some_refused r e told in
        let so : answer ≡ refused_floor r = is ∙ rw (told.number_is, told.step_is, told.length_is) refl in
        record {
          answer_is = so ∙ sym (answer_stop r (accepted_floor fields) (refused_floor r) some);
          images_are = kept r e told (floor_images fields) images;
          list_is = listed;
          blocks_are = kept r e told (job_block_floors fields) blocks;
          working_long = long;
          overshoots = λ eleven. rw so (overshoots list' listed (rw so at eleven));
          safe = λ none. absurd (some (rw so at none));
        }

    pub answered_finished : (images' blocks' : List ℕ) → r.number ≡ 0 → FloorFinished fields (take most_sizes images) (take most_blocks blocks) answer images' blocks' → (length images' ≡ length (take most_sizes images)) × (length blocks' ≡ length (take most_blocks blocks)) → FloorAnswered fields r images working list blocks answer (images' ++ drop most_sizes images) working' list' (blocks' ++ drop most_blocks blocks)
    unfolding accepted_floor written
    answered_finished images' blocks' none done lengths =
        let blocked = put r none (job_block_floors fields) blocks' blocks most_blocks lengths.1 done.blocks_are in
        record {
          answer_is = done.answer_is ∙ sym (answer_pass r (accepted_floor fields) (refused_floor r) none);
          images_are = put r none (floor_images fields) images' images most_sizes lengths.0 done.images_are;
          list_is = listed;
          blocks_are = blocked;
          working_long = long;
          overshoots = λ eleven. absurd (omega (arith, ap (λ (a : FloorAnswer). a.number) done.answer_is, eleven));
          safe = λ _. rw (done.answer_is, blocked ∙ written_pass r (job_block_floors fields) blocks none) (floors_safe fields (job_accepted job lent none) (drop (length (job_block_floors fields)) blocks));
        }
