-- `accepted_floor` meets its contract: by blocks, or over the whole list.
use mathlib.Core.Path.{◌≡◌, ap, ◌∙◌}
use Prim.Native.Nat.{ℕ, ◌*◌, ◌≤◌}
use native.Mathlib.Omega.{arith}
use Rattle.std.specs.Prelude.{Option}
use Rattle.std.specs.Option.{unwrap_or}
use Rattle.functions.specs.Families.{◌up◌}
use Rattle.functions.specs.Words.{most_count, limit}
use Rattle.fields.specs.Grammar.{most_sizes}
use Rattle.jobs.proofs.Taken.{parts_are}
use Rattle.floors.proofs.Finishing.{countable, sum_bound, roundable, whole_answer, whole_written, blocks_ready, blocks_answer, blocks_written, none_answered}
use Rattle.floors.proofs.answer.accepted_floor.Goals.{in-Some, in-None}
use Rattle.floors.proofs.answer.accepted_floor.Goals as goal

pub write_floors-sums-requires : goal.write_floors-sums-requires
write_floors-sums-requires c =
    let h = parts_are c.args.job in
    blocks_ready _ c.requires.job_accepted _ h _ _ c.requires.applied c.in-Some.numbers (rw c.in-Some.is at h.blocks_are) _ (omega (arith, c.told-floors))

pub sum_of-requires : goal.sum_of-requires
sum_of-requires c = countable _ c.requires.job_accepted _ (parts_are c.args.job) _ _ c.requires.applied

pub round_up-floor-requires : goal.round_up-floor-requires
round_up-floor-requires c =
    let accepted = c.requires.job_accepted in
    let applied = c.requires.applied in
    let h = parts_are c.args.job in
    let most : c.match-job.sum.0 ≤ most_sizes * (most_count * limit) =
    elim c.match-job.branch [
      | in-Some w ↦ rw w.sum-is w.write_floors-sums.ensures.sum_most
      | in-None w ↦ rw w.sum-is (sum_bound _ accepted _ h _ _ applied _ w.sum_of.ensures.1)
    ]
    in
    omega (arith, roundable _ accepted _ h _ _ applied _ most)

-- the floor and the total, by the sum and the blocks' total of each way
floor_of : {s t : ℕ × Option ℕ} (scale : ℕ) → s ≡ t → (s.0 up scale) ≡ (t.0 up scale)
floor_of scale e = ap (λ (s : ℕ × Option ℕ). s.0 up scale) e

total_of : {s t : ℕ × Option ℕ} (floor : ℕ) → s ≡ t → unwrap_or s.1 floor ≡ unwrap_or t.1 floor
total_of floor e = ap (λ (s : ℕ × Option ℕ). unwrap_or s.1 floor) e

pub returns : goal.returns
returns c =
    let accepted = c.requires.job_accepted in
    let applied = c.requires.applied in
    let h = parts_are c.args.job in
    let none = none_answered c.default.result c.default.ensures in
    elim c.match-job.branch [
      | in-Some w ↦
          let blocks = rw w.in-Some.is at h.blocks_are in
          let summed = w.write_floors-sums.ensures in (
            rw (none, w.sum-is, c.unwrap_or.ensures ∙ total_of _ w.sum-is) (blocks_answer _ accepted _ h _ _ applied w.in-Some.numbers blocks _ _ _ summed _ (c.round_up-floor.ensures ∙ floor_of _ w.sum-is)),
            rw w.floors-is (blocks_written _ accepted _ h _ _ applied w.in-Some.numbers blocks _ _ _ summed),
          )
      | in-None w ↦
          let whole = rw w.in-None.is at h.blocks_are in (
            rw (none, w.sum-is, c.unwrap_or.ensures ∙ total_of _ w.sum-is) (whole_answer _ accepted _ h _ _ applied whole _ _ w.sum_of.ensures.0 (c.round_up-floor.ensures ∙ floor_of _ w.sum-is)),
            rw w.floors-is (whole_written _ accepted _ h _ _ applied whole _),
          )
    ]
