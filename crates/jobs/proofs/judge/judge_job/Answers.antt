-- `judge_job` meets its contract: the buffers, the fields with the kind, and then the parts.
use mathlib.Core.Path.{◌≡◌, refl, sym, ◌∙◌}
use native.Mathlib.Omega.{arith}
use lib.ListN.{length}
use Rattle.std.proofs.lemmas.Option.{MatchOption-at_some}
use Rattle.refusals.proofs.Numbers.{number_positive}
use Rattle.refusals.proofs.Stopped.{stopped}
use Rattle.chains.proofs.Present.{plain_refused}
use Rattle.jobs.specs.Job.{places_of, buffer_refusal}
use Rattle.jobs.proofs.Answering.{Rooms, rooms, buffers_refused, by_reading, parts_decide, judged_whole}
use Rattle.jobs.proofs.judge.judge_job.Goals.{After-read}
use Rattle.jobs.proofs.judge.judge_job.Goals as goal

enough : (c : After-read) → buffer_refusal c.args.operation (length c.args.job.now) (places_of c.args.images.now c.args.working.now c.args.list.now c.args.own.now) ≡ 0
enough c = sym c.in_ok-refuse_buffers.ensures

room : (c : After-read) → Rooms c.args.operation (places_of c.args.images.now c.args.working.now c.args.list.now c.args.own.now)
room c = rooms c.args.operation (length c.args.job.now) (places_of c.args.images.now c.args.working.now c.args.list.now c.args.own.now) (enough c)

pub returns-in_err-refuse_buffers-clause-judged : goal.returns-in_err-refuse_buffers-clause-judged
returns-in_err-refuse_buffers-clause-judged c =
    let refusal = c.in_err-refuse_buffers.field-0.0 in
    rw (stopped _ c.from_residual.ensures.1, buffers_refused _ _ _ _ c.in_err-refuse_buffers.ensures (λ none. omega (arith, none, number_positive refusal)))
    (plain_refused _ c.args.list.now refusal refl)

pub returns-in_err-read-clause-judged : goal.returns-in_err-read-clause-judged
returns-in_err-read-clause-judged c =
    rw (stopped _ c.from_residual-in_err-read.ensures.1, by_reading _ _ _ (enough (goal.at.returns-in_err-read-clause-judged c).After-read) ∙ c.in_err-read.ensures)
    (plain_refused _ c.args.list.now c.in_err-read.field-0.0 refl)

pub unwrap-working-requires : goal.unwrap-working-requires
unwrap-working-requires c = c.first_chunk_mut.ensures.variant.1 (room (goal.at.unwrap-working-requires c).After-read).for_working

pub unwrap-list-requires : goal.unwrap-list-requires
unwrap-list-requires c = c.first_chunk_mut-2.ensures.variant.1 (room (goal.at.unwrap-list-requires c).After-read).for_list

-- what the parts are judged, which decides the job: it is told of the first places of the list buffer
pub returns-in_err-judge_parts-clause-judged : goal.returns-in_err-judge_parts-clause-judged
returns-in_err-judge_parts-clause-judged c =
    let at = (goal.at.returns-in_err-judge_parts-clause-judged c).After-read in
    let list = (MatchOption-at_some _ _ _ c.unwrap-list.ensures c.first_chunk_mut-2.ensures.cases).same in
    let read = c.in_ok-read.ensures in
    let parts = rw (list, read.0) at c.in_err-judge_parts.ensures in
    rw (stopped _ c.from_residual-in_err-judge_parts.ensures.1, parts_decide _ _ _ (enough at) _ read.1 read.2)
    (judged_whole _ c.args.list.now _ _ parts.length parts.judged.told parts.judged.list_is)

pub returns-clause-judged : goal.returns-clause-judged
returns-clause-judged c =
    let at = (goal.at.returns-clause-judged c).After-read in
    let list = (MatchOption-at_some _ _ _ c.unwrap-list.ensures c.first_chunk_mut-2.ensures.cases).same in
    let read = c.in_ok-read.ensures in
    let parts = rw (list, read.0) at c.in_ok-judge_parts.ensures in
    rw (parts_decide _ _ _ (enough at) _ read.1 read.2)
    (judged_whole _ c.args.list.now _ _ parts.length parts.judged.told parts.judged.list_is)

pub returns-clause-read : goal.returns-clause-read
returns-clause-read c = c.in_ok-read.ensures.0
