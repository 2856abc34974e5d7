-- A job that was read: refusals 13 to 16.
use Rattle.std.specs.Prelude.{true, ◌≡◌, Result, Ok, Err, List, ℕ}
use Rattle.refusals.specs.declared.Refusal.{Refusal}
use Rattle.refusals.specs.Number.{number_of}
use Rattle.fields.specs.Parts.{job_kind}
use Rattle.fields.specs.Reading.{complete, job_fields}
use Rattle.chains.specs.Judge.{plain}
use Rattle.jobs.specs.Kinds.{takes}
use Rattle.jobs.specs.Job.{fields_in, judge_reading}
use Rattle.jobs.specs.declared.kind.Operation.{Operation}
use Rattle.jobs.specs.declared.read.ReadJob.{ReadJob}

-- the job whole, of a kind that the operation takes, or the number that refuses its fields or its kind
abbrev pub JobTaken : Operation → List ℕ → Result ReadJob Refusal → Type 0
JobTaken asked job (Ok read) = (read.bytes.now ≡ job) × (job_fields job ≡ complete (fields_in job)) × (takes asked (job_kind (fields_in job)) ≡ true)
JobTaken asked job (Err refusal) = judge_reading asked (job_fields job) ≡ plain (number_of refusal)
