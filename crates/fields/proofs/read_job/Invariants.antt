-- `read_job` meets its contract: the loop's invariant is `SoFar`.
use lib.ListN.{length}
use Rattle.fields.specs.Tags.{last_number}
use Rattle.fields.proofs.SoFar.{SoFar}
use Rattle.fields.proofs.read_job.Given as goal

-- the loop has the struct's fields in their order
abbrev pub invariant-loop-parts : goal.invariant-loop-parts
invariant-loop-parts l =
    let behind = l.parts.1.1.1.1 in
    SoFar l.job (record { capacity = l.parts.0; sizes = l.parts.1.0; counts = l.parts.1.1.0; blocks = l.parts.1.1.1.0; steps = behind.0; rows = behind.1.0; coefficients = behind.1.1.0; kind = behind.1.1.1.0 }) (last_number l.last) l.rest

abbrev pub decreases-loop-parts : goal.decreases-loop-parts
decreases-loop-parts l = length l.rest
