-- `run_cases` ends: each case passes at least one byte.
use Rattle.std.proofs.Common.{length}
use Rattle.cases.proofs.run_cases.Given as goal

abbrev pub decreases-loop-out : goal.decreases-loop-out
decreases-loop-out g l = length l.numbers
