-- Within the crate: the answer that an outcome is told as.
use Rattle.std.specs.Prelude.{Result, Ok, Err, ℕ}
use Rattle.refusals.specs.Number.{number_of}
use Rattle.refusals.specs.declared.Refusal.{Refusal}
use Rattle.shortest.specs.Shortest.{refused_shortest}
use Rattle.shortest.specs.declared.ShortestAnswer.{ShortestAnswer}

-- the number of sizes of the list that is written, or what refuses
abbrev pub told : Result ℕ Refusal → ShortestAnswer
told (Ok sizes) = record { number = 0; length = sizes }
told (Err refusal) = refused_shortest (number_of refusal)
