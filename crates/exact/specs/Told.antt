-- Within the crate: the answer that an outcome is told as.
use Rattle.std.specs.Prelude.{Result, Ok, Err}
use Rattle.refusals.specs.Number.{number_of}
use Rattle.refusals.specs.declared.Refusal.{Refusal}
use Rattle.exact.specs.Exact.{refused_exact}
use Rattle.exact.specs.declared.ExactAnswer.{ExactAnswer}

abbrev pub told : Result ExactAnswer Refusal → ExactAnswer
told (Ok answer) = answer
told (Err refusal) = refused_exact (number_of refusal)
