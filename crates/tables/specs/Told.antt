-- What a table check answers as a `Result`, told as the operation for C tells it.
use Rattle.std.specs.Prelude.{Result, Ok, Err}
use Rattle.refusals.specs.Number.{number_of}
use Rattle.tables.specs.declared.Refused.{Refused}
use Rattle.tables.specs.declared.TableAnswer.{TableAnswer}

-- 0, or the number of what refuses and the length of the list that it leaves
abbrev pub told : {A : Type 0} → Result A Refused → TableAnswer
told (Ok value) = record { number = 0; length = 0 }
told (Err refused) = record { number = number_of refused.refusal; length = refused.length }
