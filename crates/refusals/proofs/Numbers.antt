-- A refusal's number is its discriminant, and not 0.
use Rattle.std.proofs.Common.{◌≡◌, ◌+◌, ◌≤◌, refl, arith}
use denote.Enum.Declared.{tag_of}
use Rattle.refusals.specs.contracts.Refusal.{the_type}
use Rattle.refusals.specs.Number.{number_of}
use Rattle.refusals.specs.declared.Refusal.{Refusal}
use Rattle.refusals.specs.declared.Refusal.TheVariants.{Capacity, Family, Parameters, ScaleOverLimit, SizeOverCapacity, ListLength, BufferTooShort, FirstEntry, LastEntry, EntryOverLimit, Overshoots, JobTooLong, FieldPastEnd, TagOutOfPlace, FieldLength, JobKind, Size, TableCapacity, ParameterRange, NoParameterPasses, RowCount, Count, Blocks, TooManyCopies, NoneOvershoots}

-- the discriminant, which is one more than the variant's place, is its number
pub number_is : (refusal : Refusal) → tag_of the_type refusal + 1 ≡ number_of refusal
number_is Capacity = refl
number_is Family = refl
number_is Parameters = refl
number_is ScaleOverLimit = refl
number_is SizeOverCapacity = refl
number_is ListLength = refl
number_is BufferTooShort = refl
number_is FirstEntry = refl
number_is LastEntry = refl
number_is EntryOverLimit = refl
number_is Overshoots = refl
number_is JobTooLong = refl
number_is FieldPastEnd = refl
number_is TagOutOfPlace = refl
number_is FieldLength = refl
number_is JobKind = refl
number_is Size = refl
number_is TableCapacity = refl
number_is ParameterRange = refl
number_is NoParameterPasses = refl
number_is RowCount = refl
number_is Count = refl
number_is Blocks = refl
number_is TooManyCopies = refl
number_is NoneOvershoots = refl

pub number_positive : (refusal : Refusal) → 1 ≤ number_of refusal
number_positive refusal = omega (arith, number_is refusal)
