-- The numbers of refusal of documents 01 and 02.
use Rattle.std.specs.Prelude.{ℕ, Result, Ok, Err}
use Rattle.refusals.specs.declared.Refusal.{Refusal}
use Rattle.refusals.specs.declared.Refusal.TheVariants.{Capacity, Family, Parameters, ScaleOverLimit, SizeOverCapacity, ListLength, BufferTooShort, FirstEntry, LastEntry, EntryOverLimit, Overshoots, JobTooLong, FieldPastEnd, TagOutOfPlace, FieldLength, JobKind, Size, TableCapacity, ParameterRange, NoParameterPasses, RowCount, Count, Blocks, TooManyCopies, NoneOvershoots}

abbrev pub number_of : Refusal → ℕ
number_of Capacity = 1
number_of Family = 2
number_of Parameters = 3
number_of ScaleOverLimit = 4
number_of SizeOverCapacity = 5
number_of ListLength = 6
number_of BufferTooShort = 7
number_of FirstEntry = 8
number_of LastEntry = 9
number_of EntryOverLimit = 10
number_of Overshoots = 11
number_of JobTooLong = 12
number_of FieldPastEnd = 13
number_of TagOutOfPlace = 14
number_of FieldLength = 15
number_of JobKind = 16
number_of Size = 17
number_of TableCapacity = 18
number_of ParameterRange = 19
number_of NoParameterPasses = 20
number_of RowCount = 21
number_of Count = 22
number_of Blocks = 23
number_of TooManyCopies = 24
number_of NoneOvershoots = 25

-- 0 where nothing is refused
abbrev pub number_in : {A : Type 0} → Result A Refusal → ℕ
number_in (Ok value) = 0
number_in (Err refusal) = number_of refusal
