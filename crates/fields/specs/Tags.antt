-- The numbers of tags.
use Rattle.std.specs.Prelude.{◌≡◌, Option, None, Some, Result, Ok, Err, ℕ, ◌≤◌}
use Rattle.refusals.specs.declared.Refusal.{Refusal}
use Rattle.refusals.specs.Number.{number_of}
use Rattle.fields.specs.declared.tag.Tag.{Tag}
use Rattle.fields.specs.declared.tag.Tag.TheVariants.{Kind, Capacity, Sizes, Family, Table, Row, Counts, Blocks}

abbrev pub tag_number : Tag → ℕ
tag_number Kind = 1
tag_number Capacity = 2
tag_number Sizes = 3
tag_number Family = 4
tag_number Table = 5
tag_number Row = 6
tag_number Counts = 7
tag_number Blocks = 8

-- 0 before the first field
abbrev pub last_number : Option Tag → ℕ
last_number None = 0
last_number (Some tag) = tag_number tag

-- the tag with a number, or 14 where there is none
abbrev pub TagFrom : ℕ → Result Tag Refusal → Type 0
TagFrom number (Ok tag) = tag_number tag ≡ number
TagFrom number (Err refusal) = ((1 ≤ number) × (number ≤ 8) → ⊥) × (number_of refusal ≡ 14)
