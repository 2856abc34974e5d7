-- The bytes of a job, document 01, "Jobs": numbers of two and of four bytes, high byte first, and the first field of a job's rest.
use Rattle.std.specs.Prelude.{Bool, cond, ◌&&◌, Option, None, Some, List, [], ◌∷◌, ℕ, zero, suc, ◌+◌, ◌*◌, ◌/◌, leb, length, get_or, take, drop}
use Rattle.fields.specs.declared.Header.{Header}

-- a header: a one-byte tag and a two-byte length
abbrev pub header_bytes : ℕ
header_bytes = 3

-- the two-byte number at a place of a list of bytes, and the four-byte number
unfoldable pub halfword : List ℕ → ℕ → ℕ
halfword bytes at = get_or bytes at 0 * 256 + get_or bytes (at + 1) 0

unfoldable pub word : List ℕ → ℕ → ℕ
word bytes at = halfword bytes at * 65_536 + halfword bytes (at + 2)

-- the first n numbers, each read at the start of what is left, `width` bytes behind the one before
unfoldable pub numbers_from : (List ℕ → ℕ → ℕ) → ℕ → ℕ → List ℕ → List ℕ
numbers_from number width zero bytes = []
numbers_from number width (suc n) bytes = number bytes 0 ∷ numbers_from number width n (drop width bytes)

unfoldable pub halfwords : List ℕ → List ℕ
halfwords bytes = numbers_from halfword 2 (length bytes / 2) bytes

unfoldable pub words : List ℕ → List ℕ
words bytes = numbers_from word 4 (length bytes / 4) bytes

-- the first field of the rest of a job: its tag, its length, and whether header and value are within the rest
unfoldable pub field_tag : List ℕ → ℕ
field_tag rest = get_or rest 0 0

unfoldable pub field_length : List ℕ → ℕ
field_length rest = halfword rest 1

unfoldable pub field_within : List ℕ → Bool
field_within rest = leb header_bytes (length rest) && leb (header_bytes + field_length rest) (length rest)

-- its header, none where header or value runs past the end
unfoldable pub header_of : List ℕ → Option Header
header_of rest = cond (field_within rest) (Some (record { tag = field_tag rest; length = field_length rest })) None

-- its value, and the rest from the next field on: both empty where header or value runs past the end
unfoldable pub field_value : List ℕ → List ℕ
field_value rest = cond (field_within rest) (take (field_length rest) (drop header_bytes rest)) []

unfoldable pub field_rest : List ℕ → List ℕ
field_rest rest = cond (field_within rest) (drop (header_bytes + field_length rest) rest) []
