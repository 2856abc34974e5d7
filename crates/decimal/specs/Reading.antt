-- How a number is read off a text: digits up to and with the first byte below '0'.
use Rattle.std.specs.Prelude.{ℕ, zero, suc, ◌+◌, ◌-◌, ◌*◌, ◌%◌, ◌^◌, nat_lt, ◌==◌, if◌then◌else◌, List, [], ◌∷◌}

-- the value with one more decimal digit; a value that would not fit stays
abbrev pub with_digit : ℕ → ℕ → ℕ
with_digit value digit = if nat_lt (value * 10 + digit) (2 ^ 64) then value * 10 + digit else value

-- the value that a text goes on with
abbrev pub value_from : ℕ → List ℕ → ℕ
value_from value [] = value
value_from value (byte ∷ text) = if nat_lt byte 48 then value else value_from (with_digit value ((byte - 48) % 10)) text

-- the number that a text begins with, 0 if it is empty
abbrev pub number : List ℕ → ℕ
number = value_from 0

-- the text behind that number
abbrev pub behind : List ℕ → List ℕ
behind [] = []
behind (byte ∷ text) = if nat_lt byte 48 then text else behind text

-- the text behind the first n numbers
abbrev pub behind_all : ℕ → List ℕ → List ℕ
behind_all zero text = text
behind_all (suc n) text = behind (behind_all n text)

-- the text behind the ends of lines that it begins with
abbrev pub behind_empty_lines : List ℕ → List ℕ
behind_empty_lines [] = []
behind_empty_lines (byte ∷ text) = if byte == 10 then behind_empty_lines text else (byte ∷ text)
