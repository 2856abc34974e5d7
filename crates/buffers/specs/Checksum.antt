-- The checksum of the case programs.
use Rattle.std.specs.Prelude.{ℕ, ◌+◌, ◌*◌, ◌%◌, ◌^◌, List, fold}

-- a checksum with one more value, which goes in mod a prime
abbrev pub with_value : ℕ → ℕ → ℕ
with_value total value = (total % 2 ^ 32 * 31 + value % 4294967291) % 2 ^ 32

abbrev pub checksum : List ℕ → ℕ
checksum values = fold with_value 0 values
