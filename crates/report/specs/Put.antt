-- Bytes put into a buffer from a place on, as far as they fit.
use Rattle.std.specs.Prelude.{◌≡◌, List, [], ◌∷◌, ℕ, suc, ◌+◌, min, length, set}

-- the buffer afterwards; a store behind its end changes nothing
unfoldable pub stored : List ℕ → ℕ → List ℕ → List ℕ
stored out at [] = out
stored out at (b ∷ bytes) = stored (set out at b) (suc at) bytes

-- `now` is `old` with the bytes, and `next` the place behind them
pub record Put (old : List ℕ) (at : ℕ) (bytes now : List ℕ) (next : ℕ) : Type 0 where
  pub holds : now ≡ stored old at bytes
  pub next_is : next ≡ min (at + length bytes) (length old)
