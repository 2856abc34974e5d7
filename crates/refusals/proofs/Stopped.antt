-- What a `?` returns where it stops: the error that it was given.
use Rattle.std.specs.Prelude.{Result, Ok, Err}
use Rattle.std.specs.Result.{IsErrAnd}
use mathlib.Core.Path.{◌≡◌, ap}

pub stopped : {T E : Type 0} {e : E} (r : Result T E) → IsErrAnd r (λ y. y ≡ e) → r ≡ Err e
stopped (Ok x) told = absurd told
stopped (Err y) told = ap (λ z. Err z) told
