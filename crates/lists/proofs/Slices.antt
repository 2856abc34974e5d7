-- A test of every number of a slice.
use mathlib.Core.Path.{◌≡◌, sym, ◌∙◌}
use mathlib.Core.Bool.{Bool}
use mathlib.Core.List.{List}
use Prim.Native.Nat.{ℕ}
use denote.Ref.{Bor}
use denote.Param.Members.{Mut}
use Rattle.std.specs.Slice.Iter.{iter_rest}
use Rattle.std.specs.Iterator.{ChecksAll}
use Rattle.std.specs.Fn.{Called}
use Rattle.std.proofs.iter.Yields.{fronts}
use Rattle.std.proofs.lemmas.Iterator.{YieldsList-from_slice}
use Rattle.std.proofs.lemmas.Iterator.Search.{all_from_yields_List}
use Rattle.chains.specs.Sizes.{each}
use Rattle.chains.proofs.SizeTests.{each_is_all}

-- `all` with a closure that tests a number is the definition's test of each
pub each_from_all : {F : Type 0} {g : Mut F (Bor ℕ × Unit {0}) Bool} {s u : _} {f : F} {passed : Bool} (test : ℕ → Bool) (numbers : List ℕ) → ChecksAll fronts g s f passed u → iter_rest s ≡ numbers → ((x : Bor ℕ) (b : Bool) (q : F) → Called g f (x, tt) b q → (q ≡ f) × (b ≡ test x.now)) → passed ≡ each test numbers
each_from_all test numbers ran rest tests = all_from_yields_List test _ _ _ ran (YieldsList-from_slice numbers rest) tests ∙ sym (each_is_all test numbers)
