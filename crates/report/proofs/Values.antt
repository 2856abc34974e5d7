-- Values put one after the other, and lines of them.
use mathlib.Core.Path.{◌≡◌, refl, ap, sym, ◌∙◌}
use mathlib.Core.List.{List, [], ◌∷◌, ◌++◌, append_assoc, append-nil}
use Prim.Native.Nat.{ℕ, ◌+◌, ◌≤◌, ◌<◌}
use native.Mathlib.Numerals.{add-one}
use lib.ListN.{length, get_or, take}
use lib.Seq.{take-suc}
use Rattle.report.specs.Text.{decimal, values_text, line}
use Rattle.report.specs.Put.{Put}
use Rattle.report.proofs.Puts.{put_none, put_then}

values_append : (a b : List ℕ) → values_text (a ++ b) ≡ values_text a ++ values_text b
unfolding values_text
values_append [] b = refl
values_append (v ∷ a) b = ap (λ (l : List ℕ). (32 ∷ decimal v) ++ l) (values_append a b) ∙ sym (append_assoc (32 ∷ decimal v) (values_text a) (values_text b))

values_one : (v : ℕ) → values_text (v ∷ []) ≡ 32 ∷ decimal v
unfolding values_text
values_one v = append-nil (32 ∷ decimal v)

pub values_none : (old : List ℕ) (at : ℕ) → at ≤ length old → Put old at (values_text []) old at
unfolding values_text
values_none old at l = put_none old at l

pub values_next : {old out new : List ℕ} {at next end : ℕ} (values : List ℕ) (i : ℕ) → Put old at (values_text (take i values)) out next → i < length values → Put out next (32 ∷ decimal (get_or values i 0)) new end → Put old at (values_text (take (i + 1) values)) new end
values_next values i p l q =
    rw (add-one i, take-suc values i 0 l, values_append (take i values) (get_or values i 0 ∷ []), values_one (get_or values i 0)) (put_then p q)

-- a line in three puts
pub line_put : {old a b new : List ℕ} {at i j end : ℕ} (word values : List ℕ) → Put old at word a i → Put a i (values_text values) b j → Put b j (10 ∷ []) new end → Put old at (line word values) new end
unfolding line
line_put word values p q r = put_then p (put_then q r)

pub value_put : {old new : List ℕ} {at next : ℕ} (v : ℕ) → Put old at (32 ∷ decimal v) new next → Put old at (values_text (v ∷ [])) new next
value_put v p = rw (values_one v) p

pub values_three : {old a b new : List ℕ} {at i j end : ℕ} (v : ℕ) (values : List ℕ) (w : ℕ) → Put old at (32 ∷ decimal v) a i → Put a i (values_text values) b j → Put b j (32 ∷ decimal w) new end → Put old at (values_text (v ∷ (values ++ (w ∷ [])))) new end
values_three v values w p q r =
    rw (values_append (v ∷ []) (values ++ (w ∷ [])), values_append values (w ∷ []), values_one v, values_one w) (put_then p (put_then q r))
