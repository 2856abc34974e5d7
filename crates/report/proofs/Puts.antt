-- Bytes put into a buffer one after the other.
use Rattle.std.proofs.lemmas.Bool.{cases_lt}
use mathlib.Core.Path.{◌≡◌, refl, ap, sym, ◌∙◌}
use mathlib.Core.Logic.{◌⊎◌, inl, inr}
use mathlib.Core.List.{List, [], ◌∷◌, ◌++◌}
use Prim.Native.Nat.{ℕ, zero, suc, ◌+◌, ◌-◌, ◌≤◌, ◌<◌, min}
use native.Mathlib.Omega.{arith}
use lib.ListN.{length, take, drop, set, length-set, length-append}
use lib.Seq.{set_out}
use borrow.Rule.Slice.PartMut.{put_mid}
use Rattle.report.specs.Put.{stored, Put}

stored_length : (out : List ℕ) (at : ℕ) (bytes : List ℕ) → length (stored out at bytes) ≡ length out
unfolding stored
stored_length out at [] = refl
stored_length out at (b ∷ bytes) = stored_length (set out at b) (suc at) bytes ∙ length-set out at b

stored_behind : (out : List ℕ) (at : ℕ) (bytes : List ℕ) → length out ≤ at → stored out at bytes ≡ out
unfolding stored
stored_behind out at [] l = refl
stored_behind out at (b ∷ bytes) l = ap (λ (o : List ℕ). stored o (suc at) bytes) (set_out out at b l) ∙ stored_behind out (suc at) bytes (omega arith)

stored_append : (out : List ℕ) (at : ℕ) (a b : List ℕ) → stored out at (a ++ b) ≡ stored (stored out at a) (at + length a) b
unfolding stored
stored_append out at [] b = ap (λ (i : ℕ). stored out i b) (omega arith)
stored_append out at (x ∷ a) b = stored_append (set out at x) (suc at) a b ∙ ap (λ (i : ℕ). stored (stored (set out at x) (suc at) a) i b) (omega arith)

stored_cons : (x : ℕ) (out : List ℕ) (at : ℕ) (bytes : List ℕ) → stored (x ∷ out) (suc at) bytes ≡ x ∷ stored out at bytes
unfolding stored
stored_cons x out at [] = refl
stored_cons x out at (b ∷ bytes) = stored_cons x (set out at b) (suc at) bytes

-- from the start on, the bytes that fit, and what was behind them
stored_whole : (out bytes : List ℕ) (r : ℕ) → r ≡ min (length bytes) (length out) → stored out 0 bytes ≡ take r bytes ++ drop r out
unfolding stored
stored_whole [] bytes zero e = stored_behind [] 0 bytes (omega arith)
stored_whole [] bytes (suc r) e = absurd (omega (arith, e))
stored_whole (x ∷ out) [] zero e = refl
stored_whole (x ∷ out) [] (suc r) e = absurd (omega (arith, e))
stored_whole (x ∷ out) (b ∷ bytes) zero e = absurd (omega (arith, e))
stored_whole (x ∷ out) (b ∷ bytes) (suc r) e = stored_cons b out 0 bytes ∙ ap (λ (l : List ℕ). b ∷ l) (stored_whole out bytes r (omega (arith, e)))

pub put_none : (old : List ℕ) (at : ℕ) → at ≤ length old → Put old at [] old at
unfolding stored
put_none old at l = record { holds = refl; next_is = omega arith }

pub put_one : (old : List ℕ) (at b : ℕ) → at < length old → Put old at (b ∷ []) (set old at b) (at + 1)
unfolding stored
put_one old at b l = record { holds = refl; next_is = omega arith }

pub put_full : (old : List ℕ) (at b : ℕ) → at ≤ length old → length old ≤ at → Put old at (b ∷ []) old at
put_full old at b l m = record { holds = sym (stored_behind old at (b ∷ []) m); next_is = omega arith }

module _ {old bytes new : List ℕ} {at next : ℕ} (p : Put old at bytes new next) where
  pub put_length : length new ≡ length old
  put_length = ap length p.holds ∙ stored_length old at bytes

  pub put_within : next ≤ length new
  put_within = omega (arith, p.next_is, put_length)

  pub put_then : {more last : List ℕ} {end : ℕ} → Put new next more last end → Put old at (bytes ++ more) last end
  put_then {more} {last} {end} q =
      record {
        holds = q.holds ∙ ap (λ (o : List ℕ). stored o next more) p.holds ∙ behind (cases_lt (at + length bytes) (length old)) ∙ sym (stored_append old at bytes more);
        next_is = q.next_is ∙ simp length-append (omega (arith, p.next_is, put_length));
      }
    where
      behind : (at + length bytes < length old) ⊎ (length old ≤ at + length bytes) → stored (stored old at bytes) next more ≡ stored (stored old at bytes) (at + length bytes) more
      behind (inl l) = ap (λ (i : ℕ). stored (stored old at bytes) i more) (omega (arith, p.next_is))
      behind (inr m) =
          stored_behind _ next more (omega (arith, p.next_is, stored_length old at bytes))
          ∙ sym (stored_behind _ (at + length bytes) more (omega (arith, stored_length old at bytes)))

-- bytes that are copied at once, as far as they fit
stored_part : (old bytes : List ℕ) (at n : ℕ) → at ≤ length old → n ≡ min (length bytes) (length old - at) → stored old at bytes ≡ take at old ++ (take n bytes ++ drop n (drop at old))
stored_part old bytes zero n l e = stored_whole old bytes n (omega (arith, e))
stored_part [] bytes (suc at) n l e = absurd (omega arith)
stored_part (x ∷ old) bytes (suc at) n l e = stored_cons x old at bytes ∙ ap (λ (o : List ℕ). x ∷ o) (stored_part old bytes at n (omega arith) (omega (arith, e)))

pub put_part : (old bytes : List ℕ) (at n k : ℕ) → at ≤ length old → n ≡ min (length bytes) (length old - at) → k ≡ n → Put old at bytes (put_mid at k old (take n bytes)) (at + n)
put_part old bytes at n k l e same = record { holds = rw same (sym (stored_part old bytes at n l e)); next_is = omega (arith, e) }

-- a buffer into which a text was put from its start on
pub put_whole : {old text new : List ℕ} {r : ℕ} → Put old 0 text new r → new ≡ take r text ++ drop r old
put_whole {old} {text} {new} {r} p = p.holds ∙ stored_whole old text r (p.next_is ∙ omega arith)
