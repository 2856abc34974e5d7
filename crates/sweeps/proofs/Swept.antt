-- The sweep's answer in document 01's words: the largest floor over all p of the range that pass 3 and 4, and the least p that gives it.
use mathlib.Core.Path.{◌≡◌, refl, ap, sym, ◌∙◌}
use mathlib.Core.Bool.{Bool, true, false, cond, false≢true}
use mathlib.Core.List.{List, [], ◌∷◌, ◌++◌, append-nil}
use mathlib.Core.Logic.{⊎_elim}
use Prim.Native.Nat.{ℕ, zero, suc, ◌+◌, ◌-◌, ◌≤◌, ◌<◌}
use native.Mathlib.Nat.{le_refl, eq-zero-or-pos}
use native.Mathlib.Omega.{arith}
use Rattle.std.proofs.lemmas.Bool.{cases_lt}
use Rattle.sweeps.specs.Sweep.{sweep_refusal, sweep_floor, passes, passing, refused_sweep, best_of, sweep_answer}
use Rattle.sweeps.specs.Promise.{Eligible, Largest, NoneEligible}
use Rattle.sweeps.specs.declared.SweepAnswer.{SweepAnswer}
use Rattle.sweeps.proofs.Sweeps.{best_kept, best_replaced, sweep_fine, sweep_other, sweep_refused, sweep_accepted}

-- what an answer says of the numbers before `end`
data Standing (c family : ℕ) (sizes counts : List ℕ) (low end : ℕ) : SweepAnswer → Type 0 where
  none : NoneEligible c family low end → Standing c family sizes counts low end (refused_sweep 20)
  some : {floor p : ℕ} → Largest c family sizes counts low end floor p → Standing c family sizes counts low end (record { number = 0; floor = floor; p = p })

module _ (c family : ℕ) (sizes counts : List ℕ) (low : ℕ) where
  abbrev floors : ℕ → ℕ
  floors = sweep_floor c family sizes counts

  -- one number more: it stands among those before, or it is the last
  module _ (end : ℕ) where
    wider : {q : ℕ} → Eligible c family low end q → Eligible c family low (suc end) q
    wider e = record { least = e.least; most = omega arith; passes_both = e.passes_both }

    split : (P : ℕ → Type 0) (q : ℕ) → Eligible c family low (suc end) q → (Eligible c family low end q → P q) → (passes c family end ≡ true → P end) → P q
    split P q e before last =
        ⊎_elim
        (λ less. before (record { least = e.least; most = less; passes_both = e.passes_both }))
        (λ reached. let same : q ≡ end = omega arith in rw same (last (rw same at e.passes_both)))
        (cases_lt q end)

    without_last : passes c family end ≡ false → (a : SweepAnswer) → Standing c family sizes counts low end a → Standing c family sizes counts low (suc end) a
    without_last fails a (none h) = none (λ q e. split (λ _. ⊥) q e (h q) (λ holds. false≢true (sym fails ∙ holds)))
    without_last fails a (some {floor} {p} b) =
        some (record {
          eligible = wider b.eligible;
          floor_is = b.floor_is;
          largest_is = λ q e. split (λ q. floors q ≤ floor) q e (b.largest_is q) (λ holds. absurd (false≢true (sym fails ∙ holds)));
          least_is = λ q e. split (λ q. q < p → floors q < floor) q e (b.least_is q) (λ holds. absurd (false≢true (sym fails ∙ holds)));
        })

    module _ (holds : passes c family end ≡ true) (from : low ≤ end) where
      last : Eligible c family low (suc end) end
      last = record { least = from; most = omega arith; passes_both = holds }

      with_last : (ps : List ℕ) (a : SweepAnswer) → a ≡ best_of floors ps → Standing c family sizes counts low end a → Standing c family sizes counts low (suc end) (best_of floors (ps ++ (end ∷ [])))
      with_last ps a is (none h) =
          rw (← (best_replaced floors a end ps is (λ found. absurd (omega arith))))
          (some (record {
            eligible = last;
            floor_is = refl;
            largest_is = λ q e. split (λ q. floors q ≤ floors end) q e (λ before. absurd (h q before)) (λ _. le_refl (floors end));
            least_is = λ q e l. absurd (h q (record { least = e.least; most = l; passes_both = e.passes_both }));
          }))
      with_last ps a is (some {floor} {p} b) = ⊎_elim more kept (cases_lt floor (floors end))
        where
          more : floor < floors end → Standing c family sizes counts low (suc end) (best_of floors (ps ++ (end ∷ [])))
          more l =
              rw (← (best_replaced floors a end ps is (λ _. l)))
              (some (record {
                eligible = last;
                floor_is = refl;
                largest_is = λ q e. split (λ q. floors q ≤ floors end) q e (λ before. omega (arith, b.largest_is q before)) (λ _. le_refl (floors end));
                least_is = λ q e m. omega (arith, b.largest_is q (record { least = e.least; most = m; passes_both = e.passes_both }));
              }))

          kept : floors end ≤ floor → Standing c family sizes counts low (suc end) (best_of floors (ps ++ (end ∷ [])))
          kept l =
              rw (← (best_kept floors a end ps is refl l))
              (some (record {
                eligible = wider b.eligible;
                floor_is = b.floor_is;
                largest_is = λ q e. split (λ q. floors q ≤ floor) q e (b.largest_is q) (λ _. l);
                least_is = λ q e. split (λ q. q < p → floors q < floor) q e (b.least_is q) (λ _ m. absurd (omega (arith, b.eligible)));
              }))

  standing : (n : ℕ) → Standing c family sizes counts low (low + n) (best_of floors (passing c family low n))
  unfolding passing best_of
  standing zero = none (λ q e. omega arith)
  standing (suc n) =
      let more : low + suc n ≡ suc (low + n) = omega arith in
      rw more (go (passes c family (low + n)) refl (standing n))
    where
      go : (test : Bool) → passes c family (low + n) ≡ test → Standing c family sizes counts low (low + n) (best_of floors (passing c family low n)) → Standing c family sizes counts low (suc (low + n)) (best_of floors (passing c family low n ++ cond test ((low + n) ∷ []) []))
      go true holds before = with_last (low + n) holds (omega arith) (passing c family low n) _ refl before
      go false fails before = rw (append-nil (passing c family low n)) (without_last (low + n) fails _ before)

module _ (c family : ℕ) (sizes counts : List ℕ) (low high : ℕ) where
  answered : sweep_refusal c family sizes counts low high ≡ 0 → Standing c family sizes counts low (suc high) (sweep_answer c family sizes counts low high)
  answered e =
      let end : low + suc (high - low) ≡ suc high = omega (arith, sweep_fine c family sizes counts low high e) in
      rw (sweep_accepted c family sizes counts low high e, ← end) (standing c family sizes counts low (suc (high - low)))

  refused_as : (sweep_refusal c family sizes counts low high ≡ 0 → ⊥) → (sweep_answer c family sizes counts low high).number ≡ sweep_refusal c family sizes counts low high
  refused_as other = ap (λ (a : SweepAnswer). a.number) (sweep_refused c family sizes counts low high other)

  largest_of : (a : SweepAnswer) → Standing c family sizes counts low (suc high) a → a.number ≡ 0 → Largest c family sizes counts low (suc high) a.floor a.p
  largest_of a (none h) e = absurd (omega arith)
  largest_of a (some b) e = b

  none_of : (a : SweepAnswer) → Standing c family sizes counts low (suc high) a → a.number ≡ 20 → NoneEligible c family low (suc high)
  none_of a (none h) e = h
  none_of a (some b) e = absurd (omega arith)

  -- an accepted sweep: the largest floor, and the least p that gives it
  pub sweep_largest : (sweep_answer c family sizes counts low high).number ≡ 0 → Largest c family sizes counts low (suc high) (sweep_answer c family sizes counts low high).floor (sweep_answer c family sizes counts low high).p
  sweep_largest e =
      ⊎_elim
      (λ passed. largest_of _ (answered passed) e)
      (λ more. absurd (omega (arith, refused_as (omega arith))))
      (eq-zero-or-pos (sweep_refusal c family sizes counts low high))

  -- 20: no p of the range passes
  pub sweep_none : (sweep_answer c family sizes counts low high).number ≡ 20 → NoneEligible c family low (suc high)
  sweep_none e =
      ⊎_elim
      (λ passed. none_of _ (answered passed) e)
      (λ more. absurd (sweep_other c family sizes counts low high (sym (refused_as (omega arith)) ∙ e)))
      (eq-zero-or-pos (sweep_refusal c family sizes counts low high))
