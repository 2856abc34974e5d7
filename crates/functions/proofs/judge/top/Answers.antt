-- `top` meets its contract. In each arm the family byte is known, so its line of the legal parameters bounds the factors.
use mathlib.Core.Path.{sym}
use Prim.Native.Nat.{◌+◌, ◌*◌, ◌/◌, ◌≤◌}
use native.Mathlib.Nat.{div-le_self}
use native.Mathlib.Omega.{arith}
use borrow.Author.Tests.{ne_eqb}
use Rattle.functions.specs.Words.{limit}
use Rattle.functions.specs.Families.{quotient}
use Rattle.functions.specs.Prepared.{top_of}
use Rattle.functions.proofs.Bounds.{twice_most}
use Rattle.functions.proofs.FirstFour.{vanderbeck_top}
use Rattle.functions.proofs.Remainder.{letchford_lodi_top}
use Rattle.functions.proofs.Legal.{LegalPair, Within, within, legal_3, legal_4, legal_6}
use Rattle.functions.proofs.judge.top.Goals.{In-3, In-4, In-6, Start}
use Rattle.functions.proofs.judge.top.Goals as goal

limits : (c : Start) → Within c.args.capacity c.args.p c.args.q
limits c = within _ _ _ _ c.requires.0 c.requires.1

third : (c : In-3) → (1 ≤ c.args.p) × (2 * c.args.p ≤ c.args.capacity)
third c = legal_3 _ _ _ (rw c.in-3.is at c.requires.1)

fourth : (c : In-4) → (2 ≤ c.args.p) × (c.args.p ≤ c.args.capacity)
fourth c = legal_4 _ _ _ (rw c.in-4.is at c.requires.1)

sixth : (c : In-6) → LegalPair c.args.capacity c.args.p c.args.q
sixth c = legal_6 _ _ _ (rw c.in-6.is at c.requires.1)

sixth_most : (c : In-6) → 2 * ((c.args.q + 1) * (c.args.capacity / c.args.p)) ≤ (limit + 1) * (limit + 1)
sixth_most c =
    let a = c.args in
    let w = within _ _ _ _ c.requires.0 c.requires.1 in
    let pair = sixth c in
    twice_most a.p a.q a.capacity (omega arith) w.capacity_within_limit w.q_within_limit

pub nonzero_div-result : goal.nonzero_div-result
nonzero_div-result c = (third (goal.at.nonzero_div-result c).In-3).0

pub overflow_sub-result : goal.overflow_sub-result
overflow_sub-result c = omega (arith, fourth (goal.at.overflow_sub-result c).In-4)

pub overflow_add-result : goal.overflow_add-result
overflow_add-result c = omega (arith, limits (goal.at.overflow_add-result c).Start)

pub nonzero_div-result-in-6 : goal.nonzero_div-result-in-6
nonzero_div-result-in-6 c = (sixth (goal.at.nonzero_div-result-in-6 c).In-6).least

pub overflow_mul-result : goal.overflow_mul-result
overflow_mul-result c = omega (arith, sixth_most (goal.at.overflow_mul-result c).In-6)

pub returns-in-3 : goal.returns-in-3
unfolding top_of quotient
returns-in-3 c = (rw c.in-3.is, omega (arith, limits (goal.at.returns-in-3 c).Start, div-le_self c.args.capacity c.args.p))

pub returns-in-4 : goal.returns-in-4
unfolding top_of
returns-in-4 c =
    let w = limits (goal.at.returns-in-4 c).Start in
    (rw c.in-4.is (omega (arith, vanderbeck_top c.args.capacity c.args.p w.capacity_positive (omega (arith, fourth (goal.at.returns-in-4 c).In-4)))), omega (arith, fourth (goal.at.returns-in-4 c).In-4))

pub returns-in-6 : goal.returns-in-6
unfolding top_of
returns-in-6 c = (rw c.in-6.is (sym (letchford_lodi_top _ _ _ (sixth (goal.at.returns-in-6 c).In-6).least)), sixth_most (goal.at.returns-in-6 c).In-6)

pub returns-in_default : goal.returns-in_default
unfolding top_of
returns-in_default c =
    let family = c.args.family in
    (rw (ne_eqb family 3 (λ e. omega arith), ne_eqb family 4 (λ e. omega arith), ne_eqb family 6 (λ e. omega arith)), omega arith)
