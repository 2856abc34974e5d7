-- `is_legal` meets its contract: the greatest p, then q, then the family's own line.
use mathlib.Core.Path.{sym, ◌∙◌}
use mathlib.Core.Bool.{and-false}
use mathlib.Core.Logic.{inl}
use Prim.Native.Nat.{◌<◌}
use native.Mathlib.Omega.{arith}
use borrow.Author.Tests.{lt-leb, ne_eqb}
use lib.Dec.{leb}
use Rattle.functions.specs.Words.{limit}
use Rattle.functions.specs.Families.{legal}
use Rattle.functions.proofs.Legal.{legal_within, legal_for_pair, over_greatest}
use Rattle.functions.proofs.judge.is_legal.Goals.{In_default, in_default-via-then-family-lt1, in_default-via-else-family-lt1+else-family-lt6}
use Rattle.functions.proofs.judge.is_legal.Goals as goal

after_five : (c : In_default) → 5 < c.args.family
after_five c =
    elim c.in_default.branch [
      | in_default-via-then-family-lt1 w ↦ absurd (omega arith)
      | in_default-via-else-family-lt1+else-family-lt6 w ↦ omega arith
    ]

pub returns-then-greatest_p-p : goal.returns-then-greatest_p-p
returns-then-greatest_p-p c =
    let a = c.args in
    let pre = c.requires in
    sym (over_greatest a.capacity a.p a.q a.family pre.0 pre.2 pre.3 (rw c.greatest_p.ensures.1 at c.if-greatest_p-p.true))

pub legal_pair-requires : goal.legal_pair-requires
legal_pair-requires c =
    let a = c.args in
    let last = after_five (goal.at.legal_pair-requires c).In_default in
    let greatest = rw (ne_eqb a.family 2 (λ e. omega arith)) at c.greatest_p.ensures.1 in
    omega (arith, greatest)

pub returns-then-q-le-LIMIT : goal.returns-then-q-le-LIMIT
returns-then-q-le-LIMIT c =
    let a = c.args in
    let last = after_five (goal.at.returns-then-q-le-LIMIT c).In_default in
    c.legal_pair.ensures
    ∙ sym (legal_for_pair a.capacity a.p a.q a.family last (omega arith))
    ∙ sym (legal_within a.capacity a.p a.q a.family (omega arith) (omega arith) (inl last))

pub returns-else-q-le-LIMIT : goal.returns-else-q-le-LIMIT
unfolding legal
returns-else-q-le-LIMIT c =
    let a = c.args in
    rw (lt-leb a.q limit (omega (arith, c.if-q-le-LIMIT.false)), and-false (leb a.p limit))
