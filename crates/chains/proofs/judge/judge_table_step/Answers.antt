-- `judge_table_step` meets its contract: the capacity, and then the entries.
use mathlib.Core.Path.{refl, ◌∙◌}
use native.Mathlib.Omega.{arith}
use Rattle.chains.proofs.Judging.{capacity_of, scale_of, another_capacity, checked_before}
use Rattle.chains.proofs.judge.judge_table_step.Goals as goal

pub returns-then-top-capacity-clause-judged : goal.returns-then-top-capacity-clause-judged
returns-then-top-capacity-clause-judged c = rw c.from.ensures (another_capacity _ _ _ (λ same. omega (arith, same, capacity_of _ c.requires.0.whole, c.if-top-capacity.true)))

pub returns-then-checked-clause-judged : goal.returns-then-checked-clause-judged
returns-then-checked-clause-judged c = checked_before _ _ _ (capacity_of _ c.requires.0.whole ∙ c.if-top-capacity.false) (c.requires.1 c.if-checked.true) _ (c.word_at.ensures.0 ∙ scale_of _ c.requires.0.whole (omega (arith, c.requires.0.least)) _ refl)

pub returns-clause-judged : goal.returns-clause-judged
returns-clause-judged c = rw (capacity_of _ c.requires.0.whole ∙ c.if-top-capacity.false) at c.judge_entries.ensures

pub returns-clause-untouched : goal.returns-clause-untouched
returns-clause-untouched c = λ other. absurd (other (capacity_of _ c.requires.0.whole ∙ c.if-top-capacity.false))
