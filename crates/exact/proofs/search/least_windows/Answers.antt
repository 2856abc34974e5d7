-- `least_windows` meets its contract: no copy is over the capacity, so the sum fits.
use mathlib.Core.Path.{◌≡◌, ap, sym, ◌∙◌}
use mathlib.Core.List.{List, map-id}
use Prim.Native.Nat.{ℕ, ◌*◌, ◌≤◌}
use native.Mathlib.Nat.{mul-le-mul}
use native.Mathlib.Omega.{arith}
use Rattle.std.proofs.lemmas.Iterator.{YieldsList-from_slice}
use Rattle.std.proofs.lemmas.Iterator.Consumers.{sum_from_yields_List, fits_from_yields_list}
use Rattle.functions.specs.Words.{limit, total}
use Rattle.functions.specs.Families.{◌up◌}
use Rattle.functions.proofs.Summed.{total_most}
use Rattle.exact.specs.Exact.{most_copies}
use Rattle.exact.specs.Expand.{Measurable}
use Rattle.exact.proofs.Expanding.{total_is_sum}
use Rattle.exact.proofs.search.least_windows.Goals.{After-sum-sum}
use Rattle.exact.proofs.search.least_windows.Goals as goal

sum_most : (c : ℕ) (copies : List ℕ) → Measurable c copies → total copies ≤ most_copies * limit
sum_most c copies given =
    omega (arith, rw map-id at (total_most (λ x. x) c copies given.within_sizes), mul-le-mul given.few given.capacity_within_limit)

pub sum-sum-requires-clause-fits : goal.sum-sum-requires-clause-fits
sum-sum-requires-clause-fits c =
    let copies = c.args.copies.now in
    fits_from_yields_list _ _ (YieldsList-from_slice copies cc) (omega (arith, sum_most _ copies c.requires, total_is_sum copies))

sum_is : (c : After-sum-sum) → c.sum-sum.result ≡ total c.args.copies.now
sum_is c =
    let copies = c.args.copies.now in
    sum_from_yields_List _ _ c.sum-sum.ensures.ran (YieldsList-from_slice copies cc) ∙ sym (total_is_sum copies)

pub round_up-requires : goal.round_up-requires
round_up-requires c =
    let pre = c.requires in
    let sum = sum_is (goal.at.round_up-requires c).After-sum-sum in
    (pre.capacity_positive, omega (arith, sum, sum_most _ _ pre, pre.capacity_within_limit))

pub returns : goal.returns
returns c = c.round_up.ensures ∙ ap (λ (sum : ℕ). sum up c.args.capacity) (sum_is (goal.at.returns c).After-sum-sum)
