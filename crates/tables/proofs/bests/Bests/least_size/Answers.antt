-- `least_size` meets its contract: the first size that the search finds, or the whole capacity.
use mathlib.Core.Path.{◌∙◌}
use Prim.Native.Nat.{◌-◌}
use native.Mathlib.Omega.{arith}
use Rattle.std.proofs.Common.{rules, tests}
use Rattle.std.proofs.lemmas.Iterator.{first_from_Range, serves_from_Range}
use Rattle.tables.proofs.Known.{known_small, entry_sum}
use Rattle.tables.proofs.Walk.{Reaches, least_first}
use Rattle.tables.proofs.bests.Bests.least_size.Goals as goal

pub find-requires-clause-callable : goal.find-requires-clause-callable
find-requires-clause-callable c =
    let known = c.args.self.known in
    serves_from_Range (λ x q k. search (rules, tests))
    (λ x low high. grind (arith, tests, low, high, c.requires.known, known.in_table, c.ranges.self, known_small _ _ known (c.args.c - x)))

pub returns : goal.returns
returns c =
    let t = c.args.self.table.now in
    let known = c.args.self.known in
    let whole = known.holds c.args.c c.requires.known in
    c.unwrap_or.ensures
    ∙ least_first t c.args.c c.find.result c.requires.positive
    (first_from_Range _ _ _ _ (Reaches t c.args.c) (λ y. Reaches t c.args.c y → ⊥) c.find.ensures.ran
    (λ x q k. grind (arith, tests, whole, entry_sum _ _ known c.args.c x c.requires.known))
    (λ x q k. (search rules, grind (arith, tests, whole, entry_sum _ _ known c.args.c x c.requires.known))))
