-- `within_limit` meets its contract: each entry passes.
use mathlib.Core.Path.{◌≡◌, refl, ap, ◌∙◌}
use mathlib.Core.Bool.{◌&&◌, Bool}
use mathlib.Core.List.{List, [], ◌∷◌}
use Prim.Native.Nat.{ℕ}
use borrow.Author.Tests.{tests}
use lib.Dec.{leb}
use Rattle.std.proofs.Common.{rules}
use Rattle.std.proofs.lemmas.Iterator.{YieldsList-from_slice}
use Rattle.std.proofs.lemmas.Iterator.Search.{all_from_yields_List}
use Rattle.std.specs.List.{list_all}
use Rattle.functions.specs.Words.{limit}
use Rattle.tables.specs.Check.{within_limit}
use Rattle.tables.proofs.form.within_limit.Goals as goal

all_within : (t : List ℕ) → list_all (λ x. leb x limit) t ≡ within_limit t
unfolding within_limit
all_within [] = refl
all_within (x ∷ xs) = ap (λ (rest : Bool). leb x limit && rest) (all_within xs)

pub returns : goal.returns
returns c =
    all_from_yields_List (λ x. leb x limit) _ _ _ c.all.ensures.ran (YieldsList-from_slice c.args.table.now cc) (λ x b q k. search (rules, tests))
    ∙ all_within c.args.table.now
