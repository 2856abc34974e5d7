-- Rows judged in order, document 02, request 1.
use Rattle.std.specs.Prelude.{true, cond, List, [], ◌∷◌, ℕ, suc, eqb}
use Rattle.fields.specs.Parts.{Step, Row}
use Rattle.chains.specs.Judge.{Judgement, plain, judge_list}

-- a row in full, its right side as the capacity; a coefficient may be 0, none is counted, and no row has blocks
unfoldable pub judge_row : List Step → Row → Judgement
judge_row steps r = judge_list 0 r.right_side r.coefficients [] true steps

unfoldable pub in_row : ℕ → Judgement → Judgement
in_row k r = record { number = r.number; row = k; step = r.step; list = r.list }

-- the rows in order, behind k others: the first that is refused, or number 0
unfoldable pub judge_rows : ℕ → List Step → List Row → Judgement
judge_rows k steps [] = plain 0
judge_rows k steps (r ∷ rows) =
    cond (eqb (judge_row steps r).number 0)
    (judge_rows (suc k) steps rows)
    (in_row (suc k) (judge_row steps r))
