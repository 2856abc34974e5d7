-- A shortest list that shows that a table is not dual-feasible. t is a table.
use Rattle.std.specs.Prelude.{◌≡◌, ◌==◌, if◌then◌else◌, List, ◌↔◌, ℕ, ◌≤◌, ◌<◌, min, length, slice_index}
use Rattle.tables.specs.Table.{table_capacity}
use Rattle.tables.specs.Check.{table_refusal, at_front}
use Rattle.tables.specs.Promise.{Feasible, Overshoots}
use Rattle.shortest.specs.declared.ShortestAnswer.{ShortestAnswer}

-- of all lists that overshoot, one with the fewest sizes
pub record Shortest (t xs : List ℕ) : Type 0 where
  pub overshoots : Overshoots t xs
  pub fewest : (others : List ℕ) → Overshoots t others → length xs ≤ length others

-- what a number of the table check is here: a table that it accepts is refused with 25, and one that it refuses with 11 is accepted
abbrev pub number_by : ℕ → ℕ
number_by checked = if checked == 0 then 25 else if checked == 11 then 0 else checked

-- the number that refuses, by what the table check with the shorter of the two working buffers tells; or 0
unfoldable pub shortest_refusal : List ℕ → ℕ → ℕ → ℕ → ℕ
shortest_refusal t working second list = number_by (table_refusal t (min working second) list)

-- what a refusal answers
abbrev pub refused_shortest : ℕ → ShortestAnswer
refused_shortest number = record { number = number; length = 0 }

-- an accepted table: a shortest list stands in the first places of the list buffer, whose other places stay, and its length is given
pub record ShortestAccepted (t list : List ℕ) (answer : ShortestAnswer) (list' : List ℕ) : Type 0 where
  pub sizes : List ℕ
  pub shortest : Shortest t sizes
  pub positive : (i : ℕ) → i < length sizes → 1 ≤ slice_index sizes i
  pub answer_is : answer ≡ record { number = 0; length = length sizes }
  pub list_is : list' ≡ at_front sizes list

-- a refused table: the list buffer stays, and the working buffers too unless 25 refuses
pub record ShortestRefused (number : ℕ) (working second list : List ℕ) (answer : ShortestAnswer) (working' second' list' : List ℕ) : Type 0 where
  pub answer_is : answer ≡ refused_shortest number
  pub list_stays : list' ≡ list
  pub working_stays : (number ≡ 25 → ⊥) → working' ≡ working
  pub second_stays : (number ≡ 25 → ⊥) → second' ≡ second

-- with buffers that are long enough 25 refuses exactly the tables that are dual-feasible
abbrev pub FeasibleExactly : List ℕ → ℕ → ℕ → ℕ → ℕ → Type 0
FeasibleExactly t working second list number =
    length t ≤ working → length t ≤ second → table_capacity t ≤ list → (number ≡ 25) ↔ Feasible t

-- the whole operation
pub record ShortestAnswered (t working second list : List ℕ) (answer : ShortestAnswer) (working' second' list' : List ℕ) : Type 0 where
  pub accepted : shortest_refusal t (length working) (length second) (length list) ≡ 0 → ShortestAccepted t list answer list'
  pub refused : (shortest_refusal t (length working) (length second) (length list) ≡ 0 → ⊥) → ShortestRefused (shortest_refusal t (length working) (length second) (length list)) working second list answer working' second' list'
  pub exactly : FeasibleExactly t (length working) (length second) (length list) answer.number
  pub working_long : length working' ≡ length working
  pub second_long : length second' ≡ length second
