-- Steps, and lists of sizes before them, judged in order, document 01, "Operations and what they refuse", Job.
use Rattle.std.specs.Prelude.{Bool, cond, ◌≡◌, Option, None, Some, Result, Ok, Err, List, [], ◌∷◌, ◌++◌, ℕ, suc, ◌-◌, ◌≤◌, eqb, length, get_or, take, drop}
use Rattle.refusals.specs.Number.{number_of}
use Rattle.tables.specs.Table.{table_capacity, counterexample}
use Rattle.tables.specs.Check.{most_entries}
use Rattle.tables.specs.Promise.{Overshoots}
use Rattle.fields.specs.Parts.{Step, on_family, on_table}
use Rattle.chains.specs.Chain.{step_scale, step_refusal, chain_scale}
use Rattle.chains.specs.Sizes.{list_refusal}
use Rattle.chains.specs.declared.Refused.{Refused}

-- the list that goes with a refusal's number: at 11 the table's counterexample
unfoldable pub step_list : ℕ → Step → List ℕ
step_list number (on_family family p q) = []
step_list number (on_table t) = cond (eqb number 11) (counterexample t) []

-- the place of a row or of a step that is refused, counted from 1, or 0
abbrev pub place_of : Option ℕ → ℕ
place_of None = 0
place_of (Some place) = place

-- what is told of a step: its scale where it is accepted, and else its number and the length of its list
abbrev pub StepTold : ℕ → Step → Result ℕ Refused → Type 0
StepTold c s (Ok scale) = (step_refusal c s ≡ 0) × (scale ≡ step_scale c s)
StepTold c s (Err refused) =
    record {
      number_is : number_of refused.refusal ≡ step_refusal c s;
      row_is : place_of refused.row ≡ 0;
      length_is : refused.length ≡ length (step_list (step_refusal c s) s);
    }

-- the step judged, with the list buffer afterwards
pub record StepJudged (c : ℕ) (s : Step) (list : List ℕ) (outcome : Result ℕ Refused) (list' : List ℕ) : Type 0 where
  pub told : StepTold c s outcome
  pub list_is : list' ≡ step_list (step_refusal c s) s ++ drop (length (step_list (step_refusal c s) s)) list

-- how a job is judged: the number that refuses it or 0, the row's and the step's place where one is refused, and its list
pub record Judgement : Type 0 where
  pub number : ℕ
  pub row : ℕ
  pub step : ℕ
  pub list : List ℕ

-- a refusal outside of rows and steps; number 0 is none
unfoldable pub plain : ℕ → Judgement
plain number = record { number = number; row = 0; step = 0; list = [] }

-- the steps in order, behind k others: the first that is refused, or number 0
unfoldable pub judge_chain : ℕ → ℕ → List Step → Judgement
judge_chain c k [] = plain 0
judge_chain c k (s ∷ steps) =
    cond (eqb (step_refusal c s) 0)
    (judge_chain (step_scale c s) (suc k) steps)
    (record { number = step_refusal c s; row = 0; step = suc k; list = step_list (step_refusal c s) s })

-- a list of sizes from `least` on with their counts at a capacity, its blocks right or not: 1, 17, 22, 23, and then the steps in order
unfoldable pub judge_list : ℕ → ℕ → List ℕ → List ℕ → Bool → List Step → Judgement
judge_list least c sizes counts divided steps =
    cond (eqb (list_refusal least c sizes counts divided) 0)
    (judge_chain c 0 steps)
    (plain (list_refusal least c sizes counts divided))

-- the entries of the table at a place of the chain, counted from 1
unfoldable pub step_entries : Step → List ℕ
step_entries (on_family family p q) = []
step_entries (on_table t) = t

unfoldable pub entries_at : List Step → ℕ → List ℕ
entries_at steps place = step_entries (get_or steps (place - 1) (on_table []))

-- 11 at a place of a chain from c on: the table is of the capacity that this step gets, and the list overshoots it
pub record StepOvershoots (c : ℕ) (steps : List Step) (place : ℕ) (list : List ℕ) : Type 0 where
  pub of_present_capacity : table_capacity (entries_at steps place) ≡ chain_scale c (take (place - 1) steps)
  pub overshoots : Overshoots (entries_at steps place) list

-- what is told of a judgement: nothing where its number is 0, and else all but the list, of which the length is told
pub record RefusedAs (r : Judgement) (refused : Refused) : Type 0 where
  pub number_is : number_of refused.refusal ≡ r.number
  pub row_is : place_of refused.row ≡ r.row
  pub step_is : place_of refused.step ≡ r.step
  pub length_is : refused.length ≡ length r.list

abbrev pub Told : {A : Type 0} → Judgement → Result A Refused → Type 0
Told r (Ok value) = r.number ≡ 0
Told r (Err refused) = RefusedAs r refused

-- the list buffer with the list of a judgement
unfoldable pub list_by : Judgement → List ℕ → List ℕ
list_by r list = r.list ++ drop (length r.list) list

-- the room that a check of any table asks for
pub record CheckRoom (working list : List ℕ) : Type 0 where
  pub for_bests : most_entries ≤ length working
  pub for_list : most_entries - 1 ≤ length list

-- judged as `r`, with the list buffer afterwards
pub record Judged {A : Type 0} (r : Judgement) (list : List ℕ) (outcome : Result A Refused) (list' : List ℕ) : Type 0 where
  pub told : Told r outcome
  pub list_is : list' ≡ list_by r list
