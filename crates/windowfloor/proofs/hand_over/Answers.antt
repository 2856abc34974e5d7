-- `hand_over` meets its contract: the job that was read is the start of the input.
use Rattle.std.proofs.Common.{◌≡◌, ℕ, suc, List, length, take, Option, None, Some, IfSome, Result, Ok, Err, OnOk, subst, rules}
use Rattle.std.proofs.lemmas.Result.{on_ok_weaker}
use Rattle.std.specs.Result.{is_ok}
use Rattle.std.specs.Io.KnownBytes.{Appends}
use Rattle.fields.specs.Grammar.{most_bytes}
use Rattle.report.specs.Text.{hand_over_text}
use Rattle.windowfloor.proofs.hand_over.Goals as goal

of_the_start : (input old new : Option (List ℕ)) (job : List ℕ) (room most : ℕ) → room ≡ most → IfSome input (λ xs. job ≡ take room xs)
    → Appends old new (hand_over_text job) → IfSome input (λ xs. Appends old new (hand_over_text (take most xs)))
of_the_start None old new job room most all same printed = tt
of_the_start (Some xs) old new job room most all same printed =
    let start : job ≡ take most xs = subst (λ m. job ≡ take m xs) all same in
    subst (λ ys. Appends old new (hand_over_text ys)) start printed

-- where an error alone is told in another way, what holds of an `Ok` stays
ok_too : {T E D : Type 0} (P : Type 0) (before : Result T E) (after : Result T D) → is_ok after ≡ is_ok before → OnOk before P → OnOk after P
ok_too P (Ok x) (Ok y) same holds = holds
ok_too P before (Err e) same holds = tt
ok_too P (Err e) (Ok y) same holds = search rules

pub returns-clause-printed : goal.returns-clause-printed
returns-clause-printed g c =
    let all : length c.read_full.new.buffer ≡ suc most_bytes = search rules in
    let first : IfSome (g.R.Read.remaining c.args.reader.now) (λ xs. take c.in_ok-n.n c.read_full.new.buffer ≡ take (length c.read_full.new.buffer) xs) = search rules in
    ok_too _ c.print_answer.result c.map_err-2.result c.map_err-2.ensures.variant (on_ok_weaker c.print_answer.result (of_the_start _ _ _ _ _ _ all first) c.print_answer.ensures)
