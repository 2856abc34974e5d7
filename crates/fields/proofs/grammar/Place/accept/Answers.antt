-- `accept` meets its contract: an unknown tag is refused like one out of place.
use mathlib.Core.Path.{sym, ◌∙◌}
use Rattle.refusals.proofs.Stopped.{stopped}
use Rattle.fields.proofs.Following.{unknown_refused}
use Rattle.fields.proofs.grammar.Place.accept.Goals as goal

pub returns-in_err-tag-clause-refusal : goal.returns-in_err-tag-clause-refusal
returns-in_err-tag-clause-refusal c =
    let unknown = c.in_err-tag.ensures in
    rw (stopped _ c.from_residual.ensures.1, c.in-Some.is) (unknown.1 ∙ sym (unknown_refused _ unknown.0 _ _ _ _))
