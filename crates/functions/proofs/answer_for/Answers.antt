-- `answer_for` meets its contract: what is refused is told without an image.
use Rattle.std.proofs.Common.{rules}
use Rattle.functions.proofs.Answers.{image_told}
use Rattle.functions.proofs.answer_for.Goals as goal

pub returns : goal.returns
returns c = image_told _ _ _ _ _ _ _ c.accepted_image.ensures.number c.accepted_image.ensures.answer (search rules)
