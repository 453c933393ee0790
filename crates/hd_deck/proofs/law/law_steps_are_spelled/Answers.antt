use Rattle.hd_deck.proofs.SpelledSteps.{steps-are-spelled}
use Rattle.hd_deck.proofs.law.law_steps_are_spelled.Goals as goal

pub returns : goal.returns
returns c = steps-are-spelled
