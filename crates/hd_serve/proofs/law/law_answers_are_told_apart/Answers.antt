use Rattle.hd_serve.proofs.AnswersApart.{answers-apart}
use Rattle.hd_serve.proofs.law.law_answers_are_told_apart.Goals as goal

pub returns : goal.returns
returns c = answers-apart
