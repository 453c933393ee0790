use Rattle.hd_serve.proofs.ToldApart.{told-answers-apart}
use Rattle.hd_serve.proofs.law.law_told_answers_are_told_apart.Goals as goal

pub returns : goal.returns
returns c = told-answers-apart
