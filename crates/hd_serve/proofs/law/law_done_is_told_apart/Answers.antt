use Rattle.hd_serve.proofs.AnswersApart.{done-apart}
use Rattle.hd_serve.proofs.law.law_done_is_told_apart.Goals as goal

pub returns : goal.returns
returns c = done-apart
