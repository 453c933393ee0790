use Rattle.hd_session.proofs.ForetoldRuns.{foretold_come_true}
use Rattle.hd_session.proofs.law.law_foretold_answers_come_true.Goals as goal

pub returns : goal.returns
returns c = foretold_come_true
