use Rattle.hd_session.proofs.Turns.{sessions_answer}
use Rattle.hd_session.proofs.law.law_sessions_answer_their_logs.Goals as goal

pub returns : goal.returns
returns c = sessions_answer
