use Rattle.hd_serve.proofs.Apart.{one-request}
use Rattle.hd_serve.proofs.law.law_frames_spell_one_request.Goals as goal

pub returns : goal.returns
returns c = one-request
