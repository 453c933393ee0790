use Rattle.hd_calls.proofs.SoundStates.{calls_keep_sound}
use Rattle.hd_calls.proofs.law.law_calls_keep_states_sound.Goals as goal

pub returns : goal.returns
returns c = calls_keep_sound
