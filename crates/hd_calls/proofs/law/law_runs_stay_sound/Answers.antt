use Rattle.hd_calls.proofs.SoundStates.{runs_stay_sound}
use Rattle.hd_calls.proofs.law.law_runs_stay_sound.Goals as goal

pub returns : goal.returns
returns g c = runs_stay_sound
