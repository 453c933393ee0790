use Rattle.hd_position.proofs.Rewriting.{unheld_stands}
use Rattle.hd_position.proofs.law.law_ended_holds_hold_nothing.Goals as goal

pub returns : goal.returns
returns c = unheld_stands
