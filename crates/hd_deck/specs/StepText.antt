-- One step of a deck: a call of a PCB, and how often it is made.
use Rattle.std.specs.Prelude.{ℕ, ◌<◌, ◌≤◌}
use Rattle.hd_dbd.specs.Calls.{CallText}

pub record StepText : Type 0 where
  pub pcb : ℕ
  pub repeat : ℕ
  pub call : CallText

-- a step of one of so many PCBs, made from 1 to 9,999 times
pub record StepFits (pcbs : ℕ) (s : StepText) : Type 0 where
  pub some_pcb : 0 < s.pcb
  pub known_pcb : s.pcb ≤ pcbs
  pub some_call : 0 < s.repeat
  pub few_calls : s.repeat ≤ 9999
