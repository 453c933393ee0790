-- The log of a run: what each call came to, in order, and the images beside it.
use Rattle.std.specs.Prelude.{ℕ, List}
use Rattle.hd_dbd.specs.Calls.{CallText, Reply}

-- What a call came to: an answer, or a refusal that changed nothing.
pub data Outcome : Type 0 where
  replied : Reply → Outcome
  area : Outcome
  full : Outcome
  memory : Outcome

-- One call of one PCB, with the image before it and what it came to.
pub record Entry (Image : Type 0) : Type 0 where
  pub before : Image
  pub pcb : ℕ
  pub call : CallText
  pub outcome : Outcome

-- The calls of a run in their order, and the image behind the last.
pub record Log (Image : Type 0) : Type 0 where
  pub entries : List (Entry Image)
  pub last : Image
