-- What a call of a session comes to, as a log has it.
use Rattle.std.specs.Prelude.{ℕ, List, IsTrue, Option, Some, None, Result, Ok, Err, IfSome}
use Rattle.hd_dbd.specs.Types.{View}
use Rattle.hd_dbd.specs.declared.answer.Refused.{Refused}
use Rattle.hd_dbd.specs.declared.answer.Refused.TheVariants as refused
use Rattle.hd_dbd.specs.Hierarchy.{Database}
use Rattle.hd_dbd.specs.Calls.{CallText}
use Rattle.hd_dbd.specs.Logs.{Outcome, replied, area, full, memory}
use Rattle.hd_calls.specs.Steps.{State}
use Rattle.hd_calls.specs.Runs.{effect_by, MayComeTo, ImageFollows, state_after_outcome}
use Rattle.hd_volume.specs.Volumes.{VolumeState}
use Rattle.hd_changes.specs.VolumeImages.{images_of}
use Rattle.hd_position.specs.Kept.{Kept}
use Rattle.hd_update.specs.States.{Represents}
use Rattle.hd_session.specs.declared.call_and_answer.Answer.{Answer}
use Rattle.hd_session.specs.Buffer.{Buffer}
use Rattle.hd_session.specs.Replies.{reply_of}
use Rattle.hd_session.specs.Opening.{SessionState}

-- what a call came to: its answer, with the bytes beside it, or a refusal that changes nothing; none where an access failed, then or before
abbrev pub outcome_of : Result Answer Refused → Buffer → Option Outcome
outcome_of (Ok a) b = Some (replied (reply_of a b))
outcome_of (Err refused.Memory) b = Some memory
outcome_of (Err refused.Full) b = Some full
outcome_of (Err refused.Device) b = None
outcome_of (Err refused.Broken) b = None
outcome_of (Err refused.Area) b = Some area

-- A call by the PCB of a number came to an outcome that it may come to in a state: the volume and what is kept stand for the state behind
-- it, and the volume's bytes follow from those before as a log asks.
pub record IsLogged (d : Database) (pcbs : List View) (v : VolumeState) (st : State) (number : ℕ) (call : CallText) (outcome : Outcome) (w : VolumeState) (kept : List Kept) : Type 0 where
  pub may : MayComeTo (effect_by d.types pcbs st number call) outcome
  pub represents : Represents d w kept (state_after_outcome d.types st number (effect_by d.types pcbs st number call) outcome)
  pub follows : ImageFollows (images_of d) d.types st number (effect_by d.types pcbs st number call) outcome v.image w.image

-- whatever state the session stood for, the call came in it to this, unless an access failed
abbrev pub IsCallLogged : SessionState → ℕ → CallText → Result Answer Refused → Buffer → SessionState → Type 0
IsCallLogged s number call result b t =
    (st : State) → IsTrue s.volume.is_sound → Represents s.database s.volume s.kept st
    → IfSome (outcome_of result b) (λ o. IsLogged s.database s.pcbs s.volume st number call o t.volume t.kept)
