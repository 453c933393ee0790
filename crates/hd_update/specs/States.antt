-- What a volume and the positions kept beside it stand for, and what one call does to them.
use Rattle.std.specs.Prelude.{◌≡◌, ℕ, ◌-◌, ◌<◌, List, [], ◌∷◌, length, slice_index_or, IsTrue}
use Rattle.hd_dbd.specs.Types.{SegmentType}
use Rattle.hd_dbd.specs.declared.answer.Refused.{Refused}
use Rattle.hd_dbd.specs.declared.answer.Refused.TheVariants.{Area}
use Rattle.hd_dbd.specs.Hierarchy.{Database}
use Rattle.hd_dbd.specs.Segment.{Segment}
use Rattle.hd_dbd.specs.declared.answer.Status.TheVariants.{Blank}
use Rattle.hd_dbd.specs.Positions.{Position}
use Rattle.hd_dbd.specs.Calls.{Reply}
use Rattle.hd_dbd.specs.Forest.{Forest}
use Rattle.hd_calls.specs.Moves.{Change}
use Rattle.hd_calls.specs.Steps.{Effect, answered, wrong_area, State, state_after}
use Rattle.hd_calls.specs.Runs.{Follows, LacksRoom, rows_stored, inserts_root}
use Rattle.hd_volume.specs.Volumes.{VolumeState}
use Rattle.hd_links.specs.Placed.{Placed}
use Rattle.hd_links.specs.Steps.{rows_of}
use Rattle.hd_image.specs.Holding.{HoldsPlaced}
use Rattle.hd_index.specs.Changes.{IsLater}
use Rattle.hd_changes.specs.VolumeImages.{images_of}
use Rattle.hd_position.specs.Kept.{Kept, StandsFor, kept_start}
use Rattle.hd_get.specs.declared.outcome.Outcome.{Outcome}
use Rattle.hd_get.specs.Gets.{IsOutcomeOf}

-- ---- the state of a volume and its PCBs

-- what is kept of each PCB stands for its position, one by one
abbrev pub StandForAll : List SegmentType → Forest Placed → List Kept → List Position → Type 0
StandForAll types f [] [] = Unit {0}
StandForAll types f [] (q ∷ qs) = ⊥
StandForAll types f (k ∷ ks) [] = ⊥
StandForAll types f (k ∷ ks) (q ∷ qs) = StandsFor types f k q × StandForAll types f ks qs

-- The volume, of version 2 or later, holds the rows of a state, placed somehow, and what is kept of the PCBs stands for its positions.
pub record Represents (d : Database) (v : VolumeState) (kept : List Kept) (st : State) : Type 0 where
  pub later : IsLater v
  pub placed : Forest Placed
  pub holds : HoldsPlaced d v placed
  pub rows : rows_of placed ≡ st.rows
  pub positions : StandForAll d.types placed kept st.positions

-- where the store is sound, the volume and what is kept stand for a state
abbrev pub HasState : Database → VolumeState → List Kept → Type 0
HasState d v kept = IsTrue v.is_sound → (st : State) × Represents d v kept st

-- ---- a call

-- A call of the PCB of a number was answered: it had this effect, the outcome is that of its reply, the volume and what is kept stand
-- for the state behind it, and the volume's bytes follow from those before by its change.
pub record IsAnswered (d : Database) (v : VolumeState) (st : State) (number : ℕ) (effect : Effect) (outcome : Outcome) (w : VolumeState) (kept : List Kept) : Type 0 where
  pub reply : Reply
  pub change : Change
  pub own : Position
  pub is : effect ≡ answered reply change own
  pub outcome_is : IsOutcomeOf outcome reply
  pub represents : Represents d w kept (state_after d.types st number effect)
  pub follows : Follows (images_of d) st.rows v.image change (state_after d.types st number effect).rows w.image

-- Whatever state the sound volume and what was kept stood for, the call with this effect in it was answered so.
abbrev pub IsCallDone : Database → VolumeState → List Kept → ℕ → (State → Effect) → Outcome → VolumeState → List Kept → Type 0
IsCallDone d v old number effect outcome w new =
    (st : State) → IsTrue v.is_sound → Represents d v old st → IsAnswered d v st number (effect st) outcome w new

-- what is kept of the PCB of a number, from 1
abbrev pub kept_of : List Kept → ℕ → Kept
kept_of kept number = slice_index_or kept (number - 1) kept_start

-- ---- a refusal

-- A call that was refused left the volume's bytes and what is kept as they were.
pub record IsUndone (v : VolumeState) (old : List Kept) (w : VolumeState) (new : List Kept) : Type 0 where
  pub image : IsTrue w.is_sound → w.image ≡ v.image
  pub kept : new ≡ old

-- Where the refusal is of the area, the call's effect is a wrong area, whatever state the sound volume and what was kept stood for.
abbrev pub IsAreaWrong : Database → VolumeState → List Kept → (State → Effect) → Refused → Type 0
IsAreaWrong d v old effect e = (st : State) → e ≡ Area → IsTrue v.is_sound → Represents d v old st → effect st ≡ wrong_area

-- The effect would be answered with blanks, and the volume's bytes lack room for the rows that it stores.
pub record LacksRoomFor (d : Database) (v : VolumeState) (rows : List Segment) (effect : Effect) : Type 0 where
  pub reply : Reply
  pub change : Change
  pub own : Position
  pub is : effect ≡ answered reply change own
  pub blank : reply.status ≡ Blank
  pub lacks : LacksRoom (images_of d) d.types v.image (rows_stored rows change) (inserts_root change)

-- The effect would be answered with blanks, and its change stores a row: it puts one in, or makes one longer.
pub record StoresSome (rows : List Segment) (effect : Effect) : Type 0 where
  pub reply : Reply
  pub change : Change
  pub own : Position
  pub is : effect ≡ answered reply change own
  pub blank : reply.status ≡ Blank
  pub some : 0 < length (rows_stored rows change)
