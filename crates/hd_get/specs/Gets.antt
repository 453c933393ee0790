-- A get over a volume, and what it comes to.
use Rattle.std.specs.Prelude.{◌≡◌, IsTrue, ℕ, List, ◌++◌, ◌∷◌, [], Bool, true, false, filter_map, cond, Some, None}
use Rattle.hd_dbd.specs.Types.{SegmentType, View}
use Rattle.hd_dbd.specs.Hierarchy.{Database, level_of}
use Rattle.hd_dbd.specs.Segment.{Segment}
use Rattle.hd_dbd.specs.Positions.{Position}
use Rattle.hd_dbd.specs.Calls.{Reply}
use Rattle.hd_dbd.specs.Forest.{Forest}
use Rattle.hd_calls.specs.declared.call.GetKind.{GetKind}
use Rattle.hd_calls.specs.Ssas.{Ssa, above_target}
use Rattle.hd_calls.specs.Gets.{get_step}
use Rattle.hd_calls.specs.NoLostUpdate.{is_done}
use Rattle.hd_volume.specs.Volumes.{VolumeState}
use Rattle.hd_links.specs.Placed.{Placed}
use Rattle.hd_links.specs.Steps.{rows_of}
use Rattle.hd_image.specs.Holding.{HoldsPlaced}
use Rattle.hd_index.specs.Changes.{IsLater}
use Rattle.hd_position.specs.Kept.{Kept, StandsFor}
use Rattle.hd_get.specs.declared.outcome.Outcome.{Outcome}
use Rattle.hd_get.specs.declared.outcome.Outcome.TheVariants.{Found, Missing}

-- Whose get it is, where it looks, whether it holds what it returns, and its arguments.
pub record GetCall : Type 0 where
  pub pcb : View
  pub kind : GetKind
  pub hold : Bool
  pub ssas : List Ssa

-- ---- what it comes to

-- the outcome has the reply's status, and says whether that tells of a row
abbrev pub IsOutcomeOf : Outcome → Reply → Type 0
IsOutcomeOf (Found status) reply = (reply.status ≡ status) × (is_done status ≡ true)
IsOutcomeOf (Missing status) reply = (reply.status ≡ status) × (is_done status ≡ false)

-- what a get answers over rows, and where it leaves the PCB
abbrev pub answer_to : GetCall → List SegmentType → List Segment → Position → Reply × Position
answer_to c types rows q = get_step (record { types = types; pcb = c.pcb }) rows q c.kind c.hold c.ssas

-- The sound volume, of version 2 or later, holds the forest, and what is kept of a PCB stands for the position in it.
pub record IsPositionIn (d : Database) (v : VolumeState) (f : Forest Placed) (k : Kept) (q : Position) : Type 0 where
  pub sound : IsTrue v.is_sound
  pub later : IsLater v
  pub holds : HoldsPlaced d v f
  pub stands : StandsFor d.types f k q

-- where the store is sound, the volume, of version 2 or later, holds a forest in which what is kept of a PCB stands for a position
abbrev pub HasPosition : Database → VolumeState → Kept → Type 0
HasPosition d v k = IsTrue v.is_sound → (f : Forest Placed) × (q : Position) × IsPositionIn d v f k q

-- Wherever what was kept stood for a position, the get came to its answer there, and what is kept now stands for where the get leaves
-- the PCB.
abbrev pub IsGot : Database → VolumeState → GetCall → Kept → Outcome → Kept → Type 0
IsGot d v c old outcome new =
    (f : Forest Placed) (q : Position) → IsPositionIn d v f old q
    → IsOutcomeOf outcome (answer_to c d.types (rows_of f) q).0 × StandsFor d.types f new (answer_to c d.types (rows_of f) q).1

-- ---- the rows that it returns

-- the levels of the rows that a get with arguments returns from the path to a row: those of the arguments with D, and the row's own
abbrev pub levels_taken : List SegmentType → List Ssa → ℕ → List ℕ
levels_taken types ssas level = filter_map (λ a. cond a.commands.path (Some (level_of types a.code)) None) (above_target ssas) ++ level ∷ []
