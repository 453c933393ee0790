-- What a check answers.
use Rattle.std.specs.Prelude.{◌≡◌, ℕ, length, Result, Ok, Err}
use Rattle.hd_dbd.specs.declared.answer.Refused.{Refused}
use Rattle.hd_dbd.specs.declared.answer.Refused.TheVariants as refused
use Rattle.hd_dbd.specs.Hierarchy.{Database}
use Rattle.hd_dbd.specs.Segment.{Segment}
use Rattle.hd_dbd.specs.Forest.{Forest}
use Rattle.hd_volume.specs.Headers.{header_of}
use Rattle.hd_volume.specs.Volumes.{VolumeState}
use Rattle.hd_links.specs.Placed.{Placed, forest_of}
use Rattle.hd_links.specs.Steps.{rows_of}
use Rattle.hd_links.specs.LastRows.{roots_of}
use Rattle.hd_image.specs.Holding.{HoldsPlaced, HoldsForest}
use Rattle.hd_image.specs.Standing.{IsLeastFault}
use Rattle.hd_check_blocks.specs.declared.fault.Fault.{Fault}
use Rattle.hd_check.specs.declared.checks.Passed.{Passed}
use Rattle.hd_check.specs.declared.checks.CheckFault.{CheckFault}
use Rattle.hd_check.specs.declared.checks.CheckFault.TheVariants as check

-- The volume holds a forest and no other, of so many segments and so many roots, in so many blocks.
pub record IsPassed (d : Database) (v : VolumeState) (passed : Passed) : Type 0 where
  pub placed : Forest Placed
  pub holds : HoldsPlaced d v placed
  pub one : (g : Forest Segment) → HoldsForest d v g → g ≡ forest_of placed
  pub blocks : passed.blocks ≡ (header_of v.image).count
  pub segments : passed.segments ≡ length (rows_of placed)
  pub roots : passed.roots ≡ length (roots_of placed)

-- The fault is the least that stands in the volume, and the volume holds no forest.
pub record IsFaulty (d : Database) (v : VolumeState) (fault : Fault) : Type 0 where
  pub least : IsLeastFault d v fault.line fault.address fault.other
  pub none : (g : Forest Placed) → HoldsPlaced d v g → ⊥

-- What a fault of a check says of the volume; want of memory and a failed access say nothing.
abbrev pub IsFaultOf : Database → VolumeState → CheckFault → Type 0
IsFaultOf d v (check.Fault fault) = IsFaulty d v fault
IsFaultOf d v check.Memory = Unit {0}
IsFaultOf d v check.Device = Unit {0}

-- what a check's result is, as far as the store goes: only Device says that an access failed
abbrev pub as_call : {T : Type 0} → Result T CheckFault → Result T Refused
as_call (Ok x) = Ok x
as_call (Err (check.Fault fault)) = Err refused.Memory
as_call (Err check.Memory) = Err refused.Memory
as_call (Err check.Device) = Err refused.Device
