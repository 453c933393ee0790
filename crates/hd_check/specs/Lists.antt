-- What a check of all faults lists.
use Rattle.std.specs.Prelude.{◌≡◌, ◌⊎◌, ◌<◌, ◌≤◌, ℕ, List, [], ◌∷◌}
use Rattle.hd_bytes.specs.Blocks.{HasBlock}
use Rattle.hd_dbd.specs.Hierarchy.{Database}
use Rattle.hd_dbd.specs.Forest.{Forest}
use Rattle.hd_volume.specs.Volumes.{VolumeState}
use Rattle.hd_links.specs.Placed.{Placed}
use Rattle.hd_image.specs.Holding.{HoldsPlaced}
use Rattle.hd_image.specs.Standing.{Stands, phase_of}
use Rattle.hd_image.specs.declared.line.Line.{Line}
use Rattle.hd_check_blocks.specs.declared.fault.Fault.{Fault}
use Rattle.hd_check_blocks.specs.Listing.{AllStand, FaultsAscend, AreStanding}
use Rattle.hd_check.specs.Joining.{NoneBefore, IsFirstFault}

-- there is a first fault, and the fact holds of it
abbrev pub BeginsWith : (Fault → Type 0) → List Fault → Type 0
BeginsWith P [] = ⊥
BeginsWith P (f ∷ fs) = P f

-- These are faults of one phase in their order, the least of all first. They are all of it, but where the volume has no first block.
pub record AreFirstFaults (d : Database) (v : VolumeState) (faults : List Fault) : Type 0 where
  pub phase : ℕ
  pub before : NoneBefore d v phase
  pub least : BeginsWith (λ f. IsFirstFault d v f) faults
  pub stand : AllStand d v phase faults
  pub ascend : FaultsAscend faults
  pub all : HasBlock v.size v.image 0 → AreStanding d v phase faults

-- No fault is listed, and the volume holds a forest; or the first faults are listed, and it holds none.
abbrev pub AreFaultsOf : Database → VolumeState → List Fault → Type 0
AreFaultsOf d v [] = (forest : Forest Placed) × HoldsPlaced d v forest
AreFaultsOf d v (f ∷ fs) = AreFirstFaults d v (f ∷ fs) × ((forest : Forest Placed) → HoldsPlaced d v forest → ⊥)

-- no fault of a phase of the index (8 on) that is before this one stands
abbrev pub NoneOfIndexBefore : Database → VolumeState → ℕ → Type 0
NoneOfIndexBefore d v phase = (line : Line) (a o : ℕ) → 8 ≤ phase_of line → phase_of line < phase → Stands d v line a o → ⊥

-- The faults are all of the first phase of the index (8 to 13) that has any; none is listed where none stands.
abbrev pub AreIndexFaults : Database → VolumeState → List Fault → Type 0
AreIndexFaults d v [] = NoneOfIndexBefore d v 14
AreIndexFaults d v (f ∷ fs) = (8 ≤ phase_of f.line) × NoneOfIndexBefore d v (phase_of f.line) × AreStanding d v (phase_of f.line) (f ∷ fs)

-- Behind first faults of pointers (3 to 7) those of the index are listed, which is judged by itself; behind any others, or where there are none, no fault is.
abbrev pub AreFaultsBehind : Database → VolumeState → List Fault → List Fault → Type 0
AreFaultsBehind d v [] behind = behind ≡ []
AreFaultsBehind d v (f ∷ fs) behind =
    ((2 < phase_of f.line) → (phase_of f.line < 8) → AreIndexFaults d v behind)
    × ((phase_of f.line < 3) ⊎ (7 < phase_of f.line) → behind ≡ [])
