-- The faults of a phase: all that stand, in their order.
use Rattle.std.specs.Prelude.{◌≡◌, ◌⊎◌, ℕ, List, [], ◌∷◌, ◌==◌, Bool, cond, Option, Some, None}
use Rattle.hd_dbd.specs.Hierarchy.{Database}
use Rattle.hd_volume.specs.Volumes.{VolumeState}
use Rattle.hd_image.specs.Standing.{Stands, phase_of, ComesBefore}
use Rattle.hd_image.specs.declared.line.Line.{Line}
use Rattle.hd_check_blocks.specs.declared.fault.Fault.{Fault}

-- one of the faults is of this line at this address
abbrev pub IsListed : Line → ℕ → List Fault → Type 0
IsListed line address [] = ⊥
IsListed line address (f ∷ fs) = ((f.line ≡ line) × (f.address ≡ address)) ⊎ IsListed line address fs

-- each of the faults is of the phase, and stands
abbrev pub AllStand : Database → VolumeState → ℕ → List Fault → Type 0
AllStand d v phase [] = Unit {0}
AllStand d v phase (f ∷ fs) = (phase_of f.line ≡ phase) × Stands d v f.line f.address f.other × AllStand d v phase fs

-- a fault comes before each of these
abbrev pub ComesBeforeAll : Fault → List Fault → Type 0
ComesBeforeAll f [] = Unit {0}
ComesBeforeAll f (g ∷ gs) = ComesBefore f.line f.address g.line g.address × ComesBeforeAll f gs

-- each of the faults comes before those behind it
abbrev pub FaultsAscend : List Fault → Type 0
FaultsAscend [] = Unit {0}
FaultsAscend (f ∷ fs) = ComesBeforeAll f fs × FaultsAscend fs

-- The faults are all that stand of a phase, in their order.
pub record AreStanding (d : Database) (v : VolumeState) (phase : ℕ) (faults : List Fault) : Type 0 where
  pub stand : AllStand d v phase faults
  pub all : (line : Line) (a o : ℕ) → phase_of line ≡ phase → Stands d v line a o → IsListed line a faults
  pub ascend : FaultsAscend faults

-- the fault that is found, if one is
abbrev pub faults_of : Option Fault → List Fault
faults_of None = []
faults_of (Some f) = f ∷ []

-- the fault of a line at an address that names something, none where that is 0
abbrev pub fault_if : Line → ℕ → ℕ → Option Fault
fault_if line address other = cond (other == 0) None (Some (record { line = line; address = address; other = other }))

-- the fault of a line at the header, unless that is right
abbrev pub fault_unless : Bool → Line → ℕ → Option Fault
fault_unless right line other = cond right None (Some (record { line = line; address = 0; other = other }))

-- the faults are some that stand of a phase, in their order
abbrev pub AreSomeStanding : Database → VolumeState → ℕ → List Fault → Type 0
AreSomeStanding d v phase faults = AllStand d v phase faults × FaultsAscend faults
