-- Faults of an index that are listed one behind another.
use Rattle.std.specs.Prelude.{◌≡◌, ◌≤◌, ◌<◌, ◌⊎◌, ◌+◌, ◌*◌, ◌==◌, ◌&&◌, ℕ, List, [], ◌∷◌, ◌++◌, length, slice_index_or, Bool, false, cond, Option, Some, None, option_map}
use Rattle.hd_dbd.specs.Hierarchy.{Database}
use Rattle.hd_volume.specs.Volumes.{VolumeState}
use Rattle.hd_image.specs.Standing.{Stands, phase_of, number_of}
use Rattle.hd_image.specs.declared.line.Line.{Line}
use Rattle.hd_image.specs.declared.line.Line.TheVariants.{WrongTop, EntryOutOfOrder, NoEntry}
use Rattle.hd_volume.specs.Indexes.{IsAmong}
use Rattle.hd_check_blocks.specs.declared.places.Place.{Place}
use Rattle.hd_check_blocks.specs.Listing.{IsListed, AllStand, faults_of}
use Rattle.hd_check_blocks.specs.declared.fault.Fault.{Fault}

-- the fault of a line at the address of a block, unless that is right
abbrev pub fault_unless : Bool → Line → ℕ → Option Fault
fault_unless right line address = cond right None (Some (record { line = line; address = address; other = 0 }))

-- the fault of a line at the address of a block that names what was found in it, if something was
abbrev pub fault_naming : Option ℕ → Line → ℕ → Option Fault
fault_naming found line address = option_map (λ other. record { line = line; address = address; other = other }) found

-- the fault of the header, unless top and height are right
abbrev pub top_fault : Bool → ℕ → Option Fault
top_fault right top = cond right None (Some (record { line = WrongTop; address = 0; other = top }))

-- The fault is that of a place of a root whose address is none of these.
abbrev pub IsUnnamed : Place → List ℕ → Fault → Type 0
IsUnnamed place named f = (place.code ≡ 1) × (IsAmong place.address named → ⊥) × (f ≡ record { line = NoEntry; address = place.address; other = 0 })

-- ---- faults that are found in any order

-- one fault does not stand behind another: by address, and at one address by number
abbrev pub IsNotBehind : Fault → Fault → Type 0
IsNotBehind f g = (f.address < g.address) ⊎ ((f.address ≡ g.address) × (number_of f.line f.address ≤ number_of g.line g.address))

-- the faults are in order
abbrev pub AreInOrder : List Fault → Type 0
AreInOrder fs = (i : ℕ) (d : Fault) → i + 1 < length fs → IsNotBehind (slice_index_or fs i d) (slice_index_or fs (i + 1) d)

-- a fault is of the address and the number of the one before it, if there is one
abbrev pub repeats : Option Fault → Fault → Bool
repeats None f = false
repeats (Some g) f = (g.address == f.address) && (number_of g.line g.address == number_of f.line f.address)

-- the fault, unless it repeats the one before it
abbrev pub unless_repeated : Option Fault → Fault → Option Fault
unless_repeated before f = cond (repeats before f) None (Some f)

-- those of some faults that do not repeat the one before them
abbrev pub each_once : Option Fault → List Fault → List Fault
each_once before [] = []
each_once before (f ∷ fs) = faults_of (unless_repeated before f) ++ each_once (Some f) fs

-- Of a phase these faults stand, and all that stands is among them.
pub record AreFound (d : Database) (v : VolumeState) (phase : ℕ) (faults : List Fault) : Type 0 where
  pub stand : AllStand d v phase faults
  pub all : (line : Line) (a o : ℕ) → phase_of line ≡ phase → Stands d v line a o → IsListed line a faults

-- what stands at the numbers of blocks stands at their addresses
abbrev pub AtAddress : ℕ → (ℕ → ℕ → Type 0) → ℕ → ℕ → Type 0
AtAddress size stands address other = (n : ℕ) × stands n other × (address ≡ n * size)

-- these are entries out of order, where something stands
abbrev pub AreOrders : (ℕ → ℕ → Type 0) → List Fault → Type 0
AreOrders stands [] = Unit {0}
AreOrders stands (f ∷ fs) = ((f.line ≡ EntryOutOfOrder) × stands f.address f.other) × AreOrders stands fs

-- Behind some faults entries out of order are listed, one at each address at which something stands.
pub record AreOrdersListed (stands : ℕ → ℕ → Type 0) (old new : List Fault) : Type 0 where
  pub more : List Fault
  pub new_is : new ≡ old ++ more
  pub there : AreOrders stands more
  pub all : (address other : ℕ) → stands address other → IsListed EntryOutOfOrder address more
