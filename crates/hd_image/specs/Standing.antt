-- The faults that stand in a volume, and the least of them.
use Rattle.std.specs.Prelude.{◌≡◌, ◌⊎◌, ℕ, ◌<◌, ◌==◌, cond}
use Rattle.hd_dbd.specs.Hierarchy.{Database}
use Rattle.hd_volume.specs.Volumes.{VolumeState}
use Rattle.hd_volume.specs.Indexes.{root_key_length}
use Rattle.hd_image.specs.Records.{links_of}
use Rattle.hd_image.specs.BlockFaults.{IsNoVolume, IsOfNoVersion, IsOfAnother, IsWrongChain, IsWrongPlace, IsOfNoKind}
use Rattle.hd_image.specs.PointerFaults.{IsDeleted, PointsNowhere, PointsToAnother, HasTwoPredecessors, HasNoPredecessor, IsWrongBackward, HasWrongLast, IsOutOfOrder, IsNotReached}
use Rattle.hd_index_blocks.specs.LevelFaults as level
use Rattle.hd_image.specs.IndexFaults.{ByVersion, IsWrongTop, IsWrongForm, IsNamedTwice, IsUnreachedBlock, HasEntryOutOfOrder, HasWrongEntry, HasNoEntry}
use Rattle.hd_image.specs.declared.line.Line.{Line}
use Rattle.hd_image.specs.declared.line.Line.TheVariants.{NoVolume, NoVersion, AnotherDatabase, WrongChain, WrongPlace, NoKind, Deleted, NamesNothing, NamesAnother, TwoPredecessors, NoPredecessor, WrongBackward, WrongLast, OutOfOrder, NotReached, WrongTop, WrongForm, NamedTwice, UnreachedBlock, WrongNext, EntryOutOfOrder, WrongEntry, NoEntry}

-- the phase of a line
abbrev pub phase_of : Line → ℕ
phase_of NoVolume = 1
phase_of NoVersion = 1
phase_of AnotherDatabase = 1
phase_of WrongChain = 2
phase_of WrongPlace = 2
phase_of NoKind = 2
phase_of Deleted = 3
phase_of NamesNothing = 3
phase_of NamesAnother = 3
phase_of TwoPredecessors = 4
phase_of NoPredecessor = 4
phase_of WrongBackward = 5
phase_of WrongLast = 5
phase_of OutOfOrder = 6
phase_of NotReached = 7
phase_of WrongTop = 8
phase_of WrongForm = 8
phase_of NamedTwice = 9
phase_of UnreachedBlock = 10
phase_of WrongNext = 11
phase_of EntryOutOfOrder = 11
phase_of WrongEntry = 12
phase_of NoEntry = 13

-- the number of a line's fault at an address: of the header's first and last root it is 20
abbrev pub number_of : Line → ℕ → ℕ
number_of NoVolume address = 1
number_of NoVersion address = 2
number_of AnotherDatabase address = 3
number_of WrongChain address = 4
number_of WrongPlace address = 5
number_of NoKind address = 19
number_of Deleted address = 6
number_of NamesNothing address = 7
number_of NamesAnother address = 8
number_of TwoPredecessors address = 9
number_of NoPredecessor address = 10
number_of WrongBackward address = 11
number_of WrongLast address = cond (address == 0) 20 12
number_of OutOfOrder address = 13
number_of NotReached address = 14
number_of WrongTop address = 15
number_of WrongForm address = 15
number_of NamedTwice address = 15
number_of UnreachedBlock address = 19
number_of WrongNext address = 15
number_of EntryOutOfOrder address = 16
number_of WrongEntry address = 17
number_of NoEntry address = 18

-- the condition of a line stands in a volume at an address, with what else it names
abbrev pub Stands : Database → VolumeState → Line → ℕ → ℕ → Type 0
Stands d v NoVolume address other = IsNoVolume d v address other
Stands d v NoVersion address other = IsOfNoVersion d v address other
Stands d v AnotherDatabase address other = IsOfAnother d v address other
Stands d v WrongChain address other = IsWrongChain v address other
Stands d v WrongPlace address other = IsWrongPlace v address other
Stands d v NoKind address other = IsOfNoKind v address other
Stands d v Deleted address other = IsDeleted (links_of d.types v) address other
Stands d v NamesNothing address other = PointsNowhere d.types (links_of d.types v) address other
Stands d v NamesAnother address other = PointsToAnother d.types (links_of d.types v) address other
Stands d v TwoPredecessors address other = HasTwoPredecessors d.types (links_of d.types v) address other
Stands d v NoPredecessor address other = HasNoPredecessor d.types (links_of d.types v) address other
Stands d v WrongBackward address other = IsWrongBackward d.types (links_of d.types v) address other
Stands d v WrongLast address other = HasWrongLast d.types (links_of d.types v) address other
Stands d v OutOfOrder address other = IsOutOfOrder d.types (links_of d.types v) address other
Stands d v NotReached address other = IsNotReached d.types (links_of d.types v) address other
Stands d v WrongTop address other = ByVersion v (IsWrongTop v address other) (level.IsWrongTop v address other)
Stands d v WrongForm address other = ByVersion v (IsWrongForm (root_key_length d.types) v address other) (level.IsWrongForm (root_key_length d.types) v address other)
Stands d v NamedTwice address other = ByVersion v (IsNamedTwice v address other) (level.IsNamedTwice (root_key_length d.types) v address other)
Stands d v UnreachedBlock address other = ByVersion v (IsUnreachedBlock v address other) (level.IsUnreachedBlock (root_key_length d.types) v address other)
Stands d v WrongNext address other = ByVersion v ⊥ (level.IsWrongNext (root_key_length d.types) v address other)
Stands d v EntryOutOfOrder address other = ByVersion v (HasEntryOutOfOrder (root_key_length d.types) v address other) (level.HasEntryOutOfOrder (root_key_length d.types) v address other)
Stands d v WrongEntry address other = HasWrongEntry d v address other
Stands d v NoEntry address other = HasNoEntry d v address other

-- a fault of one line at an address comes before that of another: by phase, then by address, then by number
abbrev pub ComesBefore : Line → ℕ → Line → ℕ → Type 0
ComesBefore k a l b =
    (phase_of k < phase_of l)
    ⊎ ((phase_of k ≡ phase_of l) × ((a < b) ⊎ ((a ≡ b) × (number_of k a < number_of l b))))

-- The fault stands, and none comes before it.
pub record IsLeastFault (d : Database) (v : VolumeState) (line : Line) (address other : ℕ) : Type 0 where
  pub stands : Stands d v line address other
  pub least : (k : Line) (a o : ℕ) → Stands d v k a o → ComesBefore k a line address → ⊥
