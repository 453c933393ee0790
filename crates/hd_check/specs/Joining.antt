-- What the phases of a check find together: the least fault of all, and what is right where there is none.
use Rattle.std.specs.Prelude.{◌≡◌, ◌≢◌, ◌==◌, true, IsTrue, Option, IfNone, IfSome, ℕ, ◌+◌, ◌<◌, List, [], ◌∷◌, cond}
use Rattle.std.specs.List.{list_all}
use Rattle.hd_dbd.specs.Hierarchy.{Database}
use Rattle.hd_dbd.specs.DatabaseRules.{well_formed}
use Rattle.hd_volume.specs.Headers.{header_of}
use Rattle.hd_volume.specs.Volumes.{VolumeState}
use Rattle.hd_index_blocks.specs.Faultless.{AreFormsRight}
use Rattle.hd_index_blocks.specs.LevelFaults.{IsWrongNext, HasEntryOutOfOrder, StandsNowhere}
use Rattle.hd_volume.specs.Indexes.{root_key_length}
use Rattle.hd_index_blocks.specs.IndexSets.{index_entries}
use Rattle.hd_links.specs.Pointers.{AreLinked}
use Rattle.hd_image.specs.Records.{links_of, IsVolumeOf}
use Rattle.hd_image.specs.IndexFaults.{names_a_root}
use Rattle.hd_image.specs.Right.{BlocksAreRight, IndexIsFormed, SetIsFormed, IndexIsInOrder, LevelsAreInOrder, EntriesAreRight}
use Rattle.hd_image.specs.Standing.{IsLeastFault, Stands, phase_of}
use Rattle.hd_image.specs.declared.line.Line.{Line}
use Rattle.hd_check_blocks.specs.declared.fault.Fault.{Fault}
use Rattle.hd_check_blocks.specs.declared.places.Place.{Place}
use Rattle.hd_check_blocks.specs.Places.{ArePlaces}
use Rattle.hd_check_index.specs.IndexPhases.{AllRootsNamed}
use Rattle.hd_check_index.specs.Judging.{IsFirst, IsFoundAt}

-- no fault of a phase before this one stands
abbrev pub NoneBefore : Database → VolumeState → ℕ → Type 0
NoneBefore d v phase = (line : Line) (a o : ℕ) → phase_of line < phase → Stands d v line a o → ⊥

-- the fault is the least that stands in the volume
abbrev pub IsFirstFault : Database → VolumeState → Fault → Type 0
IsFirstFault d v fault = IsLeastFault d v fault.line fault.address fault.other

-- The volume is one of the database, its header and its blocks are right, and these are the places of its segments.
pub record HasRightBlocks (d : Database) (v : VolumeState) (places : List Place) : Type 0 where
  pub volume : IsVolumeOf d v
  pub blocks : BlocksAreRight d v
  pub stand : ArePlaces d.types v places

-- the fact holds where the database is well formed
abbrev pub OfWellFormed : Database → Type 0 → Type 0
OfWellFormed d fact = IsTrue (well_formed d.block_size d.frspc d.types) → fact

-- Each entry names a root of its key, and each root has one.
pub record NamesAreRight (d : Database) (v : VolumeState) : Type 0 where
  pub name : list_all (λ e. names_a_root d (links_of d.types v) e) (index_entries (root_key_length d.types) v) ≡ true
  pub each : AllRootsNamed d v

-- The blocks, the pointers, the index and its entries are right, and these are the places of the volume's segments.
pub record IsFoundRight (d : Database) (v : VolumeState) (places : List Place) : Type 0 where
  pub blocks : HasRightBlocks d v places
  pub pointers : AreLinked d.types (links_of d.types v)
  pub index : IndexIsFormed (root_key_length d.types) v
  pub entries : EntriesAreRight d v

-- the index is formed, and in order
abbrev pub HasOrderedIndex : ℕ → VolumeState → Type 0
HasOrderedIndex key_length v = IndexIsFormed key_length v × IndexIsInOrder key_length v

-- the index set is formed, and each of its levels in order
abbrev pub HasOrderedLevels : ℕ → VolumeState → Type 0
HasOrderedLevels key_length v = SetIsFormed key_length v × LevelsAreInOrder key_length v

-- the index is formed, and its entries are right
abbrev pub HasRightIndex : Database → VolumeState → Type 0
HasRightIndex d v = IndexIsFormed (root_key_length d.types) v × EntriesAreRight d v

-- the fact holds of a volume of an index set whose blocks are right, where these were found of a size of blocks: the first block with a wrong next
-- one, and the first with an entry out of order and what that names
abbrev pub OfOrdered : Database → VolumeState → ℕ → Option ℕ → Option (ℕ × ℕ) → Type 0 → Type 0
OfOrdered d v size next order fact =
    IsVolumeOf d v → (header_of v.image).version ≢ 1 → AreFormsRight (root_key_length d.types) v → size ≡ v.size
    → IsFoundAt v (IsWrongNext (root_key_length d.types) v) next → IfNone order (StandsNowhere (HasEntryOutOfOrder (root_key_length d.types) v))
    → IfSome order (λ at. IsFirst v (HasEntryOutOfOrder (root_key_length d.types) v) at.0 at.1) → fact

-- how many of these places are those of roots
abbrev pub roots_among : List Place → ℕ
roots_among [] = 0
roots_among (p ∷ ps) = cond (p.code == 1) 1 0 + roots_among ps
