-- A volume whose records are right and whose pointers are matched, and the owners that are found in it.
use Rattle.std.specs.Prelude.{◌≡◌, ◌≢◌, ℕ, ◌<◌, List, true, length, slice_index}
use Rattle.hd_dbd.specs.Types.{SegmentType}
use Rattle.hd_dbd.specs.Hierarchy.{Database}
use Rattle.hd_volume.specs.Volumes.{VolumeState}
use Rattle.hd_links.specs.Links.{Links, is_child_type}
use Rattle.hd_links.specs.Pointers.{PointersAreTyped, PredecessorsAreOne, Precedes}
use Rattle.hd_image.specs.Records.{links_of, IsVolumeOf}
use Rattle.hd_check_blocks.specs.declared.places.Place.{Place}
use Rattle.hd_check_blocks.specs.Places.{ArePlaces}
use Rattle.hd_check_pointers.specs.Tables.{place_at, nobody, IsOwner, AreForwards, ArePredecessors, AreOwners}
use Rattle.hd_check_pointers.specs.declared.namings.Naming.{Naming}
use Rattle.hd_check_pointers.specs.Namings.{AreNamings}
use Rattle.hd_check_pointers.specs.Twins.{IsTwinOrNone, HasChildren}
use Rattle.hd_check_blocks.specs.Lending.{IsLent}
use Rattle.hd_volume.specs.Headers.{header_of}

-- The volume is one of the database, these are the places of its segments, its pointers are typed, and each segment has just one
-- predecessor.
pub record IsMatched (d : Database) (v : VolumeState) (places : List Place) : Type 0 where
  pub volume : IsVolumeOf d v
  pub stand : ArePlaces d.types v places
  pub typed : PointersAreTyped d.types (links_of d.types v)
  pub single : PredecessorsAreOne d.types (links_of d.types v)

-- each owner that is known is that of the segment's chain
abbrev pub OwnersAreRight : List SegmentType → Links → List Place → List ℕ → Type 0
OwnersAreRight types m places owners =
    (i : ℕ) → i < length places → slice_index owners i ≢ nobody → IsOwner types m (slice_index owners i) (place_at places i).address

-- where an owner is known, that of the next twin is
abbrev pub OwnersAreClosed : Links → List Place → List ℕ → Type 0
OwnersAreClosed m places owners =
    (i j : ℕ) → i < length places → j < length places → slice_index owners i ≢ nobody → m.forward (place_at places i).address ≡ (place_at places j).address
    → slice_index owners j ≢ nobody

-- the fact holds if the volume is matched and these are the twin forward pointers of its segments
abbrev pub IfForwards : Database → VolumeState → List Place → List ℕ → Type 0 → Type 0
IfForwards d v places forwards fact = IsMatched d v places → AreForwards (links_of d.types v) places forwards → fact

-- the fact holds if the volume is matched and these are the owners of its chains of twins
abbrev pub IfOwned : Database → VolumeState → List Place → List ℕ → Type 0 → Type 0
IfOwned d v places owners fact = IsMatched d v places → AreOwners d.types (links_of d.types v) places owners → fact

-- the fact holds if the volume is matched and these are its twin forward pointers, and the owners of its chains of twins
abbrev pub IfChained : Database → VolumeState → List Place → List ℕ → List ℕ → Type 0 → Type 0
IfChained d v places forwards owners fact =
    IsMatched d v places → AreForwards (links_of d.types v) places forwards → AreOwners d.types (links_of d.types v) places owners → fact

-- the fact holds if these are the header's first and last root
abbrev pub IfRoots : VolumeState → ℕ → ℕ → Type 0 → Type 0
IfRoots v first last fact = first ≡ (header_of v.image).first_root → last ≡ (header_of v.image).last_root → fact

-- the fact holds if the volume's pointers are typed and these are the pointers by which its segments are named
abbrev pub IfNamed : Database → VolumeState → List Place → List Naming → Type 0 → Type 0
IfNamed d v places namings fact =
    IsVolumeOf d v → ArePlaces d.types v places → PointersAreTyped d.types (links_of d.types v) → AreNamings d.types (links_of d.types v) places namings → fact

-- the fact holds of the segment of a number in the records of each matched volume that lends these bytes of it
abbrev pub OfLent : Database → List Place → ℕ → List ℕ → (Links → ℕ → Type 0) → Type 0
OfLent d places number segment fact =
    (v : VolumeState) → IsMatched d v places → IsLent d.types v (place_at places number).address segment → fact (links_of d.types v) (place_at places number).address

-- the fact holds of it in each that has these twin forward pointers and owners as well
abbrev pub OfLentTwin : Database → List Place → List ℕ → List ℕ → ℕ → List ℕ → (Links → ℕ → Type 0) → Type 0
OfLentTwin d places forwards owners number segment fact =
    (v : VolumeState) → IfChained d v places forwards owners (IsLent d.types v (place_at places number).address segment → fact (links_of d.types v) (place_at places number).address)

-- ---- what is said of every volume with these tables

-- Owners that were right still are, once the chain from the place of a number on has its owner.
abbrev pub OwnersStayRight : List Place → List ℕ → ℕ → ℕ → List ℕ → List ℕ → Type 0
OwnersStayRight places forwards first owner old new =
    (d : Database) (v : VolumeState) → let m = links_of d.types v in
    IfForwards d v places forwards (IsOwner d.types m owner (place_at places first).address → OwnersAreRight d.types m places old → OwnersAreRight d.types m places new)

-- Where an owner was known, that of the next twin was; so it still is.
abbrev pub OwnersStayClosed : List Place → List ℕ → List ℕ → List ℕ → Type 0
OwnersStayClosed places forwards old new =
    (d : Database) (v : VolumeState) → let m = links_of d.types v in
    IfForwards d v places forwards (OwnersAreClosed m places old → OwnersAreClosed m places new)

-- the fact holds if the volume is matched and these are the pointers to its segments and their twin forward pointers
abbrev pub IfPreceded : Database → VolumeState → List Place → List Naming → List ℕ → Type 0 → Type 0
IfPreceded d v places namings forwards fact =
    IsMatched d v places → ArePredecessors d.types (links_of d.types v) places namings → AreForwards (links_of d.types v) places forwards → fact

-- the fact holds of each volume whose pointers are typed, and whose segments are named by these
abbrev pub OfNamed : List Place → List Naming → (Database → VolumeState → Type 0) → Type 0
OfNamed places namings fact = (d : Database) (v : VolumeState) → IfNamed d v places namings (fact d v)

-- The number is the twin before the segment at a place, by its predecessor, or 0.
abbrev pub TellsTwinBefore : List Place → ℕ → ℕ → ℕ → Type 0
TellsTwinBefore places number holder x =
    (d : Database) (v : VolumeState) → let m = links_of d.types v in let a = (place_at places number).address in
    IsMatched d v places → Precedes d.types m holder a → IsTwinOrNone d.types m holder a x

-- the fact holds of each type of which the parent has these as first and last child, in each volume with these tables
abbrev pub OfChildren : List Place → List ℕ → List ℕ → ℕ → ℕ → ℕ → (Links → ℕ → Type 0) → Type 0
OfChildren places forwards owners parent first last fact =
    (d : Database) (v : VolumeState) (t : ℕ) → let m = links_of d.types v in
    IfChained d v places forwards owners (HasChildren d.types m parent t first last → fact m t)

-- the fact holds of a child type of the segment of a number, in each volume that lends these bytes of it
abbrev pub OfChildTwin : Database → List Place → List ℕ → List ℕ → ℕ → List ℕ → ℕ → (Links → ℕ → Type 0) → Type 0
OfChildTwin d places forwards owners number segment child fact =
    OfLentTwin d places forwards owners number segment (λ m a. is_child_type d.types (place_at places number).code child ≡ true → fact m a)
