-- What the steps of linking and unlinking do to a volume and its records.
use Rattle.std.specs.Prelude.{◌≡◌, ℕ, ◌<◌, List, true, ◌==◌, cond}
use Rattle.hd_dbd.specs.Types.{SegmentType}
use Rattle.hd_dbd.specs.Hierarchy.{Database}
use Rattle.hd_volume.specs.Headers.{header_of}
use Rattle.hd_volume.specs.Volumes.{VolumeState}
use Rattle.hd_volume.specs.Rooms.{spare}
use Rattle.hd_volume.specs.Calls.{KeepsHoles}
use Rattle.hd_prefix.specs.declared.pointer.Pointer.TheVariants.{TwinForward, TwinBackward, FirstChild, LastChild}
use Rattle.hd_links.specs.Links.{Links, is_child_type}
use Rattle.hd_links.specs.Changes.{Agree}
use Rattle.hd_image.specs.Records.{links_of, IsVolumeOf}
use Rattle.hd_image.specs.Pointing.{with_pointer}
use Rattle.hd_forest.specs.Updates.{KeepsTheRest}

-- the records with the twin y, or its parent h where y is 0, naming x as what comes next
abbrev pub following : Links → ℕ → ℕ → ℕ → ℕ → Links
following m h t y x = cond (y == 0) (with_pointer m (FirstChild t) h x) (with_pointer m TwinForward y x)

-- the records with the twin y, or its parent h where y is 0, naming x as what came before
abbrev pub preceding : Links → ℕ → ℕ → ℕ → ℕ → Links
preceding m h t y x = cond (y == 0) (with_pointer m (LastChild t) h x) (with_pointer m TwinBackward y x)

-- the records with a leaf a of type t below h that its twins y and x name, or h where there is none
abbrev pub named : Links → ℕ → ℕ → ℕ → ℕ → ℕ → Links
named m h t y x a = preceding (following m h t y a) h t x a

-- Such a record is there: h has children of type t, and y, if it is not 0, is a segment of that type.
pub record IsTwinPlace (types : List SegmentType) (m : Links) (h t y : ℕ) : Type 0 where
  pub parent : m.here h ≡ true
  pub typed : is_child_type types (m.code h) t ≡ true
  pub twin : 0 < y → m.here y ≡ true
  pub twin_code : 0 < y → m.code y ≡ t

-- The blocks and their room stay, and so does all of the header but the roots.
pub record KeepsBlocks (old new : VolumeState) : Type 0 where
  pub rest : KeepsTheRest old new
  pub count : (header_of new.image).count ≡ (header_of old.image).count
  pub spares : spare new ≡ spare old
  pub holes : KeepsHoles old new

-- The volume's records have become these, in blocks that stay.
pub record IsRecorded (d : Database) (old : VolumeState) (m : Links) (new : VolumeState) : Type 0 where
  pub volume : IsVolumeOf d new
  pub records : Agree d.types m (links_of d.types new)
  pub keeps : KeepsBlocks old new
