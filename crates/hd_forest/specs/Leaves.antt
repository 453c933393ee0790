-- A new leaf: its segment as it is laid out, and what putting it does to a volume.
use Rattle.std.specs.Prelude.{◌≡◌, ℕ, ◌+◌, ◌-◌, ◌<◌, ◌≤◌, List, length, true, false}
use Rattle.hd_dbd.specs.Types.{SegmentType}
use Rattle.hd_dbd.specs.Hierarchy.{Database}
use Rattle.hd_dbd.specs.Segment.{Segment}
use Rattle.hd_dbd.specs.Prefixes.{is_backward_kept, size_with}
use Rattle.hd_volume.specs.Headers.{header_of}
use Rattle.hd_volume.specs.Volumes.{VolumeState}
use Rattle.hd_volume.specs.Spacing.{IsPlain}
use Rattle.hd_volume.specs.Calls.{GrowsByOne}
use Rattle.hd_volume.specs.Rooms.{spare, HasHole}
use Rattle.hd_prefix.specs.declared.pointer.Pointer.TheVariants.{TwinForward, TwinBackward, FirstChild, LastChild}
use Rattle.hd_prefix.specs.Fields.{code_of, delete_byte_of, pointer_of, bytes_of}
use Rattle.hd_links.specs.Changes.{Agree}
use Rattle.hd_image.specs.Records.{links_of, IsVolumeOf}
use Rattle.hd_image.specs.Pointing.{with_record}
use Rattle.hd_forest.specs.Updates.{KeepsTheRest}

-- The segment is that of a row between its twins y and x, with no child.
pub record IsLeaf (types : List SegmentType) (row : Segment) (y x : ℕ) (segment : List ℕ) : Type 0 where
  pub size : length segment ≡ size_with types row.code (length row.bytes)
  pub code : code_of segment ≡ row.code
  pub delete_byte : delete_byte_of segment ≡ 0
  pub bytes : bytes_of types row.code segment ≡ row.bytes
  pub forward : pointer_of types row.code TwinForward segment ≡ x
  pub backward : is_backward_kept types row.code ≡ true → pointer_of types row.code TwinBackward segment ≡ y
  pub first_child : (t : ℕ) → pointer_of types row.code (FirstChild t) segment ≡ 0
  pub last_child : (t : ℕ) → pointer_of types row.code (LastChild t) segment ≡ 0

-- The leaf was put at the address a, where nothing stood, and nothing names it yet.
pub record IsLeafPut (d : Database) (old : VolumeState) (row : Segment) (y x a : ℕ) (new : VolumeState) : Type 0 where
  pub volume : IsVolumeOf d new
  pub some : 0 < a
  pub free : (links_of d.types old).here a ≡ false
  pub segment : List ℕ
  pub leaf : IsLeaf d.types row y x segment
  pub records : Agree d.types (with_record d.types (links_of d.types old) a segment) (links_of d.types new)
  pub rest : KeepsTheRest old new
  pub count : (header_of old.image).count ≤ (header_of new.image).count
  pub grows : (header_of new.image).count ≤ (header_of old.image).count + 2
  pub by_one : GrowsByOne old new
  pub spares : spare old ≤ spare new + 1
  pub in_hole : IsPlain old → HasHole old (size_with d.types row.code (length row.bytes)) → spare new ≡ spare old
  pub holes : (n : ℕ) → size_with d.types row.code (length row.bytes) < n → HasHole old n → HasHole new (n - size_with d.types row.code (length row.bytes))
