-- Laws of the records of a volume.
use Rattle.std.specs.Prelude.{◌≡◌, ℕ, List, length, Some, IsTrue, ◌<◌}
use Rattle.hd_bytes.specs.Numbers.{number_at}
use Rattle.hd_dbd.specs.Types.{SegmentType}
use Rattle.hd_dbd.specs.Hierarchy.{Database}
use Rattle.hd_dbd.specs.DatabaseRules.{well_formed}
use Rattle.hd_dbd.specs.Segment.{Segment}
use Rattle.hd_dbd.specs.Facts.{stored_sizes}
use Rattle.hd_dbd.specs.Forest.{Forest, empty}
use Rattle.hd_volume.specs.Headers.{header_of}
use Rattle.hd_volume.specs.Volumes.{VolumeState}
use Rattle.hd_volume.specs.Creates.{IsCreated}
use Rattle.hd_volume.specs.Calls.{IsWritten, IsFreed, IsPut, IsRewritten, HasNewHeader, KeepsSegments}
use Rattle.hd_prefix.specs.declared.pointer.Pointer.{Pointer}
use Rattle.hd_prefix.specs.declared.pointer.Pointer.TheVariants.{FirstChild, LastChild}
use Rattle.hd_prefix.specs.Pointers.{place_of}
use Rattle.hd_links.specs.Links.{IsSegment, IsLinkGraph}
use Rattle.hd_links.specs.Placed.{Placed, Holds}
use Rattle.hd_links.specs.Steps.{rows_of}
use Rattle.hd_links.specs.Changes.{Agree, replaced}
use Rattle.hd_image.specs.Records.{links_of, IsVolumeOf}
use Rattle.hd_image.specs.Pointing.{with_pointer, with_record, without_record}
use Rattle.hd_image.specs.Holding.{HoldsPlaced, HoldsForest}

-- the database is one that its constructor accepts
abbrev pub IsDatabase : Database → Type 0
IsDatabase d = IsTrue (well_formed d.block_size d.frspc d.types)

-- The records of a database's volume are a link graph, whose addresses are places in its image.
abbrev pub RecordsAreALinkGraph : Type 0
RecordsAreALinkGraph = (d : Database) (v : VolumeState) → IsDatabase d → IsVolumeOf d v → IsLinkGraph d.types (length v.image) (links_of d.types v)

-- Where all segments and the header's roots stay, the records stay.
abbrev pub RecordsStay : Type 0
RecordsStay =
    (types : List SegmentType) (v w : VolumeState) → KeepsSegments v w
    → (header_of w.image).first_root ≡ (header_of v.image).first_root → (header_of w.image).last_root ≡ (header_of v.image).last_root
    → Agree types (links_of types v) (links_of types w)

-- An address that was written into a pointer of a segment changes that pointer of the records alone.
abbrev pub WritingSetsAPointer : Type 0
WritingSetsAPointer =
    (d : Database) (v w : VolumeState) (pointer : Pointer) (a place : ℕ) (bytes : List ℕ) → IsDatabase d → IsVolumeOf d v → IsVolumeOf d w
    → IsSegment (links_of d.types v) a → place_of d.types ((links_of d.types v).code a) pointer ≡ Some place → length bytes ≡ 4
    → IsWritten v a place bytes w
    → Agree d.types (with_pointer (links_of d.types v) pointer a (number_at 4 bytes 0)) (links_of d.types w)

-- A root that was set in the header is its first or last child.
abbrev pub SettingARootSetsAPointer : Type 0
SettingARootSetsAPointer =
    (types : List SegmentType) (v w : VolumeState) (root : ℕ)
    → (HasNewHeader v (record (header_of v.image) { first_root = root }) w → Agree types (with_pointer (links_of types v) (FirstChild 1) 0 root) (links_of types w))
    × (HasNewHeader v (record (header_of v.image) { last_root = root }) w → Agree types (with_pointer (links_of types v) (LastChild 1) 0 root) (links_of types w))

-- A segment that was put is one record more.
abbrev pub PuttingAddsARecord : Type 0
PuttingAddsARecord =
    (types : List SegmentType) (v w : VolumeState) (a : ℕ) (segment : List ℕ) → 0 < v.size → w.size ≡ v.size → IsPut v a segment w
    → (0 < a) × Agree types (with_record types (links_of types v) a segment) (links_of types w)

-- A segment that was freed is one record less.
abbrev pub FreeingTakesARecord : Type 0
FreeingTakesARecord =
    (types : List SegmentType) (v w : VolumeState) (a : ℕ) → IsSegment (links_of types v) a → IsFreed v a w
    → Agree types (without_record (links_of types v) a) (links_of types w)

-- A segment that was replaced, in its place or elsewhere, is one record less and one more.
abbrev pub RewritingReplacesARecord : Type 0
RewritingReplacesARecord =
    (types : List SegmentType) (v w : VolumeState) (a to : ℕ) (segment : List ℕ) → IsSegment (links_of types v) a → IsRewritten v a to segment w
    → (0 < to) × Agree types (with_record types (without_record (links_of types v) a) to segment) (links_of types w)

-- A volume holds one forest of a database at most.
abbrev pub AVolumeHoldsOneForest : Type 0
AVolumeHoldsOneForest =
    (d : Database) (v : VolumeState) (f g : Forest Segment) → IsDatabase d → HoldsForest d v f → HoldsForest d v g → f ≡ g

-- The rows of a volume are fewer than the bytes of its image, and than 2 to the 32.
abbrev pub RowsOfAVolumeAreFew : Type 0
RowsOfAVolumeAreFew =
    (d : Database) (v : VolumeState) (f : Forest Placed) → IsVolumeOf d v → Holds d.types (links_of d.types v) f
    → (length (rows_of f) < length v.image) × (length (rows_of f) < 4294967295)

-- A new volume holds the forest without rows.
abbrev pub NewVolumesAreEmpty : Type 0
NewVolumesAreEmpty =
    (d : Database) (v : VolumeState) (largest : ℕ) → IsDatabase d → v.size ≡ d.block_size → v.sizes ≡ stored_sizes d.types
    → IsCreated d.name d.block_size largest v → HoldsPlaced d v empty
