-- What the calls that change the linked forest do to a volume.
use Rattle.std.specs.Prelude.{◌≡◌, ℕ, ◌+◌, ◌-◌, ◌<◌, ◌≤◌, List, false, length}
use Rattle.hd_dbd.specs.Types.{SegmentType}
use Rattle.hd_dbd.specs.Hierarchy.{Database}
use Rattle.hd_dbd.specs.Segment.{Segment}
use Rattle.hd_dbd.specs.Prefixes.{size_with}
use Rattle.hd_dbd.specs.Forest.{Forest}
use Rattle.hd_volume.specs.Headers.{header_of}
use Rattle.hd_volume.specs.Volumes.{VolumeState, IsKind, HasKinds}
use Rattle.hd_volume.specs.Spacing.{IsPlain}
use Rattle.hd_volume.specs.Rooms.{spare, HasHole}
use Rattle.hd_volume.specs.Calls.{KeepsIndex, KeepsHoles, GrowsByOne}
use Rattle.hd_links.specs.Links.{Links}
use Rattle.hd_links.specs.Placed.{Placed, Holds}
use Rattle.hd_links.specs.Changes.{Agree, linked, unlinked, with_leaf, without_span, CanLink, CanUnlink}
use Rattle.hd_image.specs.Records.{links_of, IsVolumeOf}
use Rattle.hd_forest.specs.Walks.{tip, parent_on}

-- The row may be linked below h, behind its twin y, or as the first of its type where y is 0, at any address where nothing
-- stands.
abbrev pub MayLink : List SegmentType → Links → ℕ → ℕ → Segment → Type 0
MayLink types m h y row = (a : ℕ) → m.here a ≡ false → CanLink types m h y (record { address = a; segment = row })

-- The index stays, and so does all of the header but the count and the roots; no other block has become an index block, data
-- blocks stay data blocks, and the blocks are still of the three kinds.
pub record KeepsTheRest (old new : VolumeState) : Type 0 where
  pub index : KeepsIndex old new
  pub others : (n : ℕ) → IsKind new 2 n → IsKind old 2 n
  pub data_blocks : (n : ℕ) → IsKind old 1 n → IsKind new 1 n
  pub header : header_of new.image ≡ record (header_of old.image) { count = (header_of new.image).count; first_root = (header_of new.image).first_root; last_root = (header_of new.image).last_root }
  pub kinds : HasKinds old → HasKinds new

-- The row was linked below h behind its twin y, or as the first of its type where y is 0, and stands at the address a: the
-- records, and each forest that they held, have it as a new leaf. A hole of its size is used where there is one and the volume
-- keeps nothing free.
pub record IsLinked (d : Database) (old : VolumeState) (h y : ℕ) (row : Segment) (a : ℕ) (new : VolumeState) : Type 0 where
  pub volume : IsVolumeOf d new
  pub some : 0 < a
  pub free : (links_of d.types old).here a ≡ false
  pub records : Agree d.types (linked (links_of d.types old) h y (record { address = a; segment = row })) (links_of d.types new)
  pub forest : (f : Forest Placed) → Holds d.types (links_of d.types old) f → Holds d.types (links_of d.types new) (with_leaf h y (record { address = a; segment = row }) f)
  pub rest : KeepsTheRest old new
  pub count : (header_of old.image).count ≤ (header_of new.image).count
  pub grows : (header_of new.image).count ≤ (header_of old.image).count + 2
  pub by_one : GrowsByOne old new
  pub spares : spare old ≤ spare new + 1
  pub in_hole : IsPlain old → HasHole old (size_with d.types row.code (length row.bytes)) → spare new ≡ spare old
  pub holes : (n : ℕ) → size_with d.types row.code (length row.bytes) < n → HasHole old n → HasHole new (n - size_with d.types row.code (length row.bytes))

-- The last row of the path was unlinked, with all below it, and their room is free: the records, and each forest that they
-- held, are without its span.
pub record IsUnlinked (d : Database) (old : VolumeState) (path : List ℕ) (new : VolumeState) : Type 0 where
  pub volume : IsVolumeOf d new
  pub records : (f : Forest Placed) → Holds d.types (links_of d.types old) f → (y : ℕ) × CanUnlink d.types (links_of d.types old) (parent_on path) y (tip path)
      × Agree d.types (unlinked (links_of d.types old) (parent_on path) y (tip path) (without_span (parent_on path) (tip path) f)) (links_of d.types new)
  pub forest : (f : Forest Placed) → Holds d.types (links_of d.types old) f → Holds d.types (links_of d.types new) (without_span (parent_on path) (tip path) f)
  pub rest : KeepsTheRest old new
  pub count : (header_of new.image).count ≡ (header_of old.image).count
  pub spares : spare new ≡ spare old
  pub holes : KeepsHoles old new
