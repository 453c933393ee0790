-- A volume that holds a forest, and whatever entries its index has.
use Rattle.std.specs.Prelude.{◌≡◌, ℕ, List}
use Rattle.hd_dbd.specs.Types.{SegmentType}
use Rattle.hd_dbd.specs.Hierarchy.{Database}
use Rattle.hd_dbd.specs.Rows.{key_of}
use Rattle.hd_dbd.specs.Forest.{Forest}
use Rattle.hd_volume.specs.Headers.{header_of}
use Rattle.hd_volume.specs.Volumes.{VolumeState, HasKinds}
use Rattle.hd_volume.specs.Entries.{Entry}
use Rattle.hd_volume.specs.Indexes.{root_key_length}
use Rattle.hd_index_blocks.specs.IndexSets.{HasIndexOf}
use Rattle.hd_links.specs.Placed.{Placed, Holds}
use Rattle.hd_image.specs.Records.{links_of, IsVolumeOf}
use Rattle.hd_image.specs.BlockFaults.{IsKnownVersion}
use Rattle.hd_index.specs.Changes.{IsIndexOf, entries_for, IsIndexChange}

-- the entry of a root
abbrev pub entry_of : List SegmentType → Placed → Entry
entry_of types p = record { key = key_of types p.segment; address = p.address }

-- The volume is of a version that is known, its records hold the placed forest, and its index has these entries, which between the two
-- steps of a change to a root are not those of the roots.
pub record HoldsWith (d : Database) (v : VolumeState) (placed : Forest Placed) (es : List Entry) : Type 0 where
  pub volume : IsVolumeOf d v
  pub version : IsKnownVersion d.types (header_of v.image).version
  pub name : (header_of v.image).name ≡ d.name
  pub block_size : (header_of v.image).block_size ≡ d.block_size
  pub records : Holds d.types (links_of d.types v) placed
  pub index : HasIndexOf (root_key_length d.types) v
  pub entries : entries_for d v ≡ es
  pub kinds : HasKinds v

-- The index of the volume was changed, and has these entries; the volume has grown by at most so many blocks.
pub record IsEntered (d : Database) (old : VolumeState) (es : List Entry) (more : ℕ) (new : VolumeState) : Type 0 where
  pub size : new.size ≡ old.size
  pub sizes : new.sizes ≡ old.sizes
  pub index : IsIndexOf d new
  pub entries : entries_for d new ≡ es
  pub change : IsIndexChange old more new
