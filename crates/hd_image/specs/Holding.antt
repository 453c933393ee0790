-- When a volume holds a forest.
use Rattle.std.specs.Prelude.{◌≡◌, ℕ, List, [], ◌∷◌, true}
use Rattle.hd_dbd.specs.Types.{SegmentType}
use Rattle.hd_dbd.specs.Hierarchy.{Database}
use Rattle.hd_dbd.specs.Segment.{Segment}
use Rattle.hd_dbd.specs.Facts.{stored_sizes}
use Rattle.hd_dbd.specs.Rows.{key_of}
use Rattle.hd_dbd.specs.Forest.{Forest, empty, node}
use Rattle.hd_stores.specs.Stores.{uncommitted}
use Rattle.hd_volume.specs.Headers.{header_of}
use Rattle.hd_volume.specs.Volumes.{VolumeState, HasKinds}
use Rattle.hd_volume.specs.Spacing.{no_spacing}
use Rattle.hd_volume.specs.Entries.{Entry}
use Rattle.hd_volume.specs.Indexes.{root_key_length}
use Rattle.hd_index_blocks.specs.IndexSets.{index_entries, HasIndexOf}
use Rattle.hd_links.specs.Placed.{Placed, forest_of, Holds}
use Rattle.hd_links.specs.Steps.{rows_of}
use Rattle.hd_image.specs.Records.{links_of, IsVolumeOf}
use Rattle.hd_image.specs.BlockFaults.{IsKnownVersion}

-- the keys and addresses of the roots, in order
abbrev pub root_entries : List SegmentType → Forest Placed → List Entry
root_entries types empty = []
root_entries types (node p below behind) = record { key = key_of types p.segment; address = p.address } ∷ root_entries types behind

-- The volume holds the placed forest: its header is of the database and of a version that is known; the forest lies in the records, and
-- each record is one of its nodes, once; the header names its first and its last root; the index, which is of the volume's version, has the
-- roots' keys and addresses in order; and each other block is a data block with extents, an index block reached from the top, or free.
pub record HoldsPlaced (d : Database) (v : VolumeState) (placed : Forest Placed) : Type 0 where
  pub volume : IsVolumeOf d v
  pub version : IsKnownVersion d.types (header_of v.image).version
  pub name : (header_of v.image).name ≡ d.name
  pub block_size : (header_of v.image).block_size ≡ d.block_size
  pub records : Holds d.types (links_of d.types v) placed
  pub index : HasIndexOf (root_key_length d.types) v
  pub entries : index_entries (root_key_length d.types) v ≡ root_entries d.types placed
  pub kinds : HasKinds v

-- The volume holds the forest, placed somehow.
abbrev pub HoldsForest : Database → VolumeState → Forest Segment → Type 0
HoldsForest d v f = (placed : Forest Placed) × (forest_of placed ≡ f) × HoldsPlaced d v placed

-- The volume holds these rows: they are the hierarchic sequence of a forest that it holds.
abbrev pub HoldsRows : Database → VolumeState → List Segment → Type 0
HoldsRows d v rows = (placed : Forest Placed) × (rows_of placed ≡ rows) × HoldsPlaced d v placed

-- the volume that is loaded for a database from these bytes
abbrev pub volume_of : Database → List ℕ → VolumeState
volume_of d image = record { image = image; stored = image; is_sound = true; failures = 0; room = 0; committed = uncommitted; size = d.block_size; sizes = stored_sizes d.types; spacing = no_spacing }
