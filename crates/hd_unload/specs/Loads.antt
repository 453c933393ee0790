-- What loading rows does to a volume, and when it lacks room.
use Rattle.std.specs.Prelude.{◌≡◌, ◌⊎◌, ℕ, ◌+◌, ◌≤◌, List, [], ◌++◌, length, true, None, ◌==◌, cond, replicate}
use Rattle.hd_bytes.specs.Blocks.{block_of}
use Rattle.hd_dbd.specs.Hierarchy.{Database}
use Rattle.hd_dbd.specs.Segment.{Segment}
use Rattle.hd_dbd.specs.Rows.{row_fits}
use Rattle.hd_dbd.specs.Loads.{Loading, rows_loaded, image_before, last_path, load_fault, IsLegalLoad}
use Rattle.hd_volume.specs.declared.header.TheConstants.{NEWEST_VERSION}
use Rattle.hd_volume.specs.Headers.{header_of}
use Rattle.hd_volume.specs.Volumes.{VolumeState}
use Rattle.hd_volume.specs.Rooms.{spare}
use Rattle.hd_volume.specs.Spacing.{HasLeft}
use Rattle.hd_volume.specs.Creates.{IsCreated}
use Rattle.hd_index_blocks.specs.Needs.{entry_growth}
use Rattle.hd_links.specs.Links.{IsSegment, segment_at}
use Rattle.hd_image.specs.Records.{links_of}
use Rattle.hd_image.specs.Holding.{HoldsRows, volume_of}
use Rattle.hd_changes.specs.VolumeImages.{LacksRoomForRow}
use Rattle.hd_unload.specs.Streams.{record_bytes, Spells, IsStreamOf}

-- the blocks that a row may need: one, and for a root those of one entry more
abbrev pub blocks_for : VolumeState → Segment → ℕ
blocks_for v row = 1 + cond (row.code == 1) (entry_growth v) 0

-- A row was loaded: version and largest count stay, each address keeps its segment, and no more blocks were taken than it may need.
pub record IsLoadStep (d : Database) (old : VolumeState) (row : Segment) (new : VolumeState) : Type 0 where
  pub version : (header_of new.image).version ≡ (header_of old.image).version
  pub largest : (header_of new.image).largest ≡ (header_of old.image).largest
  pub stays : (a : ℕ) → IsSegment (links_of d.types old) a → IsSegment (links_of d.types new) a × (segment_at (links_of d.types new) a ≡ segment_at (links_of d.types old) a)
  pub room : spare old ≤ spare new + blocks_for old row

-- A legal load of rows into a new volume of one block came to a volume.
pub record IsLoad (d : Database) (largest : ℕ) (rows : List Segment) (last : VolumeState) : Type 0 where
  pub loadings : List (Loading VolumeState)
  pub rows_are : rows_loaded loadings ≡ rows
  pub new : IsCreated d.name d.block_size largest (image_before loadings last)
  pub legal : IsLegalLoad (HoldsRows d) (IsLoadStep d) d.types [] loadings last

-- The stream has a record with which nothing is wrong, and for which a legal load of just the records before left no room.
pub record IsFullAt (d : Database) (stream : List ℕ) (largest n : ℕ) : Type 0 where
  pub rows : List Segment
  pub row : Segment
  pub rest : List ℕ
  pub spells : Spells d stream rows (record_bytes row ++ rest)
  pub number : n ≡ length rows + 1
  pub fits : row_fits d.types row ≡ true
  pub may : load_fault d.types (last_path d.types rows) row ≡ None
  pub last : VolumeState
  pub load : IsLoad d largest rows last
  pub room : LacksRoomForRow d last row

-- The volume of these bytes leaves the free space of its database, as long as it may grow by two blocks: each block behind block 0 whose
-- number is a multiple of the first number of FRSPC is free, and each data block has no two segments, or so many percent of its bytes free as
-- the second says, rounded down.
abbrev pub LeavesFreeSpace : Database → List ℕ → Type 0
LeavesFreeSpace d image = HasLeft (record (volume_of d image) { spacing = d.frspc })

-- The bytes are a volume of the newest version that holds the rows of the stream and leaves free space, with this largest count, so many segments and
-- so many blocks.
pub record IsReloaded (d : Database) (stream : List ℕ) (largest segments blocks : ℕ) (image : List ℕ) : Type 0 where
  pub rows : List Segment
  pub stream_of : IsStreamOf d stream rows
  pub holds : HoldsRows d (volume_of d image) rows
  pub space : LeavesFreeSpace d image
  pub version : (header_of image).version ≡ NEWEST_VERSION
  pub largest_is : (header_of image).largest ≡ largest
  pub segments_are : segments ≡ length rows
  pub blocks_are : blocks ≡ (header_of image).count

-- the stream is one of rows, so many
abbrev pub HasRecords : Database → List ℕ → ℕ → Type 0
HasRecords d stream n = (rows : List Segment) × IsStreamOf d stream rows × (n ≡ length rows)

-- no one takes these bytes for a volume: there is no block 0, or it is zeros
abbrev pub HasNoHeader : ℕ → List ℕ → Type 0
HasNoHeader size image = (image ≡ []) ⊎ (block_of size image 0 ≡ replicate size 0)
