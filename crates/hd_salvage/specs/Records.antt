-- The records of a volume, whatever its bytes are: what a salvage may take from it.
use Rattle.std.specs.Prelude.{◌≡◌, ℕ, ◌<◌, List, [], ◌∷◌, ◌++◌, length, Some, All}
use Rattle.hd_bytes.specs.Blocks.{HasBlock}
use Rattle.hd_block.specs.Walk.{parts_in}
use Rattle.hd_dbd.specs.declared.facts.SegmentSize.{SegmentSize}
use Rattle.hd_dbd.specs.Hierarchy.{Database}
use Rattle.hd_links.specs.Placed.{Placed}
use Rattle.hd_volume.specs.Volumes.{VolumeState, block_at, kind_of}
use Rattle.hd_volume.specs.Records.{find, used_at}
use Rattle.hd_unload.specs.Streams.{stored_row}
use Rattle.hd_salvage.specs.declared.record.Record.{Record}

-- A row is the record at an address of a volume: there, in a data block, stands a segment to which a reader of the block comes from its front, and
-- its type and bytes are the row's.
pub record IsRecordAt (d : Database) (v : VolumeState) (p : Placed) : Type 0 where
  pub stored : List ℕ
  pub there : find v p.address ≡ Some stored
  pub is : p.segment ≡ stored_row d.types stored

-- A segment was noted: among the parts of a data block, read from its front, one of its size stands at its place.
pub record IsNotedIn (sizes : List SegmentSize) (block : List ℕ) (r : Record) : Type 0 where
  pub kind : kind_of block ≡ 1
  pub used : used_at (parts_in sizes block) r.place ≡ Some r.size
  pub inside : r.place < length block

-- A segment was noted in a whole block of a volume behind block 0.
pub record IsNoted (v : VolumeState) (r : Record) : Type 0 where
  pub later : 0 < r.block
  pub there : HasBlock v.size v.image r.block
  pub noted : IsNotedIn v.sizes (block_at v r.block) r

-- Segments of block n alone were noted, behind those that were there.
pub record NotesOnly (sizes : List SegmentSize) (block : List ℕ) (n : ℕ) (old new : List Record) : Type 0 where
  pub more : List Record
  pub are : new ≡ old ++ more
  pub of : All (λ r. r.block ≡ n) more
  pub noted : All (IsNotedIn sizes block) more

-- One segment of block n was noted, by its place and its size.
pub record NotesOne (n place size : ℕ) (old new : List Record) : Type 0 where
  pub one : Record
  pub are : new ≡ old ++ one ∷ []
  pub of : one.block ≡ n
  pub place_is : one.place ≡ place
  pub size_is : one.size ≡ size
