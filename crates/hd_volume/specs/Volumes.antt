-- What callers see of a volume, and its kinds of block.
use Rattle.std.specs.Prelude.{◌≡◌, ◌⊎◌, ℕ, ◌<◌, Bool, List, slice_index}
use Rattle.hd_bytes.specs.Blocks.{block_of, HasBlock}
use Rattle.hd_block.specs.Extents.{Extent, IsDivided, AreWhole}
use Rattle.hd_stores.specs.Stores.{Committed}
use Rattle.hd_volume.specs.Headers.{HasHeader}
use Rattle.hd_dbd.specs.declared.facts.SegmentSize.{SegmentSize}
use Rattle.hd_dbd.specs.declared.hierarchy.FreeSpace.{FreeSpace}

pub record VolumeState : Type 0 where
  -- all bytes, as they will stand in the store once they are flushed
  pub image : List ℕ
  -- the store's bytes as they stand
  pub stored : List ℕ
  -- the store has returned what was written, and no access has failed
  pub is_sound : Bool
  -- how many accesses have failed
  pub failures : ℕ
  -- so many calls that add a block find memory
  pub room : ℕ
  -- what a crash leaves of the store, at any moment since its last commit
  pub committed : Committed
  -- the bytes of a block, and by code the bytes that the segments of a type take
  pub size : ℕ
  pub sizes : List SegmentSize
  -- what it keeps free as it grows
  pub spacing : FreeSpace

-- the bytes of block n
abbrev pub block_at : VolumeState → ℕ → List ℕ
block_at v n = block_of v.size v.image n

-- the kind of a block: 1 for data, 2 for an index, 3 for a free block
abbrev pub kind_of : List ℕ → ℕ
kind_of block = slice_index block 2

-- block n is one of this kind, behind block 0
pub record IsKind (v : VolumeState) (kind n : ℕ) : Type 0 where
  pub there : HasBlock v.size v.image n
  pub later : 0 < n
  pub kind_is : kind_of (block_at v n) ≡ kind

-- a block is divided into free elements and segments
pub record HasExtents (sizes : List SegmentSize) (block : List ℕ) : Type 0 where
  pub extents : List Extent
  pub divides : IsDivided sizes block extents
  pub whole : AreWhole extents

-- What the calls on segments and blocks ask of a volume: a header, and extents in every data block.
pub record IsFormatted (v : VolumeState) : Type 0 where
  pub header : HasHeader v.size v.image
  pub divided : (n : ℕ) → IsKind v 1 n → HasExtents v.sizes (block_at v n)

-- Each block behind block 0 is one for data, for the index, or free.
abbrev pub HasKinds : VolumeState → Type 0
HasKinds v = (n : ℕ) → HasBlock v.size v.image n → 0 < n → IsKind v 1 n ⊎ IsKind v 2 n ⊎ IsKind v 3 n
