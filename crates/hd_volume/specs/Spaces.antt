-- What a volume keeps of its blocks, so that no block is read in vain.
use Rattle.std.specs.Prelude.{◌≡◌, ℕ, ◌+◌, ◌-◌, ◌*◌, ◌/◌, ◌%◌, ◌<◌, ◌≤◌, ◌==◌, ◌&&◌, cond, Bool, IsTrue, List, length, min, slice_index, slice_index_or, vec_len}
use Rattle.std.specs.Vec.{vec_capacity}
use Rattle.hd_block.specs.Walk.{parts_in}
use Rattle.hd_volume.specs.declared.space.Content.{Content}
use Rattle.hd_volume.specs.declared.space.Space.{Space}
use Rattle.hd_bytes.specs.Blocks.{block_of}
use Rattle.hd_volume.specs.Buffers.{Buffered}
use Rattle.hd_volume.specs.Volumes.{VolumeState, kind_of, HasExtents}
use Rattle.hd_volume.specs.Rooms.{free_below, largest_hole}
use Rattle.hd_volume.specs.declared.load.TheConstants.{MOST_BLOCKS}
use Rattle.hd_volume.specs.declared.spacing.TheConstants.{MOST_CALLS}
use Rattle.hd_dbd.specs.declared.facts.SegmentSize.{SegmentSize}
use Rattle.hd_dbd.specs.declared.hierarchy.FreeSpace.{FreeSpace}
use Rattle.hd_block.specs.Sizes.{size_at}

-- the volume that blocks and stored sizes are, which keeps so much free, with room for so many calls
abbrev pub volume_of : Buffered → List SegmentSize → FreeSpace → ℕ → VolumeState
volume_of b sizes spacing room = record { image = b.image; stored = b.stored; is_sound = b.is_sound; failures = b.failures; room = room; committed = b.committed; size = b.size; sizes = sizes; spacing = spacing }

-- nothing is to be kept free
abbrev pub is_plain : FreeSpace → Bool
is_plain spacing = spacing.fbff == 0 && spacing.fspf == 0

-- For so many calls room by so many blocks is enough: a call may grow by two where some are kept free, and else by one.
abbrev pub calls_for : FreeSpace → ℕ → ℕ
calls_for spacing blocks = cond (is_plain spacing) blocks (min (blocks / 2) MOST_CALLS)

-- so many calls that grow find memory, in the store and for what is kept of each block
abbrev pub room_for : FreeSpace → ℕ → ℕ → ℕ → ℕ
room_for spacing store_room len capacity = calls_for spacing (min store_room (capacity - len))

-- how many blocks of an image are looked at: the whole ones, at most 65,536
abbrev pub blocks_in : ℕ → List ℕ → ℕ
blocks_in size image = min (length image / size) MOST_BLOCKS

-- what is kept of block n
abbrev pub content_at : Space → ℕ → Content
content_at space n = slice_index_or space.contents.items n (record { kind = 0; hole = 0 })

-- What is kept of a block is its kind and, of a data block, a length that no hole of it exceeds.
pub record IsContent (sizes : List SegmentSize) (block : List ℕ) (content : Content) : Type 0 where
  pub kind_is : content.kind ≡ kind_of block
  pub bound : content.kind ≡ 1 → largest_hole (parts_in sizes block) ≤ content.hole

-- What is kept is true: of each block behind block 0; for each multiple of 8, that no data block below the lowest has a hole of so
-- many bytes; the number of free blocks; and that none is free below the lowest.
pub record IsSpaceOf (size : ℕ) (sizes : List SegmentSize) (image : List ℕ) (space : Space) : Type 0 where
  pub len : vec_len space.contents ≡ blocks_in size image
  pub contents : (n : ℕ) → 0 < n → n < blocks_in size image → IsContent sizes (block_of size image n) (content_at space n)
  pub lowest : (k n : ℕ) → 0 < n → n < slice_index space.lowest.items k → n < blocks_in size image → (content_at space n).kind ≡ 1 → (content_at space n).hole < 8 * k
  pub free : space.free ≡ free_below size image (blocks_in size image)
  pub lowest_free : (n : ℕ) → 0 < n → n < space.lowest_free → n < blocks_in size image → kind_of (block_of size image n) ≡ 3 → ⊥

-- each data block that is looked at is divided into free elements and segments
abbrev pub AreDivided : List SegmentSize → ℕ → List ℕ → Type 0
AreDivided sizes size image =
    (n : ℕ) → 0 < n → n < blocks_in size image → kind_of (block_of size image n) ≡ 1 → HasExtents sizes (block_of size image n)

-- Sizes: whatever a segment takes fits into a block behind its first 8 bytes, and is a multiple of 8.
pub record AreSizes (size : ℕ) (sizes : List SegmentSize) : Type 0 where
  pub fit : (bytes : List ℕ) (place : ℕ) → size_at sizes bytes place + 8 ≤ size
  pub whole : (bytes : List ℕ) (place : ℕ) → size_at sizes bytes place % 8 ≡ 0

-- what a volume keeps
pub record IsKeptVolume (size : ℕ) (sizes : List SegmentSize) (image : List ℕ) (is_sound : Bool) (space : Space) : Type 0 where
  pub least : 128 ≤ size
  pub most : size ≤ 32768
  pub eighths : size % 8 ≡ 0
  pub fits : AreSizes size sizes
  pub small : vec_len space.contents ≤ MOST_BLOCKS
  pub true_of : IsTrue is_sound → IsSpaceOf size sizes image space

-- the tables keep their lengths and capacities, and the number of free blocks stays
pub record KeepsTables (old new : Space) : Type 0 where
  pub len : vec_len new.contents ≡ vec_len old.contents
  pub capacity : vec_capacity new.contents ≡ vec_capacity old.contents
  pub free : new.free ≡ old.free

-- Some block that is looked at is for data and has a hole of at least this size.
pub record IsSeen (sizes : List SegmentSize) (size : ℕ) (image : List ℕ) (need : ℕ) : Type 0 where
  pub block : ℕ
  pub later : 0 < block
  pub below : block < blocks_in size image
  pub is_data : kind_of (block_of size image block) ≡ 1
  pub large : need ≤ largest_hole (parts_in sizes (block_of size image block))

-- block n is for data, and has a hole of at least so many bytes
abbrev pub HasHoleIn : List SegmentSize → ℕ → List ℕ → ℕ → ℕ → Type 0
HasHoleIn sizes size image need n = (kind_of (block_of size image n) ≡ 1) × (need ≤ largest_hole (parts_in sizes (block_of size image n)))

-- block n is looked at, and is such a block
abbrev pub IsSeenAt : List SegmentSize → ℕ → List ℕ → ℕ → ℕ → Type 0
IsSeenAt sizes size image need n =
    (0 < n) × (n < blocks_in size image) × (kind_of (block_of size image n) ≡ 1) × (need ≤ largest_hole (parts_in sizes (block_of size image n)))

-- no data block that is looked at has a hole of so many bytes
abbrev pub NoneIsSeen : List SegmentSize → ℕ → List ℕ → ℕ → Type 0
NoneIsSeen sizes size image need =
    (n : ℕ) → 0 < n → n < blocks_in size image → kind_of (block_of size image n) ≡ 1 → largest_hole (parts_in sizes (block_of size image n)) < need

-- no block from the lowest that may be free to before a number is kept as free
abbrev pub NoneIsFreeBelow : Space → ℕ → Type 0
NoneIsFreeBelow space end = (m : ℕ) → 0 < m → space.lowest_free ≤ m → m < end → (content_at space m).kind ≡ 3 → ⊥

-- the block of a number is kept as free, none before it is, and it is now the lowest that may be
abbrev pub IsLowestFree : Space → ℕ → Space → Type 0
IsLowestFree old n new =
    (n < vec_len old.contents) × ((content_at old n).kind ≡ 3) × (new.lowest_free ≡ n) × NoneIsFreeBelow old n
