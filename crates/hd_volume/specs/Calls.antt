-- What the calls of a volume do to it.
use Rattle.std.specs.Prelude.{◌≡◌, ◌≢◌, ◌⊎◌, ℕ, ◌+◌, ◌-◌, ◌/◌, ◌<◌, ◌≤◌, IsTrue, List, length, Some, None, Result, slice_index}
use Rattle.hd_bytes.specs.Blocks.{HasBlock}
use Rattle.hd_bytes.specs.Ranges.{with_bytes, AgreeOn}
use Rattle.hd_dbd.specs.declared.answer.Refused.{Refused}
use Rattle.hd_dbd.specs.declared.hierarchy.FreeSpace.{FreeSpace}
use Rattle.hd_stores.specs.Stores.{CountsDevice, StaysSound}
use Rattle.hd_volume.specs.Images.{ChangesBlock, KeepsFirst}
use Rattle.hd_volume.specs.Headers.{Header, header_of}
use Rattle.hd_volume.specs.Volumes.{VolumeState, block_at, kind_of, IsKind, IsFormatted}
use Rattle.hd_volume.specs.Records.{find}
use Rattle.hd_volume.specs.Rooms.{spare, HasHole}
use Rattle.hd_volume.specs.Spacing.{IsPlain, HasBytesFree, LeavesSpace}
use Rattle.hd_block.specs.Sizes.{size_at}

-- What every call does but a flush and a commit: Device is answered exactly where a failed access was counted; what a crash leaves and the sizes stay; and
-- while the store is sound, its own block 0 stays. A volume that keeps nothing free keeps nothing free afterwards; and what one is to keep free
-- afterwards is free then, unless it was to be before and was not.
pub record IsCall {T : Type 0} (old : VolumeState) (result : Result T Refused) (new : VolumeState) : Type 0 where
  pub counts : CountsDevice result old.failures new.failures
  pub sound : StaysSound result old.is_sound new.is_sound
  pub committed : new.committed ≡ old.committed
  pub size : new.size ≡ old.size
  pub sizes : new.sizes ≡ old.sizes
  pub first : IsTrue new.is_sound → KeepsFirst old.size old.stored new.stored
  pub plain : IsPlain old → IsPlain new
  pub space : (spacing : FreeSpace) → LeavesSpace spacing old → LeavesSpace spacing new

-- A call that changes nothing of the image; where the store has all of it, so it does afterwards.
pub record IsRead {T : Type 0} (old : VolumeState) (result : Result T Refused) (new : VolumeState) : Type 0 where
  pub call : IsCall old result new
  pub image : IsTrue new.is_sound → new.image ≡ old.image
  pub stands : IsTrue new.is_sound → old.stored ≡ old.image → new.stored ≡ new.image
  pub room : new.room ≡ old.room

-- there is a segment of at least n bytes at an address
pub record HasSegment (v : VolumeState) (address n : ℕ) : Type 0 where
  pub bytes : List ℕ
  pub is : find v address ≡ Some bytes
  pub long : n ≤ length bytes

-- with these bytes written into it, the segment at an address takes as many as before
abbrev pub KeepsSize : VolumeState → ℕ → ℕ → List ℕ → Type 0
KeepsSize v address offset bytes = (s : List ℕ) → find v address ≡ Some s → size_at v.sizes (with_bytes s offset bytes) 0 ≡ length s

-- all segments but the one at an address, if there is one, stay where they are
abbrev pub KeepsOthers : VolumeState → VolumeState → ℕ → Type 0
KeepsOthers old new address = (b : ℕ) → b ≢ address → find new b ≡ find old b

-- all segments stay where they are
abbrev pub KeepsSegments : VolumeState → VolumeState → Type 0
KeepsSegments old new = (b : ℕ) → find new b ≡ find old b

-- every index block stays as it is
abbrev pub KeepsIndex : VolumeState → VolumeState → Type 0
KeepsIndex old new = (n : ℕ) → IsKind old 2 n → block_at new n ≡ block_at old n

-- where there was a hole of some size, there still is one as large
abbrev pub KeepsHoles : VolumeState → VolumeState → Type 0
KeepsHoles old new = (n : ℕ) → HasHole old n → HasHole new n

-- a data block that had no two segments, or so many bytes free, still has
abbrev pub KeepsFree : VolumeState → VolumeState → ℕ → Type 0
KeepsFree old new n = (need : ℕ) → HasBytesFree old.sizes need (block_at old n) → HasBytesFree new.sizes need (block_at new n)

-- so many bytes at a place of a block are 0
abbrev pub AreZero : ℕ → ℕ → List ℕ → Type 0
AreZero place n block = (k : ℕ) → place ≤ k → k < place + n → slice_index block k ≡ 0

-- bytes 3 to 7 of a block stay
abbrev pub KeepsUnused : VolumeState → VolumeState → ℕ → Type 0
KeepsUnused old new n = AgreeOn 3 5 (block_at old n) (block_at new n)

-- Bytes 3 to 7 of block n, which is for data now, are those that it had where it was for data before; where it was not, they are 0.
abbrev pub HasUnused : VolumeState → VolumeState → ℕ → Type 0
HasUnused old new n = (IsKind old 1 n → KeepsUnused old new n) × ((IsKind old 1 n → ⊥) → AreZero 3 5 (block_at new n))

-- Bytes were written into the segment at an address, in its block alone.
pub record IsWritten (old : VolumeState) (address offset : ℕ) (bytes : List ℕ) (new : VolumeState) : Type 0 where
  pub formatted : IsFormatted new
  pub is : (s : List ℕ) → find old address ≡ Some s → find new address ≡ Some (with_bytes s offset bytes)
  pub others : KeepsOthers old new address
  pub block : ChangesBlock old.size (address / old.size) old.image new.image
  pub kinds : (n : ℕ) → kind_of (block_at new n) ≡ kind_of (block_at old n)
  pub header : header_of new.image ≡ header_of old.image
  pub spares : spare new ≡ spare old
  pub holes : KeepsHoles old new
  pub free : KeepsFree old new (address / old.size)
  pub unused : KeepsUnused old new (address / old.size)

-- The segment at an address was freed, in its block alone, which stays a data block; its bytes are room again.
pub record IsFreed (old : VolumeState) (address : ℕ) (new : VolumeState) : Type 0 where
  pub formatted : IsFormatted new
  pub gone : find new address ≡ None
  pub others : KeepsOthers old new address
  pub block : ChangesBlock old.size (address / old.size) old.image new.image
  pub kinds : (n : ℕ) → kind_of (block_at new n) ≡ kind_of (block_at old n)
  pub header : header_of new.image ≡ header_of old.image
  pub spares : spare new ≡ spare old
  pub hole : (s : List ℕ) → find old address ≡ Some s → HasHole new (length s)
  pub holes : KeepsHoles old new
  pub free : KeepsFree old new (address / old.size)
  pub unused : KeepsUnused old new (address / old.size)

-- block n is the last of a volume, which has grown by it, or by it and the one before it
abbrev pub IsLast : VolumeState → ℕ → VolumeState → Type 0
IsLast old n new = ((header_of new.image).count ≡ n + 1) × ((header_of old.image).count ≤ n) × (n ≤ (header_of old.image).count + 1)

-- The volume has not grown, or it has by block n, before which one may have been passed over: that one is free.
pub record MayGrow (old : VolumeState) (n : ℕ) (new : VolumeState) : Type 0 where
  pub count : ((header_of new.image).count ≡ (header_of old.image).count) ⊎ IsLast old n new
  pub passed : (m : ℕ) → (header_of old.image).count ≤ m → m < (header_of new.image).count → m ≢ n → IsKind new 3 m
  pub header : header_of new.image ≡ record (header_of old.image) { count = (header_of new.image).count }

-- a volume that keeps nothing free has grown by one block at most
abbrev pub GrowsByOne : VolumeState → VolumeState → Type 0
GrowsByOne old new = IsPlain old → (header_of new.image).count ≤ (header_of old.image).count + 1

-- A segment was put at an address where there was none, in a block that was for data, was free, or is new; no other block
-- but block 0 has changed. A hole of its size is used where there is one and the volume keeps nothing free.
pub record IsPut (old : VolumeState) (address : ℕ) (bytes : List ℕ) (new : VolumeState) : Type 0 where
  pub formatted : IsFormatted new
  pub place : IsKind old 1 (address / old.size) ⊎ IsKind old 3 (address / old.size) ⊎ ((header_of old.image).count ≤ address / old.size)
  pub blocks : (m : ℕ) → HasBlock old.size old.image m → 0 < m → m ≢ address / old.size → block_at new m ≡ block_at old m
  pub was : find old address ≡ None
  pub is : find new address ≡ Some bytes
  pub others : KeepsOthers old new address
  pub index : KeepsIndex old new
  pub grows : MayGrow old (address / old.size) new
  pub by_one : GrowsByOne old new
  pub spares : spare old ≤ spare new + 1
  pub in_hole : IsPlain old → HasHole old (length bytes) → spare new ≡ spare old
  pub holes : (n : ℕ) → length bytes < n → HasHole old n → HasHole new (n - length bytes)
  pub unused : HasUnused old new (address / old.size)

-- The segment at an address was replaced by another, which stands at an address: the same one, or a new one where it does not fit
-- into the place of the old one, which then is room again. A hole of its size is used where there is one and the volume keeps nothing free.
pub record IsRewritten (old : VolumeState) (address to : ℕ) (bytes : List ℕ) (new : VolumeState) : Type 0 where
  pub formatted : IsFormatted new
  pub is : find new to ≡ Some bytes
  pub gone : to ≢ address → (find old to ≡ None) × (find new address ≡ None)
  pub stays : (s : List ℕ) → find old address ≡ Some s → length bytes ≤ length s → to ≡ address
  pub moves : (s : List ℕ) → find old address ≡ Some s → length s < length bytes → to ≢ address
  pub others : (b : ℕ) → b ≢ address → b ≢ to → find new b ≡ find old b
  pub index : KeepsIndex old new
  pub data_block : IsKind new 1 (address / old.size)
  pub place : to ≢ address → IsKind old 1 (to / old.size) ⊎ IsKind old 3 (to / old.size) ⊎ ((header_of old.image).count ≤ to / old.size)
  pub blocks : (m : ℕ) → HasBlock old.size old.image m → 0 < m → m ≢ address / old.size → m ≢ to / old.size → block_at new m ≡ block_at old m
  pub grows : MayGrow old (to / old.size) new
  pub by_one : GrowsByOne old new
  pub spares : spare old ≤ spare new + 1
  pub in_hole : IsPlain old → HasHole old (length bytes) → spare new ≡ spare old
  pub in_place : to ≡ address → (spare new ≡ spare old) × KeepsHoles old new
  pub free : to ≡ address → KeepsFree old new (address / old.size)
  pub holes : (n : ℕ) → length bytes < n → HasHole old n → HasHole new (n - length bytes)
  pub unused : HasUnused old new (to / old.size)

-- Block n, which was free or is new, is an index block of a level; its count and its next block are 0.
pub record IsTakenBlock (old : VolumeState) (n level : ℕ) (new : VolumeState) : Type 0 where
  pub formatted : IsFormatted new
  pub was : (IsKind old 3 n) ⊎ ((header_of old.image).count ≤ n)
  pub is : IsKind new 2 n
  pub level_is : slice_index (block_at new n) 3 ≡ level
  pub empty : (k : ℕ) → 4 ≤ k → k < 12 → slice_index (block_at new n) k ≡ 0
  pub others : (m : ℕ) → HasBlock old.size old.image m → 0 < m → m ≢ n → block_at new m ≡ block_at old m
  pub segments : KeepsSegments old new
  pub index : KeepsIndex old new
  pub grows : MayGrow old n new
  pub by_one : GrowsByOne old new
  pub spares : spare old ≡ spare new + 1
  pub holes : KeepsHoles old new

-- Index block n has become a free block.
pub record IsGivenBlock (old : VolumeState) (n : ℕ) (new : VolumeState) : Type 0 where
  pub formatted : IsFormatted new
  pub was : IsKind old 2 n
  pub is : IsKind new 3 n
  pub block : ChangesBlock old.size n old.image new.image
  pub segments : KeepsSegments old new
  pub header : header_of new.image ≡ header_of old.image
  pub spares : spare new ≡ spare old + 1
  pub holes : KeepsHoles old new

-- The header has these fields, and all blocks but block 0 stay.
pub record HasNewHeader (old : VolumeState) (header : Header) (new : VolumeState) : Type 0 where
  pub formatted : IsFormatted old → IsFormatted new
  pub is : header_of new.image ≡ header
  pub block : ChangesBlock old.size 0 old.image new.image
  pub segments : KeepsSegments old new
  pub spares : spare new ≡ spare old
  pub holes : KeepsHoles old new

-- Bytes were written into index block n.
pub record IsWrittenBlock (old : VolumeState) (n offset : ℕ) (bytes : List ℕ) (new : VolumeState) : Type 0 where
  pub formatted : IsFormatted new
  pub is : IsKind new 2 n
  pub value : block_at new n ≡ with_bytes (block_at old n) offset bytes
  pub block : ChangesBlock old.size n old.image new.image
  pub segments : KeepsSegments old new
  pub header : header_of new.image ≡ header_of old.image
  pub spares : spare new ≡ spare old
  pub holes : KeepsHoles old new
