-- The steps of which putting a segment and taking a block are made.
use Rattle.std.specs.Prelude.{◌≡◌, ◌≢◌, ◌⊎◌, ℕ, ◌+◌, ◌-◌, ◌/◌, ◌<◌, ◌≤◌, IsTrue, List, [], ◌∷◌, length, Some, None, Result, slice_index}
use Rattle.hd_bytes.specs.Blocks.{HasBlock}
use Rattle.hd_block.specs.Walk.{parts_in}
use Rattle.hd_dbd.specs.declared.answer.Refused.{Refused}
use Rattle.hd_dbd.specs.declared.facts.SegmentSize.{SegmentSize}
use Rattle.hd_bytes.specs.Blocks.{block_of}
use Rattle.hd_stores.specs.Stores.{CountsDevice, StaysSound}
use Rattle.hd_volume.specs.Images.{ChangesBlock, KeepsFirst}
use Rattle.hd_volume.specs.Headers.{header_of}
use Rattle.hd_volume.specs.Volumes.{VolumeState, block_at, kind_of, IsKind, IsFormatted}
use Rattle.hd_volume.specs.Records.{segment_in, find}
use Rattle.hd_volume.specs.Spacing.{IsPlain, IsLeftOut, bytes_to_leave, free_bytes, HasNoTwo}
use Rattle.hd_volume.specs.Spaces.{blocks_in}
use Rattle.hd_volume.specs.Rooms.{spare, largest_hole, HasHole}
use Rattle.hd_volume.specs.Calls.{KeepsOthers, KeepsSegments, KeepsIndex, KeepsHoles, KeepsUnused, HasUnused, MayGrow, GrowsByOne}

-- What every call does, without a word on what is kept free.
pub record IsStep {T : Type 0} (old : VolumeState) (result : Result T Refused) (new : VolumeState) : Type 0 where
  pub counts : CountsDevice result old.failures new.failures
  pub sound : StaysSound result old.is_sound new.is_sound
  pub committed : new.committed ≡ old.committed
  pub size : new.size ≡ old.size
  pub sizes : new.sizes ≡ old.sizes
  pub first : IsTrue new.is_sound → KeepsFirst old.size old.stored new.stored

-- The volume keeps free what it kept, or nothing any more.
abbrev pub KeepsSpacing : VolumeState → VolumeState → Type 0
KeepsSpacing old new = (new.spacing ≡ old.spacing) ⊎ IsPlain new

-- A data block has a hole of at least n bytes.
pub record HasRoom (v : VolumeState) (n need : ℕ) : Type 0 where
  pub is_data : IsKind v 1 n
  pub large : need ≤ largest_hole (parts_in v.sizes (block_at v n))

-- a block has no segment
abbrev pub HasNone : List SegmentSize → List ℕ → Type 0
HasNone sizes block = (p : ℕ) → segment_in sizes block p ≡ None

-- A segment was put into the hole of data block n.
pub record IsPutIn (old : VolumeState) (n address : ℕ) (bytes : List ℕ) (new : VolumeState) : Type 0 where
  pub formatted : IsFormatted new
  pub at : address / old.size ≡ n
  pub was : find old address ≡ None
  pub is : find new address ≡ Some bytes
  pub others : KeepsOthers old new address
  pub block : ChangesBlock old.size n old.image new.image
  pub header : header_of new.image ≡ header_of old.image
  pub spares : spare new ≡ spare old
  pub holes : (k : ℕ) → length bytes < k → HasHole old k → HasHole new (k - length bytes)
  pub alone : HasNone old.sizes (block_at old n) → HasNoTwo new.sizes (block_at new n)
  pub free : free_bytes (parts_in new.sizes (block_at new n)) + length bytes ≡ free_bytes (parts_in old.sizes (block_at old n))
  pub unused : KeepsUnused old new n

-- Block n is free: it was, and nothing has changed, or the volume has grown by it.
pub record HasFree (old : VolumeState) (n : ℕ) (new : VolumeState) : Type 0 where
  pub formatted : IsFormatted new
  pub is : IsKind new 3 n
  pub was : (IsKind old 3 n) ⊎ ((header_of old.image).count ≤ n)
  pub others : (m : ℕ) → HasBlock old.size old.image m → 0 < m → block_at new m ≡ block_at old m
  pub grows : MayGrow old n new
  pub segments : KeepsSegments old new
  pub spares : spare new ≡ spare old
  pub holes : KeepsHoles old new

-- Free block n has become a block of another kind, with no segment in it.
pub record IsMade (old : VolumeState) (n kind : ℕ) (new : VolumeState) : Type 0 where
  pub formatted : IsFormatted new
  pub is : IsKind new kind n
  pub block : ChangesBlock old.size n old.image new.image
  pub header : header_of new.image ≡ header_of old.image
  pub segments : KeepsSegments old new
  pub spares : spare old ≡ spare new + 1
  pub holes : KeepsHoles old new

-- so many bytes are those of the segment at an address
abbrev pub IsLengthAt : VolumeState → ℕ → ℕ → Type 0
IsLengthAt v address n = (s : List ℕ) → find v address ≡ Some s → n ≡ length s

-- the segment at an address is shorter than these bytes
abbrev pub IsShorter : VolumeState → ℕ → List ℕ → Type 0
IsShorter v address bytes = (s : List ℕ) → find v address ≡ Some s → length s < length bytes

-- the first bytes of a data block with one hole, which begins at offset 8 and whose length has these two bytes
abbrev pub data_head : ℕ → ℕ → List ℕ
data_head high low = 0 ∷ 8 ∷ 1 ∷ 0 ∷ 0 ∷ 0 ∷ 0 ∷ 0 ∷ 0 ∷ 0 ∷ high ∷ low ∷ 0 ∷ 0 ∷ 0 ∷ 0 ∷ []

-- Data block n has room for so many bytes. A hole that was there is used; else a free block or a new one has become it.
pub record IsReady (old : VolumeState) (n need : ℕ) (new : VolumeState) : Type 0 where
  pub formatted : IsFormatted new
  pub place : IsKind old 1 n ⊎ IsKind old 3 n ⊎ ((header_of old.image).count ≤ n)
  pub blocks : (m : ℕ) → HasBlock old.size old.image m → 0 < m → m ≢ n → block_at new m ≡ block_at old m
  pub longer : length old.image ≤ length new.image
  pub room : HasRoom new n need
  pub segments : KeepsSegments old new
  pub index : KeepsIndex old new
  pub grows : MayGrow old n new
  pub by_one : GrowsByOne old new
  pub spares : spare old ≤ spare new + 1
  pub in_hole : IsPlain old → HasHole old need → spare new ≡ spare old
  pub holes : KeepsHoles old new
  pub unused : HasUnused old new n

-- Free block n has become an index block of a level, with no entry and none behind it.
pub record IsMadeIndex (old : VolumeState) (n level : ℕ) (new : VolumeState) : Type 0 where
  pub made : IsMade old n 2 new
  pub level_is : slice_index (block_at new n) 3 ≡ level
  pub empty : (k : ℕ) → 4 ≤ k → k < 12 → slice_index (block_at new n) k ≡ 0

-- a block has no segment, or so many bytes more free than are to be kept
abbrev pub MayTake : List SegmentSize → ℕ → ℕ → List ℕ → Type 0
MayTake sizes leave need block = HasNone sizes block ⊎ (leave + need ≤ free_bytes (parts_in sizes block))

-- data block n has a hole of so many bytes and keeps free what is to be kept, if they are taken
abbrev pub HasSpacedRoom : VolumeState → ℕ → ℕ → Type 0
HasSpacedRoom v need n = HasRoom v n need × MayTake v.sizes (bytes_to_leave v.size v.spacing) need (block_at v n)

-- block n is for data, has a hole of so many bytes, and may take them and leave so many free
abbrev pub HasSpacedHole : List SegmentSize → ℕ → List ℕ → ℕ → ℕ → ℕ → Type 0
HasSpacedHole sizes size image need leave n =
    (kind_of (block_of size image n) ≡ 1) × (need ≤ largest_hole (parts_in sizes (block_of size image n))) × MayTake sizes leave need (block_of size image n)

-- block n is looked at, and is such a block
abbrev pub IsSpacedAt : List SegmentSize → ℕ → List ℕ → ℕ → ℕ → ℕ → Type 0
IsSpacedAt sizes size image need leave n = (0 < n) × (n < blocks_in size image) × HasSpacedHole sizes size image need leave n

-- Where the volume may grow by two blocks, a segment of so many bytes may be put into block n, and what is to be kept free is.
abbrev pub IsOpenFor : VolumeState → ℕ → ℕ → Type 0
IsOpenFor v n need =
    (header_of v.image).count + 2 ≤ (header_of v.image).largest
    → (IsLeftOut v.spacing n → ⊥) × MayTake v.sizes (bytes_to_leave v.size v.spacing) need (block_at v n)
