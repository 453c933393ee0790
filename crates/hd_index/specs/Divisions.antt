-- Blocks taken for an index: a block divided under its parent, a new top, and what is to be known for it.
use Rattle.std.specs.Prelude.{◌≡◌, ◌⊎◌, ◌≢◌, ℕ, suc, ◌+◌, ◌-◌, ◌<◌, ◌≤◌, List, [], ◌∷◌, ◌++◌, false, min, take, drop, length, slice_get, Some}
use Rattle.std.specs.Option.{option_map}
use Rattle.hd_bytes.specs.Numbers.{number_at}
use Rattle.hd_volume.specs.Headers.{header_of}
use Rattle.hd_volume.specs.Rooms.{spare}
use Rattle.hd_volume.specs.Volumes.{VolumeState, block_at, IsKind, IsFormatted}
use Rattle.hd_volume.specs.Entries.{entries_in}
use Rattle.hd_index_blocks.specs.Fields.{below_count}
use Rattle.hd_volume.specs.Indexes.{entry_room}
use Rattle.hd_index_blocks.specs.Ways.{leaf_of}
use Rattle.hd_index_blocks.specs.IndexSets.{index_blocks, top_level, index_entries}
use Rattle.hd_index_blocks.specs.Needs.{is_full, needed_by}
use Rattle.hd_index_blocks.specs.VolumeLaws.{IsRightBlock}
use Rattle.hd_index.specs.EditedBlocks.{Bears}
use Rattle.hd_index.specs.BlockChanges.{IsIndexChange}
use Rattle.hd_index.specs.Blocks.{full_down}
use Rattle.hd_index.specs.Changes.{IsChanged}
use Rattle.hd_index.specs.declared.divisions.Lead.{Lead}
use Rattle.hd_index.specs.declared.divisions.Cut.{Cut}

-- Block p of the level above one, so many steps down from the top where a key leads, has room, and all below it where the key leads are full.
pub record IsLowestRoom (key_length : ℕ) (v : VolumeState) (by : List ℕ) (l p : ℕ) : Type 0 where
  pub steps : ℕ
  pub level : top_level v ≡ steps + suc l
  pub at : p ≡ leaf_of (index_blocks key_length v) by steps (header_of v.image).top
  pub right : IsRightBlock key_length v (suc l) p
  pub full : full_down key_length v by (suc l) p ≡ suc l
  pub free : is_full (index_blocks key_length v) (entry_room key_length v.size) p ≡ false

-- This is an entry of an upper block, at its index among so many.
pub record IsEntryAt (key_length : ℕ) (block : List ℕ) (lead : Lead) : Type 0 where
  pub count : lead.count ≡ number_at 2 block 4
  pub entry : slice_get (entries_in key_length block) lead.index ≡ Some (record { key = take key_length lead.key; address = lead.child })

-- And it is the one that a key leads to.
pub record IsLeadOf (key_length : ℕ) (key block : List ℕ) (lead : Lead) : Type 0 where
  pub at : IsEntryAt key_length block lead
  pub index : lead.index ≡ min (below_count key (entries_in key_length block)) (number_at 2 block 4 - 1)

-- A block may be divided so: it keeps some of its entries, but not all, the last of them with this key.
pub record IsCutOf (key_length : ℕ) (block : List ℕ) (cut : Cut) : Type 0 where
  pub count : cut.count ≡ number_at 2 block 4
  pub some : 0 < cut.half
  pub less : cut.half < cut.count
  pub last : option_map (λ e. e.key) (slice_get (entries_in key_length block) (cut.half - 1)) ≡ Some (take key_length cut.key)
  pub next : cut.next ≡ number_at 4 block 8

-- The block of a level that an entry of block p names was divided: it keeps its first entries, a new block behind it has the others, and p has an
-- entry for each of the two.
pub record IsDividedUnder (key_length : ℕ) (old : VolumeState) (l p : ℕ) (lead : Lead) (cut : Cut) (new : VolumeState) : Type 0 where
  pub block : ℕ
  pub fresh : IsKind old 2 block → ⊥
  pub size : new.size ≡ old.size
  pub formatted : IsFormatted new
  pub others : (b : ℕ) → IsKind old 2 b → b ≢ lead.child → b ≢ p → block_at new b ≡ block_at old b
  pub stay : (b : ℕ) → IsKind old 2 b → IsKind new 2 b
  pub back : (b : ℕ) → IsKind new 2 b → IsKind old 2 b ⊎ (b ≡ block)
  pub low : Bears key_length new l lead.child (take cut.half (entries_in key_length (block_at old lead.child))) block
  pub high : Bears key_length new l block (drop cut.half (entries_in key_length (block_at old lead.child))) cut.next
  pub upper : Bears key_length new (suc l) p
      (take lead.index (entries_in key_length (block_at old p)) ++ (record { key = take key_length cut.key; address = lead.child } ∷ record { key = take key_length lead.key; address = block } ∷ drop (suc lead.index) (entries_in key_length (block_at old p))))
      (number_at 4 (block_at old p) 8)
  pub change : IsIndexChange old 1 new
  pub header : header_of new.image ≡ record (header_of old.image) { count = (header_of new.image).count }
  pub spares : spare old ≤ spare new + 1

-- A new block of a level, with one entry, is the top now; every other index block stays.
pub record IsTopBegun (old : VolumeState) (l : ℕ) (key : List ℕ) (address : ℕ) (new : VolumeState) : Type 0 where
  pub block : ℕ
  pub fresh : IsKind old 2 block → ⊥
  pub size : new.size ≡ old.size
  pub formatted : IsFormatted new
  pub others : (b : ℕ) → IsKind old 2 b → block_at new b ≡ block_at old b
  pub stay : (b : ℕ) → IsKind old 2 b → IsKind new 2 b
  pub back : (b : ℕ) → IsKind new 2 b → IsKind old 2 b ⊎ (b ≡ block)
  pub bears : Bears (length key) new l block (record { key = key; address = address } ∷ []) 0
  pub change : IsIndexChange old 1 new
  pub header : header_of new.image ≡ record (header_of old.image) { count = (header_of new.image).count; top = block; height = suc l }
  pub spares : spare old ≤ spare new + 1

-- One of the blocks was taken that an entry needs where a key leads; the entries are the same.
pub record IsRoomMade (key_length : ℕ) (old : VolumeState) (by : List ℕ) (new : VolumeState) : Type 0 where
  pub changed : IsChanged key_length old (index_entries key_length old) 1 new
  pub some : 0 < (header_of new.image).top
  pub less : needed_by key_length new by + 1 ≡ needed_by key_length old by
