-- Changes of index blocks.
use Rattle.std.specs.Prelude.{◌≡◌, ◌≢◌, ◌⊎◌, ℕ, ◌+◌, ◌≤◌, IsTrue, List, [], ◌∷◌, take, drop, length}
use Rattle.hd_dbd.specs.declared.answer.Refused.{Refused}
use Rattle.hd_dbd.specs.declared.answer.Refused.TheVariants.{Memory, Full, Device}
use Rattle.hd_bytes.specs.Numbers.{number_at}
use Rattle.hd_volume.specs.Images.{ChangesBlock}
use Rattle.hd_volume.specs.Headers.{header_of}
use Rattle.hd_volume.specs.Volumes.{VolumeState, block_at, IsKind, IsFormatted}
use Rattle.hd_volume.specs.Rooms.{spare, HasFreeBlock}
use Rattle.hd_volume.specs.Calls.{KeepsSegments, KeepsHoles}
use Rattle.hd_volume.specs.Entries.{Entry, entries_in}
use Rattle.hd_index.specs.EditedBlocks.{level_of, Bears, with_entry_at, without_entry_at, with_key_at, with_address_at}
use Rattle.hd_index.specs.BlockChanges.{IsIndexChange}

-- Index block n may have changed, and nothing else has.
pub record IsEdit (old : VolumeState) (n : ℕ) (new : VolumeState) : Type 0 where
  pub size : new.size ≡ old.size
  pub sizes : new.sizes ≡ old.sizes
  pub formatted : IsFormatted new
  pub was : IsKind old 2 n
  pub is : IsKind new 2 n
  pub block : ChangesBlock old.size n old.image new.image
  pub segments : KeepsSegments old new
  pub header : header_of new.image ≡ header_of old.image
  pub spares : spare new ≡ spare old
  pub holes : KeepsHoles old new

-- Index block n has these bytes, and nothing else has changed.
pub record HasNewBytes (old : VolumeState) (n : ℕ) (bytes : List ℕ) (new : VolumeState) : Type 0 where
  pub edit : IsEdit old n new
  pub value : block_at new n ≡ bytes

-- Index block n bears these entries and names this block behind it; it is of the level that it was, and nothing else has changed.
pub record HasNewEntries (key_length : ℕ) (old : VolumeState) (n : ℕ) (es : List Entry) (next : ℕ) (new : VolumeState) : Type 0 where
  pub edit : IsEdit old n new
  pub bears : Bears key_length new (level_of (block_at old n)) n es next

-- Index block n has changed, index block m has changed or come, and no other: the volume has grown by at most so many blocks.
pub record IsIndexStep (old : VolumeState) (n m more : ℕ) (new : VolumeState) : Type 0 where
  pub size : new.size ≡ old.size
  pub sizes : new.sizes ≡ old.sizes
  pub formatted : IsFormatted new
  pub others : (b : ℕ) → IsKind old 2 b → b ≢ n → b ≢ m → block_at new b ≡ block_at old b
  pub stay : (b : ℕ) → IsKind old 2 b → IsKind new 2 b
  pub back : (b : ℕ) → IsKind new 2 b → IsKind old 2 b ⊎ (b ≡ m)
  pub change : IsIndexChange old more new
  pub header : header_of new.image ≡ record (header_of old.image) { count = (header_of new.image).count }
  pub spares : spare old ≤ spare new + more

-- The entries of block n of a level from an index on have gone to block m, which is new and stands behind it; behind that stands a block.
pub record IsHalved (key_length : ℕ) (old : VolumeState) (l n m half next : ℕ) (new : VolumeState) : Type 0 where
  pub apart : m ≢ n
  pub fresh : IsKind old 2 m → ⊥
  pub step : IsIndexStep old n m 1 new
  pub low : Bears key_length new l n (take half (entries_in key_length (block_at old n))) m
  pub high : Bears key_length new l m (drop half (entries_in key_length (block_at old n))) next

-- Block m of a level is new, with one entry, and names this block behind it.
pub record IsBegun (old : VolumeState) (l m : ℕ) (key : List ℕ) (address next : ℕ) (new : VolumeState) : Type 0 where
  pub fresh : IsKind old 2 m → ⊥
  pub step : IsIndexStep old m m 1 new
  pub bears : Bears (length key) new l m (record { key = key; address = address } ∷ []) next

-- A change that needed a block was refused: nothing was changed, for want of blocks or of memory, or an access failed.
pub record IsRefused (old : VolumeState) (e : Refused) (new : VolumeState) : Type 0 where
  pub kept : IsTrue new.is_sound → new.image ≡ old.image
  pub full : e ≡ Full → IsTrue old.is_sound → spare old ≡ 0
  pub memory : e ≡ Memory → old.room ≡ 0
  pub no_free : e ≡ Memory → IsTrue old.is_sound → HasFreeBlock old → ⊥
  pub refusal : (e ≡ Memory) ⊎ (e ≡ Full) ⊎ (e ≡ Device)

-- ---- one entry

-- An entry was put into block n, before the one at an index.
abbrev pub IsEntryAdded : VolumeState → ℕ → ℕ → List ℕ → ℕ → VolumeState → Type 0
IsEntryAdded old n index key address new =
    HasNewEntries (length key) old n (with_entry_at index (record { key = key; address = address }) (entries_in (length key) (block_at old n)))
    (number_at 4 (block_at old n) 8) new

-- The entry at an index was taken out of block n.
abbrev pub IsEntryRemoved : ℕ → VolumeState → ℕ → ℕ → VolumeState → Type 0
IsEntryRemoved key_length old n index new =
    HasNewEntries key_length old n (without_entry_at index (entries_in key_length (block_at old n))) (number_at 4 (block_at old n) 8) new

-- The entry at an index of block n has another key.
abbrev pub IsKeyChanged : VolumeState → ℕ → ℕ → List ℕ → VolumeState → Type 0
IsKeyChanged old n index key new =
    HasNewEntries (length key) old n (with_key_at index key (entries_in (length key) (block_at old n))) (number_at 4 (block_at old n) 8) new

-- The entry at an index of block n has another address.
abbrev pub IsAddressChanged : ℕ → VolumeState → ℕ → ℕ → ℕ → VolumeState → Type 0
IsAddressChanged key_length old n index address new =
    HasNewEntries key_length old n (with_address_at index address (entries_in key_length (block_at old n))) (number_at 4 (block_at old n) 8) new

-- Block n names another block behind it.
abbrev pub IsNextChanged : ℕ → VolumeState → ℕ → ℕ → VolumeState → Type 0
IsNextChanged key_length old n next new = HasNewEntries key_length old n (entries_in key_length (block_at old n)) next new
