-- A new block of the sequence set behind the last one, with the new entry alone.
use Rattle.std.specs.Prelude.{◌≡◌, ◌⊎◌, ◌≢◌, ℕ, suc, ◌+◌, ◌≤◌, List, [], ◌∷◌, ◌++◌, take, drop}
use Rattle.hd_bytes.specs.Numbers.{number_at}
use Rattle.hd_volume.specs.Headers.{header_of}
use Rattle.hd_volume.specs.Rooms.{spare}
use Rattle.hd_volume.specs.Volumes.{VolumeState, block_at, IsKind, IsFormatted}
use Rattle.hd_volume.specs.Entries.{Entry, entries_in}
use Rattle.hd_index.specs.EditedBlocks.{Bears}
use Rattle.hd_index.specs.BlockChanges.{IsIndexChange}
use Rattle.hd_index.specs.declared.divisions.Lead.{Lead}

-- A new block with one entry stands behind the block of the sequence set that an entry of block p names: p has an entry for each of the two, the
-- first with the last key of the old block.
pub record IsHungBehind (key_length : ℕ) (old : VolumeState) (p : ℕ) (lead : Lead) (last : List ℕ) (new_entry : Entry) (new : VolumeState) : Type 0 where
  pub block : ℕ
  pub fresh : IsKind old 2 block → ⊥
  pub size : new.size ≡ old.size
  pub formatted : IsFormatted new
  pub others : (b : ℕ) → IsKind old 2 b → b ≢ lead.child → b ≢ p → block_at new b ≡ block_at old b
  pub stay : (b : ℕ) → IsKind old 2 b → IsKind new 2 b
  pub back : (b : ℕ) → IsKind new 2 b → IsKind old 2 b ⊎ (b ≡ block)
  pub low : Bears key_length new 0 lead.child (entries_in key_length (block_at old lead.child)) block
  pub high : Bears key_length new 0 block (new_entry ∷ []) 0
  pub upper : Bears key_length new 1 p
      (take lead.index (entries_in key_length (block_at old p)) ++ (record { key = last; address = lead.child } ∷ record { key = take key_length lead.key; address = block } ∷ drop (suc lead.index) (entries_in key_length (block_at old p))))
      (number_at 4 (block_at old p) 8)
  pub change : IsIndexChange old 1 new
  pub header : header_of new.image ≡ record (header_of old.image) { count = (header_of new.image).count }
  pub spares : spare old ≤ spare new + 1
