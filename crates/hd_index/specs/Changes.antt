-- The index of a database's volume, and what a change of it leaves.
use Rattle.std.specs.Prelude.{◌≡◌, ◌≢◌, ℕ, ◌+◌, ◌≤◌, List, IsTrue, Result, IfOk}
use Rattle.hd_dbd.specs.Hierarchy.{Database}
use Rattle.hd_dbd.specs.declared.answer.Refused.{Refused}
use Rattle.hd_volume.specs.Headers.{header_of}
use Rattle.hd_volume.specs.Rooms.{spare}
use Rattle.hd_volume.specs.Volumes.{VolumeState}
use Rattle.hd_volume.specs.Entries.{Entry}
use Rattle.hd_volume.specs.Indexes.{root_key_length}
use Rattle.hd_index_blocks.specs.IndexSets.{index_entries, HasIndexSet}
use Rattle.hd_index_blocks.specs.Maps.{with_entry, without_key, with_address}
pub use Rattle.hd_index.specs.BlockChanges.{IsIndexChange}

-- The volume is of version 2 or later: its index, if it has one, is an index set.
abbrev pub IsLater : VolumeState → Type 0
IsLater v = (header_of v.image).version ≢ 1

-- The volume is of the database's block size, and has an index set for its root keys.
pub record IsIndexOf (d : Database) (v : VolumeState) : Type 0 where
  pub size : v.size ≡ d.block_size
  pub index : HasIndexSet (root_key_length d.types) v

-- the entries of the index of a database's volume, from left to right
abbrev pub entries_for : Database → VolumeState → List Entry
entries_for d v = index_entries (root_key_length d.types) v

-- The volume has an index set with these entries; the rest of it is as the change of an index leaves it.
pub record IsChanged (key_length : ℕ) (old : VolumeState) (es : List Entry) (more : ℕ) (new : VolumeState) : Type 0 where
  pub size : new.size ≡ old.size
  pub index : HasIndexSet key_length new
  pub entries : index_entries key_length new ≡ es
  pub change : IsIndexChange old more new
  pub spares : spare old ≤ spare new + more

-- A new key was entered with its address, for which at most so many blocks were taken.
abbrev pub IsKeyEntered : ℕ → VolumeState → List ℕ → ℕ → ℕ → VolumeState → Type 0
IsKeyEntered key_length old key address more new = IsChanged key_length old (with_entry (record { key = key; address = address }) (index_entries key_length old)) more new

-- A key was taken out, and no block was taken.
abbrev pub IsKeyRemoved : ℕ → VolumeState → List ℕ → VolumeState → Type 0
IsKeyRemoved key_length old key new = IsChanged key_length old (without_key key (index_entries key_length old)) 0 new

-- The address at a key was set, where the index has it: no block was taken or became free, and the header stays.
pub record IsKeySet (key_length : ℕ) (old : VolumeState) (key : List ℕ) (address : ℕ) (new : VolumeState) : Type 0 where
  pub changed : IsChanged key_length old (with_address key address (index_entries key_length old)) 0 new
  pub spares : spare new ≡ spare old
  pub header : header_of new.image ≡ header_of old.image

-- the fact holds of what a call answers that is not refused, where the volume's store was sound
abbrev pub WhereSound : {A : Type 0} → VolumeState → Result A Refused → (A → Type 0) → Type 0
WhereSound v result fact = IfOk result (λ r. IsTrue v.is_sound → fact r)
