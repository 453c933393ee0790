-- Index blocks of any level, and what they bear.
use Rattle.std.specs.Prelude.{◌≡◌, ℕ, zero, suc, ◌≤◌, List, [], ◌∷◌, ◌++◌, take, drop, slice_index}
use Rattle.hd_bytes.specs.Numbers.{number_at}
use Rattle.hd_volume.specs.Volumes.{VolumeState, block_at, IsKind}
use Rattle.hd_volume.specs.Entries.{Entry, entries_in}
use Rattle.hd_volume.specs.Indexes.{entry_room}

-- the level of an index block is its byte 3
abbrev pub level_of : List ℕ → ℕ
level_of block = slice_index block 3

-- Block n is an index block of a level, with no more entries than find room.
pub record IsLevelBlock (key_length : ℕ) (v : VolumeState) (l n : ℕ) : Type 0 where
  pub is : IsKind v 2 n
  pub level : level_of (block_at v n) ≡ l
  pub count : number_at 2 (block_at v n) 4 ≤ entry_room key_length v.size

-- The same of its own level, whichever that is.
abbrev pub IsIndexBlock : ℕ → VolumeState → ℕ → Type 0
IsIndexBlock key_length v n = IsLevelBlock key_length v (level_of (block_at v n)) n

-- Index block n of a level bears these entries, and names this block behind it.
pub record Bears (key_length : ℕ) (v : VolumeState) (l n : ℕ) (es : List Entry) (next : ℕ) : Type 0 where
  pub is : IsLevelBlock key_length v l n
  pub entries : entries_in key_length (block_at v n) ≡ es
  pub next_is : number_at 4 (block_at v n) 8 ≡ next

-- ---- entries with a change

-- the entries with one more, before that at an index
abbrev pub with_entry_at : ℕ → Entry → List Entry → List Entry
with_entry_at index new es = take index es ++ (new ∷ drop index es)

-- the entries without that at an index
abbrev pub without_entry_at : ℕ → List Entry → List Entry
without_entry_at index es = take index es ++ drop (suc index) es

-- the entries with another key of that at an index
abbrev pub with_key_at : ℕ → List ℕ → List Entry → List Entry
with_key_at index key [] = []
with_key_at zero key (e ∷ es) = record { key = key; address = e.address } ∷ es
with_key_at (suc index) key (e ∷ es) = e ∷ with_key_at index key es

-- the entries with another address of that at an index
abbrev pub with_address_at : ℕ → ℕ → List Entry → List Entry
with_address_at index address [] = []
with_address_at zero address (e ∷ es) = record { key = e.key; address = address } ∷ es
with_address_at (suc index) address (e ∷ es) = e ∷ with_address_at index address es
