-- What the first phase notes of the index blocks, and what it judges of each.
use Rattle.std.specs.Prelude.{◌≡◌, ◌≢◌, ◌⊎◌, ℕ, ◌<◌, ◌≤◌, List, [], ◌∷◌, ◌++◌, Some, slice_index_or}
use Rattle.hd_volume.specs.Headers.{header_of}
use Rattle.hd_volume.specs.Volumes.{VolumeState, IsKind}
use Rattle.hd_volume.specs.Indexes.{entry_room, IsAmong}
use Rattle.hd_index_blocks.specs.IndexSets.{level_in}
use Rattle.hd_check_index.specs.declared.table.NotedBlock.{NotedBlock}
use Rattle.hd_check_index.specs.Tables.{noted}

-- the index block at an index of a table
abbrev pub noted_at : List NotedBlock → ℕ → NotedBlock
noted_at blocks i = slice_index_or blocks i (record { number = 0; level = 0; count = 0; next = 0 })

-- Block n is noted behind others, or it is no index block.
abbrev pub IsNotedBehind : VolumeState → ℕ → List NotedBlock → List NotedBlock → Type 0
IsNotedBehind v n blocks more = (IsKind v 2 n × (more ≡ blocks ++ (noted v n ∷ []))) ⊎ ((IsKind v 2 n → ⊥) × (more ≡ blocks))

-- What is noted of a block is right: its level is below the height, it counts an entry at least and no more than find room, and its next
-- block, if there is one, is of its level.
pub record IsNotedRight (key_length : ℕ) (v : VolumeState) (block : NotedBlock) : Type 0 where
  pub low : block.level < (header_of v.image).height
  pub some : 0 < block.count
  pub count : block.count ≤ entry_room key_length v.size
  pub next : (block.next ≡ 0) ⊎ (level_in v block.next ≡ Some block.level)

-- each of these is an index block of a level
abbrev pub AreOfLevel : VolumeState → ℕ → List ℕ → Type 0
AreOfLevel v l ns = (m : ℕ) → IsAmong m ns → level_in v m ≡ Some l

-- one of these is no index block of a level
abbrev pub HasStray : VolumeState → ℕ → List ℕ → Type 0
HasStray v l ns = (m : ℕ) × IsAmong m ns × (level_in v m ≢ Some l)
