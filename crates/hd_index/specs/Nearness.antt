-- What one block of the sequence set alone tells of a key.
use Rattle.std.specs.Prelude.{◌≡◌, ◌≢◌, ℕ, ◌<◌, List, None, slice_index}
use Rattle.hd_bytes.specs.Numbers.{number_at}
use Rattle.hd_volume.specs.Volumes.{VolumeState, block_at, IsKind}
use Rattle.hd_volume.specs.Entries.{entries_in}
use Rattle.hd_index_blocks.specs.Fields.{below_count}
use Rattle.hd_index_blocks.specs.Maps.{address_of}
use Rattle.hd_index.specs.declared.address.Place.{Place}

-- A key comes at this place, of all of a block of level 0: behind an entry, and before another where a block follows.
pub record IsNearIn (key_length : ℕ) (block key : List ℕ) (place : Place) : Type 0 where
  pub level : slice_index block 3 ≡ 0
  pub index_is : place.index ≡ below_count key (entries_in key_length block)
  pub count_is : place.count ≡ number_at 2 block 4
  pub behind : 0 < place.index
  pub last : place.index ≡ place.count → number_at 4 block 8 ≡ 0

-- So it comes into block n of a volume.
abbrev pub IsNear : ℕ → VolumeState → List ℕ → ℕ → Place → Type 0
IsNear key_length v key n place = IsKind v 2 n × IsNearIn key_length (block_at v n) key place

-- The entry of a key stands at this place, of all of a block of level 0, which has another one too.
pub record IsSpareIn (key_length : ℕ) (block key : List ℕ) (place : Place) : Type 0 where
  pub level : slice_index block 3 ≡ 0
  pub index_is : place.index ≡ below_count key (entries_in key_length block)
  pub count_is : place.count ≡ number_at 2 block 4
  pub there : address_of key (entries_in key_length block) ≢ None
  pub more : 1 < place.count

-- So it stands in block n of a volume.
abbrev pub IsSpare : ℕ → VolumeState → List ℕ → ℕ → Place → Type 0
IsSpare key_length v key n place = IsKind v 2 n × IsSpareIn key_length (block_at v n) key place
