-- What a search for a key sees.
use Rattle.std.specs.Prelude.{◌≡◌, ◌≢◌, ℕ, List, length, None}
use Rattle.hd_volume.specs.Volumes.{VolumeState, block_at}
use Rattle.hd_volume.specs.Entries.{Entry, entries_in}
use Rattle.hd_index_blocks.specs.Maps.{address_of, address_from, with_address}
use Rattle.hd_index_blocks.specs.IndexSets.{index_entries}
use Rattle.hd_index.specs.EditedBlocks.{with_address_at}
use Rattle.hd_index.specs.declared.look.Sight.{Sight}
use Rattle.hd_index.specs.declared.address.Place.{Place}
use Rattle.hd_index.specs.Blocks.{IsInOrder}

-- This is what the block of the sequence set says that a key leads to: whether the index has the key, and the least key that is not below
-- it; where that is not in the block, it is the first of the next one.
pub record IsSightOf (key_length : ℕ) (v : VolumeState) (key : List ℕ) (sight : Sight) : Type 0 where
  pub equal : sight.equal ≡ address_of key (index_entries key_length v)
  pub some : sight.from ≢ None → sight.from ≡ address_from key (index_entries key_length v)
  pub last : sight.from ≡ None → sight.next ≡ 0 → address_from key (index_entries key_length v) ≡ None
  pub on : sight.from ≡ None → sight.next ≢ 0 → IsInOrder key_length v sight.next × (address_from key (index_entries key_length v) ≡ address_from key (entries_in key_length (block_at v sight.next)))

-- The entry at this place, of all of a block, is that of a key: the key gets another address where the entry there does.
pub record IsPlaceOf (key : List ℕ) (es : List Entry) (place : Place) : Type 0 where
  pub at : (address : ℕ) → with_address key address es ≡ with_address_at place.index address es
  pub count_is : place.count ≡ length es
