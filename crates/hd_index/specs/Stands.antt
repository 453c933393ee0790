-- Where a walk down an index set stands.
use Rattle.std.specs.Prelude.{◌≡◌, ℕ, cond, List, [], ◌∷◌, ◌++◌}
use Rattle.hd_volume.specs.Volumes.{VolumeState}
use Rattle.hd_volume.specs.Entries.{Entry}
use Rattle.hd_volume.specs.Indexes.{key_less}
use Rattle.hd_index_blocks.specs.Levels.{sequence_set}
use Rattle.hd_index_blocks.specs.Ways.{IsAround}
use Rattle.hd_index_blocks.specs.Neighbours.{last_of}
use Rattle.hd_index_blocks.specs.IndexSets.{index_blocks, sequence_blocks, HasIndexSet}
use Rattle.hd_index.specs.declared.stand.Stand.{Stand}

-- the entries before the one that a key leads to: the first whose key is not below it, or the last
abbrev pub front_of : List ℕ → List Entry → List Entry
front_of key [] = []
front_of key (e ∷ []) = []
front_of key (e ∷ f ∷ es) = cond (key_less e.key key) (e ∷ front_of key (f ∷ es)) []

-- A block of a level stands about a key, with this left neighbour, 0 for none; the blocks of its level lead down to all blocks of the
-- sequence set.
pub record IsStand (key_length : ℕ) (v : VolumeState) (key : List ℕ) (l : ℕ) (stand : Stand) : Type 0 where
  pub before : List ℕ
  pub behind : List ℕ
  pub around : IsAround (index_blocks key_length v) key l before stand.block behind
  pub left_is : stand.left ≡ last_of 0 before
  pub whole : sequence_set (index_blocks key_length v) l (before ++ (stand.block ∷ behind)) ≡ sequence_blocks key_length v

-- the fact holds where a walk stands at a block of the sequence set of an index set, about a key
abbrev pub IfAbout : ℕ → VolumeState → List ℕ → Stand → Type 0 → Type 0
IfAbout key_length v key stand fact = HasIndexSet key_length v → IsStand key_length v key 0 stand → fact
