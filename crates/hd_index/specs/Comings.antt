-- A new key that comes into an index set: down by the greatest key below it, or by itself where there is none.
use Rattle.std.specs.Prelude.{◌≡◌, ◌⊎◌, true, false, ℕ, List, ◌∷◌, ◌++◌, length, None, Some, slice_get}
use Rattle.hd_volume.specs.Headers.{header_of}
use Rattle.hd_volume.specs.Volumes.{VolumeState}
use Rattle.hd_volume.specs.Entries.{Entry}
use Rattle.hd_volume.specs.Indexes.{key_less}
use Rattle.hd_index_blocks.specs.Maps.{address_of, greatest_below}
use Rattle.hd_index_blocks.specs.Levels.{entries_below}
use Rattle.hd_index_blocks.specs.Ways.{child_of, leaf_of, IsAround, IsWayDown}
use Rattle.hd_index_blocks.specs.IndexSets.{index_blocks, top_level, index_entries, HasIndexSet}
use Rattle.hd_index_blocks.specs.Needs.{needed_by}
use Rattle.hd_index.specs.Edits.{IsKeyChanged}
use Rattle.hd_index.specs.declared.enter.Turn.{Turn}
use Rattle.hd_index.specs.Changes.{IsChanged}

-- A new key may come in below block n of a level, which stands about the key that leads down: no upper key of the way is below it.
pub record IsComing (key_length : ℕ) (v : VolumeState) (key by : List ℕ) (l n : ℕ) : Type 0 where
  pub steps : ℕ
  pub left : List ℕ
  pub right : List ℕ
  pub way : IsWayDown (index_blocks key_length v) (top_level v) (header_of v.image).top key steps l left n right
  pub around : IsAround (index_blocks key_length v) by l left n right
  pub whole : entries_below (index_blocks key_length v) l (left ++ (n ∷ right)) ≡ index_entries key_length v
  pub leads : leaf_of (index_blocks key_length v) by steps (header_of v.image).top ≡ n

-- The key is new, and it is to come in below block n of a level.
pub record MayCome (key_length : ℕ) (v : VolumeState) (key by : List ℕ) (l n : ℕ) : Type 0 where
  pub index : HasIndexSet key_length v
  pub new : address_of key (index_entries key_length v) ≡ None
  pub by_is : by ≡ greatest_below key key (index_entries key_length v)
  pub coming : IsComing key_length v key by l n

-- the fact holds where the key may come into block n of the sequence set, for which no block is needed
abbrev pub WhereNoneIsNeeded : ℕ → VolumeState → List ℕ → ℕ → Type 0 → Type 0
WhereNoneIsNeeded key_length v key n fact = (by : List ℕ) → MayCome key_length v key by 0 n → needed_by key_length v by ≡ 0 → fact

-- The index has the entries that it had and needs as many blocks, and the key may come in below block n of a level.
pub record HasComeTo (key_length : ℕ) (old : VolumeState) (key by : List ℕ) (l n : ℕ) (new : VolumeState) : Type 0 where
  pub changed : IsChanged key_length old (index_entries key_length old) 0 new
  pub needed : needed_by key_length new by ≡ needed_by key_length old by
  pub may : MayCome key_length new key by l n

-- This is where a key leads among the entries of an upper block: an entry at an index, the block that it names, and whether its key is
-- below a new one.
pub record IsTurnOf (by key : List ℕ) (es : List Entry) (turn : Turn) : Type 0 where
  pub entry : Entry
  pub at_index : slice_get es turn.index ≡ Some entry
  pub count_is : turn.count ≡ length es
  pub address : turn.child ≡ entry.address
  pub child_is : turn.child ≡ child_of by es
  pub low_is : turn.is_low ≡ key_less entry.key key

-- The entry at the turn of block n has the new key where its own was below that; else nothing has changed.
abbrev pub IsRaised : VolumeState → ℕ → Turn → List ℕ → VolumeState → Type 0
IsRaised old n turn key new = ((turn.is_low ≡ true) × IsKeyChanged old n turn.index key new) ⊎ ((turn.is_low ≡ false) × (new ≡ old))
