-- The blocks that a new entry may need, and those that it needs.
use Rattle.std.specs.Prelude.{◌≡◌, ◌≢◌, ℕ, zero, suc, ◌+◌, ◌==◌, ◌&&◌, nat_le, cond, Bool, List, length}
use Rattle.hd_volume.specs.Headers.{header_of}
use Rattle.hd_volume.specs.Rooms.{one_if}
use Rattle.hd_volume.specs.Volumes.{VolumeState}
use Rattle.hd_volume.specs.Indexes.{entry_room}
use Rattle.hd_index_blocks.specs.Maps.{greatest_below}
use Rattle.hd_index_blocks.specs.Levels.{IndexBlocks}
use Rattle.hd_index_blocks.specs.Ways.{child_of}
use Rattle.hd_index_blocks.specs.IndexSets.{index_blocks, top_level, index_entries}

-- so many blocks may be needed for one entry more: one in version 1, and later one for each level and a new top
unfoldable pub entry_growth : VolumeState → ℕ
entry_growth v = cond ((header_of v.image).version == 1) 1 ((header_of v.image).height + 1)

-- no level is to spare: the height is 64, of an index that may have a new top
abbrev pub IsHighest : VolumeState → Type 0
IsHighest v = ((header_of v.image).version ≢ 1) × ((header_of v.image).height ≡ 64)

-- block n has as many entries as find room
abbrev pub is_full : IndexBlocks → ℕ → ℕ → Bool
is_full c room n = nat_le room (length (c.entries n))

-- how many blocks are full without a gap, from the sequence set up to block n of a level, where a key leads down from it
abbrev pub full_blocks : IndexBlocks → ℕ → List ℕ → ℕ → ℕ → ℕ
full_blocks c room key zero n = one_if (is_full c room n)
full_blocks c room key (suc l) n =
    full_blocks c room key l (child_of key (c.entries n)) + one_if (full_blocks c room key l (child_of key (c.entries n)) == suc l && is_full c room n)

-- The blocks that an entry needs in an index set where this key leads: one where there is no block yet; else one for each full block that is
-- divided, and a new top where all are full.
abbrev pub needed_by : ℕ → VolumeState → List ℕ → ℕ
needed_by key_length v by =
    cond ((header_of v.image).top == 0) 1
    (full_blocks (index_blocks key_length v) (entry_room key_length v.size) by (top_level v) (header_of v.image).top
    + one_if (full_blocks (index_blocks key_length v) (entry_room key_length v.size) by (top_level v) (header_of v.image).top == (header_of v.image).height))

-- A new key goes where the greatest key below it leads, or itself where it is the least of all.
abbrev pub set_blocks_needed : ℕ → VolumeState → List ℕ → ℕ
set_blocks_needed key_length v key = needed_by key_length v (greatest_below key key (index_entries key_length v))
