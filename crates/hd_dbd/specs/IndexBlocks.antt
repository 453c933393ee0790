-- The room of an index block.
use Rattle.std.specs.Prelude.{ℕ, ◌+◌, ◌-◌, ◌*◌, ◌/◌}

-- the bytes before the entries
abbrev pub entries_begin : ℕ
entries_begin = 12

-- the bytes of an entry: a key of so many bytes, and 4 for an address
abbrev pub entry_size : ℕ → ℕ
entry_size key_length = key_length + 4

-- where an entry stands in its block
abbrev pub entry_place : ℕ → ℕ → ℕ
entry_place key_length index = entries_begin + index * entry_size key_length

-- so many entries find room in a block of a size
abbrev pub entry_room : ℕ → ℕ → ℕ
entry_room key_length size = (size - entries_begin) / entry_size key_length
