-- The entries of the index, and the blocks that bear them, of a volume of version 1: one chain of index blocks from the
-- top block on.
use Rattle.std.specs.Prelude.{ℕ, zero, suc, ◌+◌, ◌==◌, cond, List, [], ◌∷◌, ◌++◌}
use Rattle.hd_bytes.specs.Numbers.{number_at}
use Rattle.hd_bytes.specs.Ranges.{bytes_at}
use Rattle.hd_volume.specs.Headers.{header_of}
use Rattle.hd_volume.specs.Volumes.{VolumeState, block_at}

-- A root's key, and its address.
pub record Entry : Type 0 where
  pub key : List ℕ
  pub address : ℕ

-- so many entries of an index block from a place on, with keys of so many bytes
abbrev pub entries_at : ℕ → List ℕ → ℕ → ℕ → List Entry
entries_at key_length block place zero = []
entries_at key_length block place (suc n) =
    record { key = bytes_at block place key_length; address = number_at 4 block (place + key_length) } ∷ entries_at key_length block (place + key_length + 4) n

-- the entries of an index block: as many as bytes 4 and 5 say, from offset 12 on
abbrev pub entries_in : ℕ → List ℕ → List Entry
entries_in key_length block = entries_at key_length block 12 (number_at 2 block 4)

-- at most so many blocks of a chain from block n on, 0 for none; bytes 8 to 11 of each name the next
abbrev pub chain_from : VolumeState → ℕ → ℕ → List ℕ
chain_from v zero n = []
chain_from v (suc more) n = cond (n == 0) [] (n ∷ chain_from v more (number_at 4 (block_at v n) 8))

-- the blocks that bear entries, from left to right
abbrev pub entry_blocks : VolumeState → List ℕ
entry_blocks v = chain_from v (header_of v.image).largest (header_of v.image).top

-- the entries of some blocks
abbrev pub entries_of : ℕ → VolumeState → List ℕ → List Entry
entries_of key_length v [] = []
entries_of key_length v (n ∷ blocks) = entries_in key_length (block_at v n) ++ entries_of key_length v blocks

-- the entries of the index, from left to right
abbrev pub entries : ℕ → VolumeState → List Entry
entries key_length v = entries_of key_length v (entry_blocks v)
