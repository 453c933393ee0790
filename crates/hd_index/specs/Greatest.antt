-- Keys that are found in a block or in an index: each at the front of some bytes, or none.
use Rattle.std.specs.Prelude.{◌≡◌, ◌≢◌, ℕ, Bool, cond, List, Option, Some, None, take}
use Rattle.std.specs.Option.{option_map_or}
use Rattle.hd_volume.specs.Volumes.{VolumeState}
use Rattle.hd_volume.specs.Entries.{Entry, entries_in}
use Rattle.hd_index_blocks.specs.Maps.{greatest_below, last_key}
use Rattle.hd_index_blocks.specs.IndexSets.{index_entries}
use Rattle.hd_index.specs.Blocks.{leaf_at}

-- some bytes with a key at their front, where one was found; else none
abbrev pub found_key : Bool → List ℕ → Option (List ℕ)
found_key is_some bytes = cond is_some (Some bytes) None

-- This is the last key of some entries, if there is one.
abbrev pub IsLastOf : ℕ → Option (List ℕ) → List Entry → Type 0
IsLastOf key_length found es = (other : List ℕ) → option_map_or (take key_length) found other ≡ last_key other es

-- This is the greatest of their keys below a key, if there is one.
abbrev pub IsGreatestOf : ℕ → Option (List ℕ) → List ℕ → List Entry → Type 0
IsGreatestOf key_length found key es = (other : List ℕ) → option_map_or (take key_length) found other ≡ greatest_below other key es

-- the greatest key of the index below a key, or else the key itself: a new key goes where it leads
abbrev pub lower_key : ℕ → VolumeState → List ℕ → List ℕ
lower_key key_length v key = greatest_below key key (index_entries key_length v)

-- This is the greatest key of the index below a key; where there is none, the key itself is taken.
abbrev pub IsGreatestBelow : ℕ → VolumeState → List ℕ → Option (List ℕ) → Type 0
IsGreatestBelow key_length v key found = option_map_or (take key_length) found key ≡ lower_key key_length v key

-- Block n, if it is not 0, is the one of the sequence set that a key leads to.
abbrev pub IsKnownLeaf : ℕ → VolumeState → List ℕ → ℕ → Type 0
IsKnownLeaf key_length v key n = n ≢ 0 → n ≡ leaf_at key_length v key

-- This is the greatest key below a key in the bytes of a block, if there is one.
abbrev pub IsGreatestIn : ℕ → Option (List ℕ) → List ℕ → List ℕ → Type 0
IsGreatestIn key_length found key bytes = IsGreatestOf key_length found key (entries_in key_length bytes)
