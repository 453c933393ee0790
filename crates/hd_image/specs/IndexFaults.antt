-- What can be wrong with the index of a volume whose segments are right: one word for each line of the fault table, with
-- where the fault stands and what else it names, 0 where it names nothing. Each phase supposes that no earlier fault stands.
-- In version 1 the index is one chain of blocks, and its lines of phases 8 to 11 stand here; those of an index set, from version 2 on, stand with
-- its levels. What the entries name is told of each version alike.
use Rattle.std.specs.Prelude.{◌≡◌, ◌≢◌, ◌⊎◌, ℕ, ◌*◌, ◌<◌, List, [], ◌∷◌, ◌++◌, Bool, false, not, cond, ◌&&◌, ◌==◌, Option, Some, None, option_map, find, bytes_eq, slice_index}
use Rattle.std.specs.Option.{option_map_or}
use Rattle.std.specs.List.{list_any}
use Rattle.hd_bytes.specs.Numbers.{number_at}
use Rattle.hd_dbd.specs.Hierarchy.{Database}
use Rattle.hd_dbd.specs.Rows.{key_of}
use Rattle.hd_volume.specs.Headers.{header_of}
use Rattle.hd_volume.specs.Volumes.{VolumeState, block_at, IsKind}
use Rattle.hd_volume.specs.Entries.{Entry, entry_blocks, entries_in, entries_of}
use Rattle.hd_volume.specs.Indexes.{root_key_length, entry_room, IsAmong, key_less}
use Rattle.hd_index_blocks.specs.IndexSets.{sequence_blocks, index_entries}
use Rattle.hd_links.specs.Links.{Links, IsSegment, segment_at}
use Rattle.hd_image.specs.Records.{links_of}

-- one thing of a volume of version 1, whose index is a chain, and another of a later one, whose index is an index set
abbrev pub ByVersion : VolumeState → Type 0 → Type 0 → Type 0
ByVersion v chain set = (((header_of v.image).version ≡ 1) × chain) ⊎ (((header_of v.image).version ≢ 1) × set)

-- ---- phase 8: the form of the blocks

-- block n is an index block of a level
abbrev pub IsOfLevel : VolumeState → ℕ → ℕ → Type 0
IsOfLevel v level n = IsKind v 2 n × (slice_index (block_at v n) 3 ≡ level)

-- 15 of the header: just one of top and height is 0, the height is above 1, or the top block is no index block of level 0
abbrev pub IsWrongTop : VolumeState → ℕ → ℕ → Type 0
IsWrongTop v address other =
    (address ≡ 0) × (other ≡ (header_of v.image).top)
    × ((((header_of v.image).top ≡ 0) × ((header_of v.image).height ≢ 0))
    ⊎ ((((header_of v.image).top ≢ 0) × ((header_of v.image).height ≡ 0))
    ⊎ ((1 < (header_of v.image).height)
    ⊎ (((header_of v.image).top ≢ 0) × (IsOfLevel v 0 (header_of v.image).top → ⊥)))))

-- 15 of a block: its level is not below the height, it counts more entries than find room, or the next block is no index
-- block of its level
abbrev pub IsWrongForm : ℕ → VolumeState → ℕ → ℕ → Type 0
IsWrongForm key_length v address other =
    (n : ℕ) × IsKind v 2 n × (address ≡ n * v.size) × (other ≡ 0)
    × ((slice_index (block_at v n) 3 < (header_of v.image).height → ⊥)
    ⊎ ((entry_room key_length v.size < number_at 2 (block_at v n) 4)
    ⊎ ((number_at 4 (block_at v n) 8 ≢ 0) × (IsOfLevel v (slice_index (block_at v n) 3) (number_at 4 (block_at v n) 8) → ⊥))))

-- ---- phases 9 and 10: which blocks are named

-- block n is named by a holder: by the header, 0, as its top block, or by an index block as the next one
abbrev pub NamesBlock : VolumeState → ℕ → ℕ → Type 0
NamesBlock v h n = ((h ≡ 0) × ((header_of v.image).top ≡ n)) ⊎ (IsKind v 2 h × (number_at 4 (block_at v h) 8 ≡ n))

-- 15 of a block: it is named twice
abbrev pub IsNamedTwice : VolumeState → ℕ → ℕ → Type 0
IsNamedTwice v address other =
    (n g h : ℕ) × IsKind v 2 n × NamesBlock v g n × NamesBlock v h n × (g ≢ h) × (address ≡ n * v.size) × (other ≡ 0)

-- 19: an index block is not reached from the top block
abbrev pub IsUnreachedBlock : VolumeState → ℕ → ℕ → Type 0
IsUnreachedBlock v address other = (n : ℕ) × IsKind v 2 n × (IsAmong n (entry_blocks v) → ⊥) × (address ≡ n * v.size) × (other ≡ 0)

-- ---- phases 11 to 13: the entries

-- the last of some entries, or else the one given
abbrev pub last_entry : Option Entry → List Entry → Option Entry
last_entry left [] = left
last_entry left (e ∷ es) = last_entry (Some e) es

-- the first of some entries whose key is not above the one to its left
abbrev pub first_not_above : Option Entry → List Entry → Option Entry
first_not_above left [] = None
first_not_above left (e ∷ es) = option_map_or (λ l. cond (key_less l.key e.key) (first_not_above (Some e) es) (Some e)) left (first_not_above (Some e) es)

-- 16: of a block an entry's key is not above the one to its left, the leftmost such entry
abbrev pub HasEntryOutOfOrder : ℕ → VolumeState → ℕ → ℕ → Type 0
HasEntryOutOfOrder key_length v address other =
    (n : ℕ) × (before behind : List ℕ) × (entry_blocks v ≡ before ++ n ∷ behind)
    × (option_map (λ e. e.address) (first_not_above (last_entry None (entries_of key_length v before)) (entries_in key_length (block_at v n))) ≡ Some other)
    × (address ≡ n * v.size)

-- the entry names a root of its key
abbrev pub names_a_root : Database → Links → Entry → Bool
names_a_root d m e = not (e.address == 0) && m.here e.address && m.code e.address == 1 && bytes_eq (key_of d.types (segment_at m e.address)) e.key

-- 17: of a block an entry names no root of its key, the leftmost such entry
abbrev pub HasWrongEntry : Database → VolumeState → ℕ → ℕ → Type 0
HasWrongEntry d v address other =
    (n : ℕ) × IsAmong n (sequence_blocks (root_key_length d.types) v)
    × (option_map (λ e. e.address) (find (λ e. not (names_a_root d (links_of d.types v) e)) (entries_in (root_key_length d.types) (block_at v n))) ≡ Some other)
    × (address ≡ n * v.size)

-- 18: no entry names a root
abbrev pub HasNoEntry : Database → VolumeState → ℕ → ℕ → Type 0
HasNoEntry d v a other =
    IsSegment (links_of d.types v) a × ((links_of d.types v).code a ≡ 1)
    × (list_any (λ e. e.address == a) (index_entries (root_key_length d.types) v) ≡ false) × (other ≡ 0)
