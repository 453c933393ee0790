-- What a well-formed database keeps to. Each rule stands beside the number of its fault.
use Rattle.std.specs.Prelude.{ℕ, ◌+◌, ◌%◌, ◌-◌, List, [], ◌∷◌, length, take, Bool, true, false, not, ◌&&◌, ◌||◌, nat_le, nat_lt, ◌==◌, cond, bytes_eq, is_none}
use Rattle.std.specs.Option.{option_map_or}
use Rattle.std.specs.List.{list_any}
use Rattle.hd_dbd.specs.declared.hierarchy.Field.{Field}
use Rattle.hd_dbd.specs.declared.hierarchy.FreeSpace.{FreeSpace}
use Rattle.hd_dbd.specs.Types.{SegmentType}
use Rattle.hd_dbd.specs.Hierarchy.{level_of}
use Rattle.hd_dbd.specs.Lengths.{least_length}
use Rattle.hd_dbd.specs.Prefixes.{stored_size}
use Rattle.hd_dbd.specs.IndexBlocks.{entry_place}

-- B10: a multiple of 8 from 128 to 32,768
abbrev pub block_size_fits : ℕ → Bool
block_size_fits n = nat_le 128 n && nat_le n 32768 && n % 8 == 0

-- B10: a free block frequency of 0 or from 2 to 100, and at most 99 percent of free space
abbrev pub free_space_fits : FreeSpace → Bool
free_space_fits f = (f.fbff == 0 || nat_le 2 f.fbff && nat_le f.fbff 100) && nat_le f.fspf 99

-- B4: the root has no parent, and every other type an earlier one
abbrev pub parent_fits : ℕ → SegmentType → Bool
parent_fits c t =
    cond (c == 1) (is_none t.parent) (option_map_or (λ p. nat_lt 0 p && nat_lt p c) t.parent false)

-- B3: a type with such a parent is at most on level 15
abbrev pub level_fits : List SegmentType → ℕ → SegmentType → Bool
level_fits types c t = not (parent_fits c t) || nat_le (level_of types c) 15

-- a part of at least one byte inside a segment of a length, by its start, which counts from 1, and its own length
abbrev pub part_fits : ℕ → ℕ → ℕ → Bool
part_fits len start own = nat_lt 0 own && nat_lt 0 start && nat_le (start + own) (len + 1)

abbrev pub fields_fit : ℕ → List Field → Bool
fields_fit len [] = true
fields_fit len (f ∷ fs) = part_fits len f.start f.length && fields_fit len fs

-- where the segments vary, the least of them holds the two bytes that say how many they are, and is no longer than the longest
abbrev pub least_fits : SegmentType → Bool
least_fits t = option_map_or (λ least. nat_le 2 least && nat_le least t.length) t.least true

-- B5: the segment has a byte, a least length that fits if they vary, and its key and its fields lie inside the least of them
abbrev pub parts_fit : SegmentType → Bool
parts_fit t =
    nat_lt 0 t.length && least_fits t
    && option_map_or (λ k. part_fits (least_length t) k.start k.length) t.key true && fields_fit (least_length t) t.fields

-- B6: the root has a unique key
abbrev pub root_key_fits : ℕ → SegmentType → Bool
root_key_fits c t = not (c == 1) || option_map_or (λ k. k.unique) t.key false

-- no two fields have one name
abbrev pub field_names_differ : List Field → Bool
field_names_differ [] = true
field_names_differ (f ∷ fs) = not (list_any (λ g. bytes_eq g.name f.name) fs) && field_names_differ fs

-- B7: no earlier type has the type's name, and no two of its fields have one name
abbrev pub names_fit : List SegmentType → ℕ → SegmentType → Bool
names_fit types c t = not (list_any (λ u. bytes_eq u.name t.name) (take (c - 1) types)) && field_names_differ t.fields

-- B8: a stored segment fits into a block behind its first 8 bytes; and for the root, three entries of its index into an
-- index block
abbrev pub sizes_fit : ℕ → List SegmentType → ℕ → SegmentType → Bool
sizes_fit block_size types c t =
    nat_le (stored_size types c + 8) block_size
    && (not (c == 1) || option_map_or (λ k. nat_le (entry_place k.length 3) block_size) t.key true)

-- B9: a key has at most 255 bytes
abbrev pub key_length_fits : SegmentType → Bool
key_length_fits t = option_map_or (λ k. nat_le k.length 255) t.key true

-- B3 to B9 for the type of a code
abbrev pub type_fits : ℕ → List SegmentType → ℕ → SegmentType → Bool
type_fits block_size types c t =
    level_fits types c t && parent_fits c t && parts_fit t && root_key_fits c t && names_fit types c t
    && sizes_fit block_size types c t && key_length_fits t

-- the same for the last types of a list, the first of which has code c
abbrev pub types_fit_from : ℕ → List SegmentType → ℕ → List SegmentType → Bool
types_fit_from block_size types c [] = true
types_fit_from block_size types c (t ∷ ts) = type_fits block_size types c t && types_fit_from block_size types (c + 1) ts

-- B10; B1, at least one type, and B2, at most 255; then each type's rules
abbrev pub well_formed : ℕ → FreeSpace → List SegmentType → Bool
well_formed block_size frspc types =
    block_size_fits block_size && free_space_fits frspc
    && nat_lt 0 (length types) && nat_le (length types) 255
    && types_fit_from block_size types 1 types
