-- How many bytes a segment has: as many as its type says, or, where the type has a least number of them, as many as its first two
-- bytes say, themselves counted.
use Rattle.std.specs.Prelude.{ℕ, ◌+◌, ◌*◌, List, length, Bool, ◌&&◌, nat_le, ◌==◌, slice_index, is_some}
use Rattle.std.specs.List.{list_any}
use Rattle.std.specs.Option.{option_map_or}
use Rattle.hd_dbd.specs.Types.{SegmentType}
use Rattle.hd_dbd.specs.Hierarchy.{type_of}

-- the fewest bytes that a segment of the type has
abbrev pub least_length : SegmentType → ℕ
least_length t = option_map_or (λ least. least) t.least t.length

-- the number in the first two bytes
abbrev pub said_length : List ℕ → ℕ
said_length bytes = slice_index bytes 0 * 256 + slice_index bytes 1

-- how many bytes a segment of the type has that begins with these
abbrev pub own_length : SegmentType → List ℕ → ℕ
own_length t bytes = option_map_or (λ _. said_length bytes) t.least t.length

-- the same of the type of a code, 0 where there is none
abbrev pub length_in : List SegmentType → ℕ → List ℕ → ℕ
length_in types c bytes = option_map_or (λ t. own_length t bytes) (type_of types c) 0

-- these are as many bytes as a segment of the type has that begins with them, and no fewer and no more than it may have
abbrev pub length_fits : SegmentType → List ℕ → Bool
length_fits t bytes = nat_le (least_length t) (length bytes) && nat_le (length bytes) t.length && length bytes == own_length t bytes

-- some segments vary in length
abbrev pub some_vary : List SegmentType → Bool
some_vary types = list_any (λ t. is_some t.least) types
