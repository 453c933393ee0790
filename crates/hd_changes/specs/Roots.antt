-- Roots among the rows of a forest, and how a key names one.
use Rattle.std.specs.Prelude.{ℕ, List, length, Bool, not, ◌&&◌, ◌==◌, Option, option_map, bytes_eq}
use Rattle.hd_dbd.specs.Types.{SegmentType}
use Rattle.hd_dbd.specs.Segment.{Segment}
use Rattle.hd_dbd.specs.Rows.{key_of}
use Rattle.hd_dbd.specs.Paths.{row_at}
use Rattle.hd_dbd.specs.Searches.{first_from}
use Rattle.hd_dbd.specs.Forest.{Forest}
use Rattle.hd_volume.specs.Indexes.{key_less}
use Rattle.hd_links.specs.Placed.{Placed}
use Rattle.hd_links.specs.Steps.{rows_of, address_at}

-- row i is a root
abbrev pub is_root : List Segment → ℕ → Bool
is_root rows i = (row_at rows i).code == 1

-- the key of row i
abbrev pub key_at : List SegmentType → List Segment → ℕ → List ℕ
key_at types rows i = key_of types (row_at rows i)

-- row i is a root with this key
abbrev pub is_root_with : List SegmentType → List Segment → List ℕ → ℕ → Bool
is_root_with types rows key i = is_root rows i && bytes_eq (key_at types rows i) key

-- row i is a root whose key is not below this one
abbrev pub is_root_from : List SegmentType → List Segment → List ℕ → ℕ → Bool
is_root_from types rows key i = is_root rows i && not (key_less (key_at types rows i) key)

-- the first row that passes a test
abbrev pub first_row : List Segment → (ℕ → Bool) → Option ℕ
first_row rows test = first_from test 0 (length rows)

-- the address of the first row that passes a test
abbrev pub address_of_first : Forest Placed → (ℕ → Bool) → Option ℕ
address_of_first f test = option_map (λ i. address_at f i) (first_row (rows_of f) test)
