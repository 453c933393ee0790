-- Rows by their addresses, and the steps from row to row by pointers.
use Rattle.std.specs.Prelude.{◌-◌, ◌++◌, take, ◌≡◌, ℕ, List, [], ◌∷◌, true, ◌==◌, nat_lt, cond, map, slice_index, ◌+◌, ◌<◌, length, ◌&&◌, Some, Bool}
use Rattle.std.specs.Option.{option_map_or, option_eq}
use Rattle.hd_dbd.specs.Types.{SegmentType}
use Rattle.hd_dbd.specs.Segment.{Segment}
use Rattle.hd_dbd.specs.Paths.{row_at, level_at, parent_row, path_of, end_of, is_twin}
use Rattle.hd_dbd.specs.Searches.{first_from}
use Rattle.hd_dbd.specs.Forest.{Forest, sequence}
use Rattle.hd_links.specs.Links.{Links, IsSegment, segment_at, child_types, is_child_type}
use Rattle.hd_links.specs.Placed.{Placed, forest_of}
use Rattle.hd_links.specs.Pointers.{IsInChain}

-- ---- addresses and row numbers

-- the rows of a placed forest, in hierarchic sequence
abbrev pub rows_of : Forest Placed → List Segment
rows_of f = sequence (forest_of f)

-- their addresses
abbrev pub addresses : Forest Placed → List ℕ
addresses f = map (λ p. p.address) (sequence f)

-- the address of the row of a number, 0 behind the last row
abbrev pub address_at : Forest Placed → ℕ → ℕ
address_at f i = slice_index (addresses f) i

-- the addresses of a row and its parents, root first
abbrev pub path_at : List SegmentType → Forest Placed → ℕ → List ℕ
path_at types f i = map (λ k. address_at f k) (path_of types (rows_of f) i)

-- Each row has the address of a segment that says what the row is, and each segment is one row.
pub record RowsHaveAddresses (m : Links) (f : Forest Placed) : Type 0 where
  pub there : (i : ℕ) → i < length (rows_of f) → IsSegment m (address_at f i)
  pub same : (i : ℕ) → i < length (rows_of f) → segment_at m (address_at f i) ≡ row_at (rows_of f) i
  pub each : (a : ℕ) → IsSegment m a → (i : ℕ) × (i < length (rows_of f)) × (address_at f i ≡ a)
  pub once : (i j : ℕ) → i < length (rows_of f) → j < length (rows_of f) → address_at f i ≡ address_at f j → i ≡ j

-- the path of row i up to the level above row j, and then row j
abbrev pub path_on : List SegmentType → Forest Placed → ℕ → ℕ → List ℕ
path_on types f i j = take (level_at types (rows_of f) j - 1) (path_at types f i) ++ address_at f j ∷ []

-- ---- paths by pointers

-- the last address of a path from h down: h where it is empty
abbrev pub tip_from : ℕ → List ℕ → ℕ
tip_from h [] = h
tip_from h (a ∷ path) = tip_from a path

-- The path leads down from h: each address is in the chain of twins of a child type of the one before.
abbrev pub LeadsDown : List SegmentType → Links → ℕ → List ℕ → Type 0
LeadsDown types m h [] = Unit {0}
LeadsDown types m h (a ∷ path) =
    (is_child_type types (m.code h) (m.code a) ≡ true) × IsInChain m (m.first_child h (m.code a)) a × LeadsDown types m a path

-- ---- steps by pointers

-- the first of two addresses that is not 0
abbrev pub first_some : ℕ → ℕ → ℕ
first_some x y = cond (x == 0) y x

-- the first child of a record, of these types in order; 0 for none
abbrev pub child_among : Links → ℕ → List ℕ → ℕ
child_among m h [] = 0
child_among m h (t ∷ ts) = first_some (m.first_child h t) (child_among m h ts)

-- those of some types in order that come later than c
abbrev pub later_than : ℕ → List ℕ → List ℕ
later_than c [] = []
later_than c (t ∷ ts) = cond (nat_lt c t) (t ∷ ts) (later_than c ts)

-- What follows the span of a, a child of h, where `rest` follows that of h: the next twin, or the first child of h of a
-- later type, or the rest.
abbrev pub behind_child : List SegmentType → Links → ℕ → ℕ → ℕ → ℕ
behind_child types m h rest a =
    first_some (m.forward a) (first_some (child_among m h (later_than (m.code a) (child_types types (m.code h)))) rest)

-- what follows the span of the last on a path from h down, where `rest` follows that of h
abbrev pub behind_from : List SegmentType → Links → ℕ → ℕ → List ℕ → ℕ
behind_from types m h rest [] = rest
behind_from types m h rest (a ∷ path) = behind_from types m a (behind_child types m h rest a) path

-- the row behind the span of the last row on a path, 0 for none
abbrev pub behind_span : List SegmentType → Links → List ℕ → ℕ
behind_span types m path = behind_from types m 0 0 path

-- the row behind the last row on a path, 0 for none: the first below it, or the one behind its span; the first root where
-- the path is empty
abbrev pub next_row : List SegmentType → Links → List ℕ → ℕ
next_row types m path =
    first_some (child_among m (tip_from 0 path) (child_types types (m.code (tip_from 0 path)))) (behind_span types m path)

-- ---- steps by rows

-- row j stands directly below row i, and is of the type
abbrev pub is_child_row : List SegmentType → List Segment → ℕ → ℕ → ℕ → Bool
is_child_row types rows i t j = option_eq (λ p q. p == q) (parent_row types rows j) (Some i) && (row_at rows j).code == t

-- the address of the first row behind row i that passes, 0 for none
abbrev pub first_behind : Forest Placed → ℕ → (ℕ → Bool) → ℕ
first_behind f i test = option_map_or (λ j. address_at f j) (first_from test (i + 1) (length (rows_of f))) 0

-- The step from row i by pointers is the step by rows: its path leads down to it, and no other; first child and twin
-- forward are the first row of its own, of the type, and its next twin; then the next row and the row behind its span, and
-- their paths.
pub record StepsAreRows (types : List SegmentType) (m : Links) (f : Forest Placed) (i : ℕ) : Type 0 where
  pub path : LeadsDown types m 0 (path_at types f i)
  pub tip : tip_from 0 (path_at types f i) ≡ address_at f i
  pub only : (path : List ℕ) → LeadsDown types m 0 path → tip_from 0 path ≡ address_at f i → path ≡ path_at types f i
  pub first_child : (t : ℕ) → is_child_type types (row_at (rows_of f) i).code t ≡ true
      → m.first_child (address_at f i) t ≡ first_behind f i (λ j. is_child_row types (rows_of f) i t j)
  pub twin : m.forward (address_at f i) ≡ first_behind f i (λ j. is_twin types (rows_of f) i j)
  pub next : next_row types m (path_at types f i) ≡ address_at f (i + 1)
  pub behind : behind_span types m (path_at types f i) ≡ address_at f (end_of types (rows_of f) i)
  pub next_path : i + 1 < length (rows_of f) → path_at types f (i + 1) ≡ path_on types f i (i + 1)
  pub behind_path : end_of types (rows_of f) i < length (rows_of f) → path_at types f (end_of types (rows_of f) i) ≡ path_on types f i (end_of types (rows_of f) i)
