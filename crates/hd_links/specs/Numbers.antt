-- Where the row of a new leaf goes in, and which rows leave with a span, by their numbers.
use Rattle.std.specs.Prelude.{◌≡◌, ℕ, ◌+◌, ◌<◌, ◌≤◌, List, ◌∷◌, ◌++◌, length, take, drop, false, ◌&&◌, ◌||◌, ◌==◌, nat_lt, nat_le, Some}
use Rattle.std.specs.Option.{option_map_or, option_eq}
use Rattle.hd_dbd.specs.Types.{SegmentType}
use Rattle.hd_dbd.specs.Segment.{Segment}
use Rattle.hd_dbd.specs.Paths.{row_at, parent_row, end_of}
use Rattle.hd_dbd.specs.Searches.{first_from}
use Rattle.hd_dbd.specs.Forest.{Forest}
use Rattle.hd_links.specs.Links.{Links}
use Rattle.hd_links.specs.Placed.{Placed}
use Rattle.hd_links.specs.Changes.{unlinked, with_leaf, without_span}
use Rattle.hd_links.specs.Steps.{rows_of, addresses, address_at}

-- of the rows directly below row i the first that is of the type or a later one, or the number behind its span
abbrev pub place_below : List SegmentType → List Segment → ℕ → ℕ → ℕ
place_below types rows i t =
    option_map_or (λ j. j)
    (first_from (λ j. option_eq (λ a b. a == b) (parent_row types rows j) (Some i) && nat_le t (row_at rows j).code) (i + 1) (end_of types rows i))
    (end_of types rows i)

-- The row of a new leaf below h goes in at number n, inside the sequence: behind the span of its twin y; as the first of its
-- type, among the roots at the beginning, and below row i at the first of its own that is of the type or a later one, or behind
-- its span.
pub record LeafGoesInAt (types : List SegmentType) (f : Forest Placed) (h y : ℕ) (p : Placed) (n : ℕ) : Type 0 where
  pub within : n ≤ length (rows_of f)
  pub rows : rows_of (with_leaf h y p f) ≡ take n (rows_of f) ++ p.segment ∷ drop n (rows_of f)
  pub places : addresses (with_leaf h y p f) ≡ take n (addresses f) ++ p.address ∷ drop n (addresses f)
  pub behind : (i : ℕ) → i < length (rows_of f) → 0 < y → address_at f i ≡ y → n ≡ end_of types (rows_of f) i
  pub first_root : y ≡ 0 → h ≡ 0 → n ≡ 0
  pub first_below : (i : ℕ) → i < length (rows_of f) → y ≡ 0 → address_at f i ≡ h → n ≡ place_below types (rows_of f) i p.segment.code

-- Rows i up to number e leave: the rows before and behind them stay, and so do their records.
pub record RowsLeave (m : Links) (f : Forest Placed) (h y a i e : ℕ) : Type 0 where
  pub rows : rows_of (without_span h a f) ≡ take i (rows_of f) ++ drop e (rows_of f)
  pub places : addresses (without_span h a f) ≡ take i (addresses f) ++ drop e (addresses f)
  pub left : (k : ℕ) → k < length (rows_of f) → (unlinked m h y a (without_span h a f)).here (address_at f k) ≡ (nat_lt k i || nat_le e k)
  pub others : (b : ℕ) → m.here b ≡ false → (unlinked m h y a (without_span h a f)).here b ≡ false
