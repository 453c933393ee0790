-- The link graph: what the records of a database say, by their addresses.
use Rattle.std.specs.Prelude.{◌≡◌, ℕ, ◌<◌, List, [], ◌∷◌, Bool, true, ◌==◌, cond}
use Rattle.std.specs.List.{list_any}
use Rattle.hd_dbd.specs.Types.{SegmentType}
use Rattle.hd_dbd.specs.Segment.{Segment}
use Rattle.hd_dbd.specs.Prefixes.{children_of}
pub use Rattle.hd_dbd.specs.Prefixes.{is_last_kept}
use Rattle.hd_dbd.specs.Rows.{row_fits}

-- For each address: whether a record stands there, its code, its delete byte, the segment's bytes, twin forward, twin
-- backward, and for each child type first child and last child, 0 for none. The record 0 is the header: its code is 0, and
-- its first and last child are first and last root.
pub record Links : Type 0 where
  pub here : ℕ → Bool
  pub code : ℕ → ℕ
  pub delete_byte : ℕ → ℕ
  pub bytes : ℕ → List ℕ
  pub forward : ℕ → ℕ
  pub backward : ℕ → ℕ
  pub first_child : ℕ → ℕ → ℕ
  pub last_child : ℕ → ℕ → ℕ

-- the segment at an address
abbrev pub segment_at : Links → ℕ → Segment
segment_at m a = record { code = m.code a; bytes = m.bytes a }

-- The address is that of a segment.
pub record IsSegment (m : Links) (a : ℕ) : Type 0 where
  pub some : 0 < a
  pub here : m.here a ≡ true

-- the child types of a type, in order; the header's is the root's type
abbrev pub child_types : List SegmentType → ℕ → List ℕ
child_types types c = cond (c == 0) (1 ∷ []) (children_of types c)

-- t is a child type of c
abbrev pub is_child_type : List SegmentType → ℕ → ℕ → Bool
is_child_type types c t = list_any (λ u. u == t) (child_types types c)

-- The records are those of a database: the header, and behind it, below a bound, segments that have a type and its length.
pub record IsLinkGraph (types : List SegmentType) (bound : ℕ) (m : Links) : Type 0 where
  pub header : m.here 0 ≡ true
  pub header_code : m.code 0 ≡ 0
  pub fits : (a : ℕ) → IsSegment m a → row_fits types (segment_at m a) ≡ true
  pub below : (a : ℕ) → IsSegment m a → a < bound
