-- Laws of the fields of a database's segments.
use Rattle.std.specs.Prelude.{◌≡◌, ◌≢◌, ℕ, ◌+◌, ◌≤◌, List, length, true, ◌&&◌, cond, Some, IsTrue, ◌==◌}
use Rattle.std.specs.List.{list_any}
use Rattle.hd_bytes.specs.Ranges.{with_bytes}
use Rattle.hd_bytes.specs.Numbers.{number_at}
use Rattle.hd_dbd.specs.declared.hierarchy.FreeSpace.{FreeSpace}
use Rattle.hd_dbd.specs.Types.{SegmentType}
use Rattle.hd_dbd.specs.Hierarchy.{type_of}
use Rattle.hd_dbd.specs.Prefixes.{prefix_length, pointers_at, children_of}
use Rattle.hd_dbd.specs.Rows.{row_fits}
use Rattle.hd_dbd.specs.DatabaseRules.{well_formed}
use Rattle.hd_prefix.specs.declared.pointer.Pointer.{Pointer}
use Rattle.hd_prefix.specs.declared.pointer.Pointer.TheVariants.{TwinForward, TwinBackward, FirstChild, LastChild}
use Rattle.hd_prefix.specs.Pointers.{is_child, place_of, IsApart}
use Rattle.hd_dbd.specs.Prefixes.{is_backward_kept, is_last_kept}
use Rattle.hd_prefix.specs.Fields.{pointer_of, new_segment, segment_with, IsPointerSet, IsNewSegment, IsSegmentWith}

-- Each pointer stands inside the prefix, behind code and delete byte.
abbrev pub PointersStandInside : Type 0
PointersStandInside =
    (block_size : ℕ) (frspc : FreeSpace) (types : List SegmentType) (c : ℕ) (pointer : Pointer) (place : ℕ) → IsTrue (well_formed block_size frspc types)
    → place_of types c pointer ≡ Some place → (2 ≤ place) × (place + 4 ≤ prefix_length types c)

-- No two pointers of a type have a byte in common.
abbrev pub PointersStandApart : Type 0
PointersStandApart =
    (block_size : ℕ) (frspc : FreeSpace) (types : List SegmentType) (c : ℕ) (one other : Pointer) (x y : ℕ) → IsTrue (well_formed block_size frspc types)
    → one ≢ other → place_of types c one ≡ Some x → place_of types c other ≡ Some y → IsApart x y

-- Four bytes that are written at the place of a pointer are its address, and every other field stays.
abbrev pub PointersAreSet : Type 0
PointersAreSet =
    (block_size : ℕ) (frspc : FreeSpace) (types : List SegmentType) (c : ℕ) (pointer : Pointer) (place : ℕ) (bytes segment : List ℕ)
    → IsTrue (well_formed block_size frspc types) → place_of types c pointer ≡ Some place → prefix_length types c ≤ length segment → length bytes ≡ 4
    → IsPointerSet types c pointer (number_at 4 bytes 0) segment (with_bytes segment place bytes)

-- A row that is made a stored segment has the size that it takes, and its fields are the row's and 0.
abbrev pub NewSegmentsAreRows : Type 0
NewSegmentsAreRows =
    (block_size : ℕ) (frspc : FreeSpace) (types : List SegmentType) (c : ℕ) (bytes : List ℕ)
    → IsTrue (well_formed block_size frspc types) → row_fits types (record { code = c; bytes = bytes }) ≡ true
    → IsNewSegment types c bytes (new_segment types c bytes)

-- A stored segment with other bytes has these, the size that they take, and every other field as it was.
abbrev pub SegmentsTakeOtherBytes : Type 0
SegmentsTakeOtherBytes =
    (block_size : ℕ) (frspc : FreeSpace) (types : List SegmentType) (c : ℕ) (bytes segment : List ℕ)
    → IsTrue (well_formed block_size frspc types) → row_fits types (record { code = c; bytes = bytes }) ≡ true → prefix_length types c ≤ length segment
    → IsSegmentWith types c bytes segment (segment_with types c segment bytes)

-- The child types of a type are those that its list of children has.
abbrev pub ChildrenAreListed : Type 0
ChildrenAreListed = (types : List SegmentType) (c t : ℕ) → list_any (λ u. u == t) (children_of types c) ≡ is_child types c t

-- The pointers of a segment of the type of code c, each where it is kept; 0 where it is not.
pub record HasPointers (types : List SegmentType) (c : ℕ) (segment : List ℕ) : Type 0 where
  pub forward : (own : SegmentType) → type_of types c ≡ Some own → pointer_of types c TwinForward segment ≡ number_at 4 segment 2
  pub backward : pointer_of types c TwinBackward segment ≡ cond (is_backward_kept types c) (number_at 4 segment 6) 0
  pub first_child : (t : ℕ) → pointer_of types c (FirstChild t) segment ≡ cond (is_child types c t) (number_at 4 segment (pointers_at types t)) 0
  pub last_child : (t : ℕ) → pointer_of types c (LastChild t) segment ≡ cond (is_child types c t && is_last_kept types t) (number_at 4 segment (pointers_at types t + 4)) 0

abbrev pub PointersAreNumbers : Type 0
PointersAreNumbers = (types : List SegmentType) (c : ℕ) (segment : List ℕ) → HasPointers types c segment
