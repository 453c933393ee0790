-- How a search goes down from a row by the one child type that is on the way.
use Rattle.std.specs.Prelude.{◌≡◌, ◌↔◌, ℕ, ◌+◌, ◌<◌, ◌≤◌, List, length, Bool, true, false, ◌&&◌, ◌==◌, Option, Some, is_some, unwrap_or, option_and_then, IfSome, IsTrue}
use Rattle.std.specs.Option.{option_eq}
use Rattle.hd_dbd.specs.declared.hierarchy.FreeSpace.{FreeSpace}
use Rattle.hd_dbd.specs.Types.{SegmentType}
use Rattle.hd_dbd.specs.Hierarchy.{parent_of, is_under}
use Rattle.hd_dbd.specs.DatabaseRules.{well_formed}
use Rattle.hd_dbd.specs.Segment.{Segment}
use Rattle.hd_dbd.specs.Searches.{first_from}
use Rattle.hd_dbd.specs.Paths.{row_at, parent_row, end_of}
use Rattle.hd_calls.specs.Ssas.{Ssa, target_code}
use Rattle.hd_calls.specs.Satisfies.{is_named}
use Rattle.hd_calls.specs.Gets.{first_child}
use Rattle.hd_calls.specs.Places.{end_below}
use Rattle.hd_calls.specs.Admits.{NonePass, is_on_way, AreRowsOf}

-- the type is a child of another, and on the way to a third
abbrev pub is_way_down : List SegmentType → ℕ → ℕ → ℕ → Bool
is_way_down types target code c = option_eq (λ p q. p == q) (parent_of types c) (Some code) && is_on_way types target c

-- the child type of a type that is on the way to a type below it
abbrev pub way_down : List SegmentType → ℕ → ℕ → Option ℕ
way_down types target code = first_from (is_way_down types target code) 1 (length types + 1)

-- the type with the same parent as a type that is on the way to another, where the parent's type is above that
abbrev pub way_beside : List SegmentType → ℕ → ℕ → Option ℕ
way_beside types target code = option_and_then (λ p. way_down types target p) (parent_of types code)

-- There is one way down to a type from just those on which it depends, and no second one.
abbrev pub WaysDownAreUnique : Type 0
WaysDownAreUnique =
    (block_size : ℕ) (frspc : FreeSpace) (types : List SegmentType) (target code : ℕ) → IsTrue (well_formed block_size frspc types)
    → (is_some (way_down types target code) ≡ is_under types target code)
    × ((c : ℕ) → (way_down types target code ≡ Some c) ↔ (is_way_down types target code c ≡ true))

-- From a row on no row is named before its first child of the type on the way down, or, where it has none, in its span.
abbrev pub FirstChildrenFollow : Type 0
FirstChildrenFollow =
    (types : List SegmentType) (rows : List Segment) (ssas : List Ssa) (i c : ℕ) → AreRowsOf types rows → i < length rows
    → way_down types (target_code ssas) (row_at rows i).code ≡ Some c
    → NonePass (is_named types rows ssas) i (unwrap_or (first_child types rows c i) (end_of types rows i))

-- Where a row's type is off the way, and none with the same parent and on the way comes later, no row from it on below its parent is
-- named.
abbrev pub NoLaterTypesFail : Type 0
NoLaterTypesFail =
    (types : List SegmentType) (rows : List Segment) (ssas : List Ssa) (i : ℕ) → AreRowsOf types rows → i < length rows
    → is_on_way types (target_code ssas) (row_at rows i).code ≡ false
    → IfSome (way_beside types (target_code ssas) (row_at rows i).code) (λ c. c ≤ (row_at rows i).code)
    → NonePass (is_named types rows ssas) i (end_below types rows (parent_row types rows i))

-- A row stands before its parent's first child of a later type, or, where the parent has none, in the parent's span.
abbrev pub LaterTypesFollow : Type 0
LaterTypesFollow =
    (types : List SegmentType) (rows : List Segment) (i q c : ℕ) → AreRowsOf types rows → i < length rows
    → parent_row types rows i ≡ Some q → (row_at rows i).code < c
    → i < unwrap_or (first_child types rows c q) (end_of types rows q)
