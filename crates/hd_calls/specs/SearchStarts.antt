-- Where a search begins under F.
use Rattle.std.specs.Prelude.{◌≡◌, ℕ, ◌+◌, ◌<◌, ◌≤◌, List, length, Bool, false, not, ◌&&◌, ◌==◌, nat_le, min, max, Option, Some, find, option_and_then, IfSome}
use Rattle.std.specs.Option.{option_map_or}
use Rattle.hd_dbd.specs.Types.{SegmentType}
use Rattle.hd_dbd.specs.Segment.{Segment}
use Rattle.hd_dbd.specs.Positions.{Position}
use Rattle.hd_dbd.specs.Paths.{row_at, level_at, end_of}
use Rattle.hd_calls.specs.declared.call.GetKind.TheVariants.{Next, NextInParent}
use Rattle.hd_calls.specs.Ssas.{Ssa}
use Rattle.hd_calls.specs.Gets.{first_child, first_occurrence, lowered_start, behind_parent, search_start}
use Rattle.hd_calls.specs.Admits.{AreRowsOf, IsSearch}
use Rattle.hd_calls.specs.SearchLevels.{path_row}

-- F has effect in the SSA: it has F, and is not the root's
abbrev pub has_first : Ssa → Bool
has_first a = a.commands.first && not (a.code == 1)

-- the first of the SSAs in which F has effect
abbrev pub topmost_first : List Ssa → Option Ssa
topmost_first ssas = find has_first ssas

-- Of the SSAs with F only the topmost can lower a start: where it has no first occurrence, none of those below it has one, and where
-- it has one, theirs come later.
abbrev pub OnlyTheTopmostLowers : Type 0
OnlyTheTopmostLowers =
    (types : List SegmentType) (rows : List Segment) (standing : Option ℕ) (ssas : List Ssa) (begin : ℕ) → IsSearch types rows ssas
    → IfSome standing (λ i. i < length rows)
    → lowered_start types rows standing ssas begin
    ≡ option_map_or (λ j. min begin j) (option_and_then (λ a. first_occurrence types rows standing a) (topmost_first ssas)) begin

-- Where row q has a child of a type, and row m is in q's span: the first such child is not behind row m just where the row below q on
-- the path of m is of that type or a later one.
abbrev pub FirstChildrenAreByPath : Type 0
FirstChildrenAreByPath =
    (types : List SegmentType) (rows : List Segment) (q m code j : ℕ) → AreRowsOf types rows → q ≤ m → m < end_of types rows q
    → m < length rows → first_child types rows code q ≡ Some j
    → nat_le j m ≡ option_map_or (λ k. nat_le code (row_at rows k).code) (path_row types rows m (level_at types rows q + 1)) false

-- GNP begins where GN does, but never before the row behind the parent.
abbrev pub ParentsComeFirst : Type 0
ParentsComeFirst =
    (types : List SegmentType) (rows : List Segment) (p : Position) (ssas : List Ssa)
    → search_start types rows p NextInParent ssas ≡ max (search_start types rows p Next ssas) (behind_parent p)
