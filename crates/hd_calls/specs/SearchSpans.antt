-- Rows that a search passes over with all that depends on them.
use Rattle.std.specs.Prelude.{◌≡◌, ◌↔◌, ℕ, ◌+◌, ◌<◌, ◌≤◌, List, [], length, Bool, false, ◌&&◌, ◌==◌, Some, None, Ok, is_some}
use Rattle.hd_dbd.specs.Types.{SegmentType}
use Rattle.hd_dbd.specs.Segment.{Segment}
use Rattle.hd_dbd.specs.Letters.{gives_get}
use Rattle.hd_dbd.specs.Searches.{first_from}
use Rattle.hd_dbd.specs.Paths.{row_at, end_of}
use Rattle.hd_dbd.specs.Views.{Setting, may}
use Rattle.hd_calls.specs.declared.call.Function.{Function}
use Rattle.hd_calls.specs.Ssas.{Ssa, resolve, target_code}
use Rattle.hd_calls.specs.Satisfies.{on_path, is_named, satisfies}
use Rattle.hd_calls.specs.Admits.{admits, all_admitted, NonePass, is_on_way, Descend, AreRowsOf, IsSearch}

-- The types of the SSAs of a call descend: each depends on that of the SSA before it.
abbrev pub ResolvedSsasDescend : Type 0
ResolvedSsasDescend =
    (s : Setting) (f : Function) (texts : List (List ℕ)) (ssas : List Ssa) → resolve s f texts ≡ Ok ssas → Descend s.types None ssas

-- With SSAs a row satisfies just where they name it and its type may be read.
abbrev pub SatisfyingRowsAreNamed : Type 0
SatisfyingRowsAreNamed =
    (s : Setting) (rows : List Segment) (ssas : List Ssa) (i : ℕ) → 0 < length ssas
    → satisfies s rows ssas i ≡ (is_named s.types rows ssas i && may s gives_get (row_at rows i).code)

-- SSAs name a row just where it is of the last one's type and each row on its path meets the SSAs of its type.
abbrev pub NamedRowsAreAdmitted : Type 0
NamedRowsAreAdmitted =
    (types : List SegmentType) (rows : List Segment) (ssas : List Ssa) (i : ℕ) → IsSearch types rows ssas → i < length rows
    → is_named types rows ssas i ≡ ((row_at rows i).code == target_code ssas && all_admitted types rows ssas i)

-- In the span of a row that is not admitted no row is named.
abbrev pub SpansFail : Type 0
SpansFail =
    (types : List SegmentType) (rows : List Segment) (ssas : List Ssa) (i : ℕ) → i < length rows → admits types rows ssas i ≡ false
    → NonePass (is_named types rows ssas) i (end_of types rows i)

-- In the span of a row whose type is not on the way to the last SSA's no row is named.
abbrev pub OtherTypesFail : Type 0
OtherTypesFail =
    (types : List SegmentType) (rows : List Segment) (ssas : List Ssa) (i : ℕ) → AreRowsOf types rows → i < length rows
    → is_on_way types (target_code ssas) (row_at rows i).code ≡ false → NonePass (is_named types rows ssas) i (end_of types rows i)

-- the type, or one that depends on it, may be read
abbrev pub reads_some_below : Setting → ℕ → Bool
reads_some_below s code = is_some (first_from (λ c. is_on_way s.types c code && may s gives_get c) 1 (length s.types + 1))

-- In the span of a row no row satisfies a call without SSAs, where neither its type nor one that depends on it may be read.
abbrev pub UnreadSpansFail : Type 0
UnreadSpansFail =
    (s : Setting) (rows : List Segment) (i : ℕ) → AreRowsOf s.types rows → i < length rows
    → reads_some_below s (row_at rows i).code ≡ false → NonePass (satisfies s rows []) i (end_of s.types rows i)

-- A row is in the span of an earlier one just where that is on its path.
abbrev pub SpansAreByPath : Type 0
SpansAreByPath =
    (types : List SegmentType) (rows : List Segment) (q i : ℕ) → q ≤ i → i < length rows
    → (i < end_of types rows q) ↔ (on_path types rows (row_at rows q).code i ≡ Some q)
