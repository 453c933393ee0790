-- How a search goes on from a row to its next twin, and where the rest of its parent's rows may be passed over.
use Rattle.std.specs.Prelude.{◌≡◌, ℕ, ◌+◌, ◌<◌, ◌≤◌, List, length, true, false, Option, None, is_none, unwrap_or}
use Rattle.hd_dbd.specs.Types.{SegmentType}
use Rattle.hd_dbd.specs.Segment.{Segment}
use Rattle.hd_dbd.specs.Searches.{first_from}
use Rattle.hd_dbd.specs.Paths.{row_at, parent_row, end_of, is_twin}
use Rattle.hd_calls.specs.Ssas.{Ssa, target_code}
use Rattle.hd_calls.specs.Satisfies.{is_last_so, is_named}
use Rattle.hd_calls.specs.Places.{end_below}
use Rattle.hd_calls.specs.Admits.{admits, NonePass, is_on_way, AreRowsOf}
use Rattle.hd_calls.specs.SearchKeys.{is_past}

-- the first twin behind a row
abbrev pub next_twin : List SegmentType → List Segment → ℕ → Option ℕ
next_twin types rows i = first_from (λ k. is_twin types rows i k) (i + 1) (length rows)

-- Behind the span of a row of a type on the way no row is named before the row's next twin, or, where it is the last one, among the
-- rest of its parent's rows.
abbrev pub NextTwinsFollow : Type 0
NextTwinsFollow =
    (types : List SegmentType) (rows : List Segment) (ssas : List Ssa) (i : ℕ) → AreRowsOf types rows → i < length rows
    → is_on_way types (target_code ssas) (row_at rows i).code ≡ true
    → NonePass (is_named types rows ssas) (end_of types rows i) (unwrap_or (next_twin types rows i) (end_below types rows (parent_row types rows i)))

-- Where neither a row of a type on the way nor a later twin is admitted, no row from it on below its parent is named.
abbrev pub TwinsFail : Type 0
TwinsFail =
    (types : List SegmentType) (rows : List Segment) (ssas : List Ssa) (i : ℕ) → AreRowsOf types rows → i < length rows
    → is_on_way types (target_code ssas) (row_at rows i).code ≡ true → admits types rows ssas i ≡ false
    → ((k : ℕ) → i < k → k < length rows → is_twin types rows i k ≡ true → admits types rows ssas k ≡ false)
    → NonePass (is_named types rows ssas) i (end_below types rows (parent_row types rows i))

-- Where neither a row of a type on the way nor a twin between it and a later twin is admitted, no row from it on before that is named.
abbrev pub EarlierTwinsFail : Type 0
EarlierTwinsFail =
    (types : List SegmentType) (rows : List Segment) (ssas : List Ssa) (i t : ℕ) → AreRowsOf types rows → i < length rows → t < length rows
    → is_on_way types (target_code ssas) (row_at rows i).code ≡ true → is_twin types rows i t ≡ true → admits types rows ssas i ≡ false
    → ((k : ℕ) → i < k → k < t → is_twin types rows i k ≡ true → admits types rows ssas k ≡ false)
    → NonePass (is_named types rows ssas) i t

-- Once the key of a row of a type on the way is past what an SSA asks, no row from it on below its parent is named.
abbrev pub PastKeysFail : Type 0
PastKeysFail =
    (types : List SegmentType) (rows : List Segment) (ssas : List Ssa) (i : ℕ) → AreRowsOf types rows → i < length rows
    → is_on_way types (target_code ssas) (row_at rows i).code ≡ true → is_past types ssas (row_at rows i) ≡ true
    → NonePass (is_named types rows ssas) i (end_below types rows (parent_row types rows i))

-- Where no root before a row is admitted, no row before it is named.
abbrev pub EarlierRootsFail : Type 0
EarlierRootsFail =
    (types : List SegmentType) (rows : List Segment) (ssas : List Ssa) (r : ℕ) → AreRowsOf types rows → r ≤ length rows
    → ((k : ℕ) → k < r → (row_at rows k).code ≡ 1 → admits types rows ssas k ≡ false) → NonePass (is_named types rows ssas) 0 r

-- L without a qualification is true of the last twin alone.
abbrev pub LastTwinsHaveL : Type 0
LastTwinsHaveL =
    (types : List SegmentType) (rows : List Segment) (a : Ssa) (i : ℕ) → a.groups ≡ None
    → is_last_so types rows a i ≡ is_none (next_twin types rows i)
