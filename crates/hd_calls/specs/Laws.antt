-- Laws on the calls.
use Rattle.std.specs.Prelude.{◌≡◌, ℕ, ◌+◌, ◌<◌, ◌≤◌, List, [], ◌∷◌, length, true, false, Bool, ◌&&◌, ◌==◌, nat_le, nat_lt, Option, IfSome, IsTrue, unwrap_or}
use Rattle.std.specs.Option.{option_map_or}
use Rattle.std.specs.List.{list_any, AllByRecursion}
use Rattle.hd_dbd.specs.declared.hierarchy.FreeSpace.{FreeSpace}
use Rattle.hd_dbd.specs.declared.hierarchy.Rule.{Rule}
use Rattle.hd_dbd.specs.Types.{SegmentType, View}
use Rattle.hd_dbd.specs.Segment.{Segment}
use Rattle.hd_dbd.specs.DatabaseRules.{well_formed}
use Rattle.hd_dbd.specs.Rows.{valid, row_fits, twins_in_order}
use Rattle.hd_dbd.specs.Paths.{row_at, parent_row, path_of, end_of}
use Rattle.hd_dbd.specs.Searches.{first_from}
use Rattle.hd_dbd.specs.Positions.{Position}
use Rattle.hd_dbd.specs.Calls.{CallText}
use Rattle.hd_dbd.specs.Logs.{Outcome, Entry}
use Rattle.hd_calls.specs.Satisfies.{is_child}
use Rattle.hd_calls.specs.Steps.{State}
use Rattle.hd_calls.specs.Runs.{effect_by, state_after_outcome, last_state}
use Rattle.hd_calls.specs.NoLostUpdate.{opened}
use Rattle.hd_calls.specs.Places.{is_key_taken, comes_after, end_below, insertion_point}

-- ---- spans

-- A row of a span has the span's row on its path, and no other row has.
abbrev pub SpansAreTheRowsBelow : Type 0
SpansAreTheRowsBelow =
    (types : List SegmentType) (rows : List Segment) (i k : ℕ) → k < length rows
    → list_any (λ j. j == i) (path_of types rows k) ≡ (nat_le i k && nat_lt k (end_of types rows i))

-- A search whose test is false on the rest of a span may go on behind the span.
abbrev pub SpansMayBeSkipped : Type 0
SpansMayBeSkipped =
    (types : List SegmentType) (rows : List Segment) (test : ℕ → Bool) (i begin end : ℕ)
    → begin ≤ end_of types rows i → ((k : ℕ) → begin ≤ k → k < end_of types rows i → test k ≡ false)
    → first_from test begin end ≡ first_from test (end_of types rows i) end

-- ---- positions

-- Rows ascend on one path: each later one depends on each earlier.
abbrev pub LieOnOnePath : List SegmentType → List Segment → List ℕ → Type 0
LieOnOnePath types rows [] = Unit {0}
LieOnOnePath types rows (i ∷ is) =
    (i < length rows) × AllByRecursion (λ j. (i < j) × (j < end_of types rows i)) is × LieOnOnePath types rows is

-- A position over rows: not more are passed than there are, the PCB stands on one of them, if on any, one of them is its parent, if
-- it has one, and those that it holds ascend on one path.
pub record IsInRange (types : List SegmentType) (rows : List Segment) (p : Position) : Type 0 where
  pub passed : p.passed ≤ length rows
  pub standing : IfSome p.standing (λ i. i < length rows)
  pub parent : IfSome p.parent (λ i. i < length rows)
  pub held : LieOnOnePath types rows p.held

-- Rows and positions that a call may find: the rows are valid, and each position is in range.
pub record IsSound (types : List SegmentType) (st : State) : Type 0 where
  pub rows : valid types st.rows ≡ true
  pub positions : AllByRecursion (λ p. IsInRange types st.rows p) st.positions

-- Each call, whatever it comes to, leaves valid rows, and all positions in range.
abbrev pub CallsKeepStatesSound : Type 0
CallsKeepStatesSound =
    (block_size : ℕ) (frspc : FreeSpace) (types : List SegmentType) (pcbs : List View) (st : State) (number : ℕ) (call : CallText) (outcome : Outcome)
    → IsTrue (well_formed block_size frspc types) → IsSound types st
    → IsSound types (state_after_outcome types st number (effect_by types pcbs st number call) outcome)

-- In every run from valid rows and all PCBs at the start, each state has valid rows and all positions in range.
abbrev pub RunsStaySound : (Image : Type 0) → Type 0
RunsStaySound Image =
    (block_size : ℕ) (frspc : FreeSpace) (types : List SegmentType) (pcbs : List View) (rows : List Segment) (entries : List (Entry Image))
    → IsTrue (well_formed block_size frspc types) → valid types rows ≡ true
    → IsSound types (last_state types pcbs (opened pcbs rows) entries)

-- ---- the insertion point

-- row j is one of the parent's, or a root
abbrev pub IsOf : List SegmentType → List Segment → Option ℕ → ℕ → Type 0
IsOf types rows parent j = (j < length rows) × (parent_row types rows j ≡ parent)

-- the row behind the parent, or the first row
abbrev pub begin_below : Option ℕ → ℕ
begin_below parent = option_map_or (λ q. q + 1) parent 0

-- of the rows of a parent the first that is of the type or a later one, or the number behind all that depends on the parent
abbrev pub first_of_type : List SegmentType → List Segment → Option ℕ → ℕ → ℕ
first_of_type types rows parent code =
    unwrap_or
    (first_from (λ j. is_child types rows parent j && nat_le code (row_at rows j).code) (begin_below parent) (end_below types rows parent))
    (end_below types rows parent)

-- How the insertion point of a row lies among the rows of its parent: those that must come after the row are behind those that need
-- not; it is just behind the span of the last that need not; where each twin must come after, it is before the first row of the
-- type or a later one; and the twins on both sides of it are in key order with the row.
pub record IsBetweenTwins (types : List SegmentType) (rows : List Segment) (parent standing : Option ℕ) (rule : Rule) (new : Segment) : Type 0 where
  pub later : (j k : ℕ) → j < k → IsOf types rows parent k → comes_after types rows parent standing rule new j ≡ true → comes_after types rows parent standing rule new k ≡ true
  pub behind : (y : ℕ) → IsOf types rows parent y → comes_after types rows parent standing rule new y ≡ false
      → ((k : ℕ) → y < k → IsOf types rows parent k → comes_after types rows parent standing rule new k ≡ true)
      → insertion_point types rows parent standing rule new ≡ end_of types rows y
  pub first : ((j : ℕ) → IsOf types rows parent j → (row_at rows j).code ≡ new.code → comes_after types rows parent standing rule new j ≡ true)
      → insertion_point types rows parent standing rule new ≡ first_of_type types rows parent new.code
  pub twins_before : (y : ℕ) → IsOf types rows parent y → (row_at rows y).code ≡ new.code → comes_after types rows parent standing rule new y ≡ false
      → twins_in_order types (row_at rows y) new ≡ true
  pub twins_behind : (z : ℕ) → IsOf types rows parent z → (row_at rows z).code ≡ new.code → comes_after types rows parent standing rule new z ≡ true
      → twins_in_order types new (row_at rows z) ≡ true

-- The insertion point of a row whose key is not taken lies between its twins.
abbrev pub NewRowsGoBetweenTwins : Type 0
NewRowsGoBetweenTwins =
    (block_size : ℕ) (frspc : FreeSpace) (types : List SegmentType) (rows : List Segment) (parent standing : Option ℕ) (rule : Rule) (new : Segment)
    → IsTrue (well_formed block_size frspc types) → valid types rows ≡ true → row_fits types new ≡ true
    → IfSome parent (λ q. q < length rows) → is_key_taken types rows parent new ≡ false
    → IsBetweenTwins types rows parent standing rule new
