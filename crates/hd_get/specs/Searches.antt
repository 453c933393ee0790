-- A search from row to row.
use Rattle.std.specs.Prelude.{◌≡◌, IsTrue, ℕ, ◌+◌, ◌<◌, ◌≤◌, List, [], length, Bool, true, false, nat_lt, cond, Some, None, option_map, unwrap_or}
use Rattle.std.specs.Option.{option_map_or}
use Rattle.std.specs.List.{list_all}
use Rattle.hd_dbd.specs.Types.{SegmentType}
use Rattle.hd_dbd.specs.Hierarchy.{Database}
use Rattle.hd_dbd.specs.Segment.{Segment}
use Rattle.hd_dbd.specs.Paths.{row_at, parent_row, path_of, end_of, is_twin}
use Rattle.hd_dbd.specs.Searches.{first_from}
use Rattle.hd_dbd.specs.Forest.{Forest}
use Rattle.hd_links.specs.Links.{Links, is_child_type, is_last_kept}
use Rattle.hd_links.specs.Placed.{Placed, Holds}
use Rattle.hd_links.specs.Steps.{rows_of, address_at, path_at, is_child_row}
use Rattle.hd_volume.specs.Volumes.{VolumeState}
use Rattle.hd_image.specs.Records.{links_of, IsVolumeOf}
use Rattle.hd_forest.specs.Rows.{IsOnRow, IsOnSomeRow}
use Rattle.hd_calls.specs.Gets.{first_child}
use Rattle.hd_calls.specs.Places.{end_below}
use Rattle.hd_calls.specs.Admits.{NonePass}
use Rattle.hd_calls.specs.SearchTwins.{next_twin}
use Rattle.hd_get.specs.declared.verdict.Verdict.{Verdict}
use Rattle.hd_get.specs.declared.verdict.Verdict.TheVariants.{Found, Next, Over, Down, DownToLast, Across, AcrossTo, Beside, BesideToLast, Rest}

-- ---- where a search is

-- the path to row i, none from the end of a search on
abbrev pub path_within : List SegmentType → Forest Placed → ℕ → ℕ → List ℕ
path_within types f end i = cond (nat_lt i end) (path_at types f i) []

-- A search that is at row i ends behind the last row, or, below the row at an address that is not 0, behind its last dependent.
pub record EndsAt (types : List SegmentType) (f : Forest Placed) (parent i end : ℕ) : Type 0 where
  pub whole : parent ≡ 0 → end ≡ length (rows_of f)
  pub under : 0 < parent → (q : ℕ) × (q < i) × (q < length (rows_of f)) × (address_at f q ≡ parent) × (end ≡ end_of types (rows_of f) q)

-- The records hold the forest, and the path leads to its row i, or to none from the end of the search on.
pub record LeadsWithin (types : List SegmentType) (m : Links) (f : Forest Placed) (parent end : ℕ) (path : List ℕ) (i : ℕ) : Type 0 where
  pub holds : Holds types m f
  pub ends : EndsAt types f parent i end
  pub is : path ≡ path_within types f end i

-- ---- what is known of the rows passed over

-- the parent of row i is admitted, and all above it
abbrev pub is_above_admitted : (ℕ → Bool) → List SegmentType → List Segment → ℕ → Bool
is_above_admitted admits types rows i = option_map_or (λ q. list_all admits (path_of types rows q)) (parent_row types rows i) true

-- every row is admitted
abbrev pub AllAdmitted : (ℕ → Bool) → Type 0
AllAdmitted admits = (k : ℕ) → admits k ≡ true

-- the next twin of a row, or the number behind its parent's rows
abbrev pub twin_or_end : List SegmentType → List Segment → ℕ → ℕ
twin_or_end types rows k = unwrap_or (next_twin types rows k) (end_below types rows (parent_row types rows k))

-- the path of a row's parent, none for a root
abbrev pub parent_path : List SegmentType → Forest Placed → ℕ → List ℕ
parent_path types f i = option_map_or (λ q. path_at types f q) (parent_row types (rows_of f) i) []

-- the first child of a type below a row, or the number behind its span
abbrev pub child_or_end : List SegmentType → List Segment → ℕ → ℕ → ℕ
child_or_end types rows i code = unwrap_or (first_child types rows code i) (end_of types rows i)

-- from the end of each span that row i lies in to the next twin of the span's row, or to the end of its parent's rows, none passes
abbrev pub NonePassAcross : (ℕ → Bool) → List SegmentType → List Segment → ℕ → Type 0
NonePassAcross test types rows i =
    (k : ℕ) → k ≤ i → i < end_of types rows k → NonePass test (end_of types rows k) (twin_or_end types rows k)

-- Row i is admitted, the type is one of its child types, and none passes before its first child of that type, nor across.
pub record IsWayDown (test admits : ℕ → Bool) (types : List SegmentType) (rows : List Segment) (i code : ℕ) : Type 0 where
  pub admitted : admits i ≡ true
  pub child : is_child_type types (row_at rows i).code code ≡ true
  pub none : NonePass test i (child_or_end types rows i code)
  pub across : NonePassAcross test types rows i

-- The search may go down from row i to its first child of the type; the last one is kept, and none passes before any of them.
pub record IsWayToLast (test admits : ℕ → Bool) (types : List SegmentType) (rows : List Segment) (i code : ℕ) : Type 0 where
  pub down : IsWayDown test admits types rows i code
  pub kept : is_last_kept types code ≡ true
  pub last : (j : ℕ) → j < length rows → is_child_row types rows i code j ≡ true → NonePass test i j

-- The parent of row i is admitted, and its first child of the type comes later than row i; none passes before that.
pub record IsWayBeside (test admits : ℕ → Bool) (types : List SegmentType) (rows : List Segment) (i code : ℕ) : Type 0 where
  pub parent : ℕ
  pub is : parent_row types rows i ≡ Some parent
  pub down : IsWayDown test admits types rows parent code
  pub later : i < child_or_end types rows parent code

-- Row k stands in the span of row i, before its last child of a type.
pub record IsBeforeLast (types : List SegmentType) (rows : List Segment) (i code k : ℕ) : Type 0 where
  pub inside : k < end_of types rows i
  pub before : (j : ℕ) → j < length rows → is_child_row types rows i code j ≡ true → next_twin types rows j ≡ None → k < j

-- The search may go down from the parent of row i to its last child of the type, which comes later than row i.
pub record IsWayBesideToLast (test admits : ℕ → Bool) (types : List SegmentType) (rows : List Segment) (i code : ℕ) : Type 0 where
  pub parent : ℕ
  pub is : parent_row types rows i ≡ Some parent
  pub to_last : IsWayToLast test admits types rows parent code
  pub later : IsBeforeLast types rows parent code i

-- The address is that of a later twin of row i, and none passes before that.
pub record IsWayAcross (test : ℕ → Bool) (types : List SegmentType) (f : Forest Placed) (i a : ℕ) : Type 0 where
  pub twin : ℕ
  pub later : i < twin
  pub within : twin < length (rows_of f)
  pub is : is_twin types (rows_of f) i twin ≡ true
  pub address : address_at f twin ≡ a
  pub none : NonePass test i twin

-- the search may go on below the row
abbrev pub goes_below : Verdict → Bool
goes_below Found = true
goes_below Next = true
goes_below (Down code) = true
goes_below (DownToLast code) = true
goes_below Over = false
goes_below Across = false
goes_below (AcrossTo a) = false
goes_below (Beside code) = false
goes_below (BesideToLast code) = false
goes_below Rest = false

-- The verdict on row i is right: so much it promises of the rows that the search then passes over.
pub record IsJudged (test admits : ℕ → Bool) (types : List SegmentType) (f : Forest Placed) (i : ℕ) (v : Verdict) : Type 0 where
  pub admitted : goes_below v ≡ true → admits i ≡ true
  pub span : goes_below v ≡ false → NonePass test i (end_of types (rows_of f) i)
  pub found : v ≡ Found → test i ≡ true
  pub next : v ≡ Next → (test i ≡ false) × AllAdmitted admits
  pub over : v ≡ Over → AllAdmitted admits
  pub down : (code : ℕ) → v ≡ Down code → IsWayDown test admits types (rows_of f) i code
  pub to_last : (code : ℕ) → v ≡ DownToLast code → IsWayToLast test admits types (rows_of f) i code
  pub across : v ≡ Across → NonePassAcross test types (rows_of f) i
  pub across_to : (a : ℕ) → v ≡ AcrossTo a → IsWayAcross test types f i a
  pub beside : (code : ℕ) → v ≡ Beside code → IsWayBeside test admits types (rows_of f) i code
  pub beside_to_last : (code : ℕ) → v ≡ BesideToLast code → IsWayBesideToLast test admits types (rows_of f) i code
  pub rest : v ≡ Rest → NonePass test i (end_below types (rows_of f) (parent_row types (rows_of f) i)) × NonePassAcross test types (rows_of f) i

-- The search went on from row i to a later row, or to its end: none on the way passes, and the parents of the row are admitted.
pub record GoesOn (test admits : ℕ → Bool) (types : List SegmentType) (f : Forest Placed) (end i : ℕ) (path : List ℕ) : Type 0 where
  pub number : ℕ
  pub later : i < number
  pub none : NonePass test i number
  pub above : number < end → is_above_admitted admits types (rows_of f) number ≡ true
  pub is : path ≡ path_within types f end number

-- A turn at row i has found it, or the search goes on.
pub record IsTurned (test admits : ℕ → Bool) (types : List SegmentType) (f : Forest Placed) (end i : ℕ) (r : Bool) (path : List ℕ) : Type 0 where
  pub found : r ≡ true → (test i ≡ true) × (path ≡ path_at types f i)
  pub on : r ≡ false → GoesOn test admits types f end i path

-- The search from row i on has found the first row that passes, and its path; or it has found that there is none before its end.
abbrev pub IsFound : (ℕ → Bool) → List SegmentType → Forest Placed → ℕ → ℕ → Bool → List ℕ → Type 0
IsFound test types f end i r path = cond r (Some path) None ≡ option_map (λ j. path_at types f j) (first_from test i end)

-- A step from row i across: to its next twin, or, where it is the last, up to its parent, or to no row from a root.
pub record IsClimbed (types : List SegmentType) (f : Forest Placed) (i : ℕ) (r : Bool) (path : List ℕ) : Type 0 where
  pub twin : r ≡ true → (j : ℕ) × (next_twin types (rows_of f) i ≡ Some j) × (path ≡ path_at types f j)
  pub up : r ≡ false → (next_twin types (rows_of f) i ≡ None) × (path ≡ parent_path types f i)

-- The search went across from row i: none that passes is missed, and the parents of the row where it is are admitted.
abbrev pub GoesAcross : List SegmentType → Forest Placed → ℕ → ℕ → List ℕ → Type 0
GoesAcross types f parent i path =
    (test admits : ℕ → Bool) (begin end : ℕ) → EndsAt types f parent begin end → begin ≤ i + 1 → i < end → NonePassAcross test types (rows_of f) i
    → is_above_admitted admits types (rows_of f) i ≡ true
    → (number : ℕ) × (end_of types (rows_of f) i ≤ number) × NonePass test (end_of types (rows_of f) i) number
    × (number < end → is_above_admitted admits types (rows_of f) number ≡ true) × (path ≡ path_within types f end number)

-- The search went down from row i to its first child of a type, or, where it has none, across.
abbrev pub GoesDown : List SegmentType → Forest Placed → ℕ → ℕ → ℕ → List ℕ → Type 0
GoesDown types f parent i code path =
    (test admits : ℕ → Bool) (end : ℕ) → EndsAt types f parent (i + 1) end → i < end → is_above_admitted admits types (rows_of f) i ≡ true
    → IsWayDown test admits types (rows_of f) i code
    → (on : GoesOn test admits types f end i path) × (child_or_end types (rows_of f) i code ≤ on.number)

-- The search went down from row i to its last child of a type, or, where it has none, across.
abbrev pub GoesToLast : List SegmentType → Forest Placed → ℕ → ℕ → ℕ → List ℕ → Type 0
GoesToLast types f parent i code path =
    (test admits : ℕ → Bool) (end : ℕ) → EndsAt types f parent (i + 1) end → i < end → is_above_admitted admits types (rows_of f) i ≡ true
    → IsWayToLast test admits types (rows_of f) i code
    → (on : GoesOn test admits types f end i path) × ((k : ℕ) → IsBeforeLast types (rows_of f) i code k → k < on.number)

-- The search went from row i to the first child of its parent of a type, or, where that has none, across from the parent.
abbrev pub GoesBeside : List SegmentType → Forest Placed → ℕ → ℕ → ℕ → List ℕ → Type 0
GoesBeside types f parent i code path =
    (test admits : ℕ → Bool) (end : ℕ) → EndsAt types f parent i end → i < end → is_above_admitted admits types (rows_of f) i ≡ true
    → IsWayBeside test admits types (rows_of f) i code → GoesOn test admits types f end i path

-- The search went from row i to the last child of its parent of a type, or, where that has none, across from the parent.
abbrev pub GoesBesideToLast : List SegmentType → Forest Placed → ℕ → ℕ → ℕ → List ℕ → Type 0
GoesBesideToLast types f parent i code path =
    (test admits : ℕ → Bool) (end : ℕ) → EndsAt types f parent i end → i < end → is_above_admitted admits types (rows_of f) i ≡ true
    → IsWayBesideToLast test admits types (rows_of f) i code → GoesOn test admits types f end i path

-- The search went on from row i to the row of a number, unless that is past its end.
abbrev pub GoesTo : List SegmentType → Forest Placed → ℕ → ℕ → ℕ → List ℕ → Type 0
GoesTo types f parent i number path = (end : ℕ) → EndsAt types f parent i end → path ≡ path_within types f end number

-- The search went over the rest of the rows of row i's parent.
abbrev pub GoesPast : List SegmentType → Forest Placed → ℕ → ℕ → List ℕ → Type 0
GoesPast types f parent i path =
    (test admits : ℕ → Bool) (end : ℕ) → EndsAt types f parent i end → i < end → is_above_admitted admits types (rows_of f) i ≡ true
    → NonePass test i (end_below types (rows_of f) (parent_row types (rows_of f) i)) → NonePassAcross test types (rows_of f) i
    → GoesOn test admits types f end i path

-- The search followed a verdict on row i.
abbrev pub FollowsVerdict : List SegmentType → Forest Placed → ℕ → ℕ → Verdict → Bool → List ℕ → Type 0
FollowsVerdict types f parent i verdict r path =
    (test admits : ℕ → Bool) (end : ℕ) → EndsAt types f parent i end → i < end → is_above_admitted admits types (rows_of f) i ≡ true
    → IsJudged test admits types f i verdict → IsTurned test admits types f end i r path

-- A search that was to begin at row n may as well begin at another, since none that is between passes; the rows above that one are
-- admitted.
pub record MayBeginAt (test admits : ℕ → Bool) (types : List SegmentType) (f : Forest Placed) (parent end n : ℕ) (path : List ℕ) : Type 0 where
  pub number : ℕ
  pub same : first_from test n end ≡ first_from test number end
  pub ends : EndsAt types f parent number end
  pub above : number < end → is_above_admitted admits types (rows_of f) number ≡ true
  pub is : path ≡ path_within types f end number

-- ---- the words of the contracts

-- where the store is sound, the volume is one of the database
abbrev pub IsOf : Database → VolumeState → Type 0
IsOf d v = IsTrue v.is_sound → IsVolumeOf d v

-- where the store is sound, the path is that of a row
abbrev pub IsThere : Database → VolumeState → List ℕ → Type 0
IsThere d v path = IsTrue v.is_sound → IsOnSomeRow d.types (links_of d.types v) path

-- The path is that of row i of a forest that the sound volume holds.
pub record IsPathOf (d : Database) (v : VolumeState) (f : Forest Placed) (path : List ℕ) (i : ℕ) : Type 0 where
  pub sound : IsTrue v.is_sound
  pub row : IsOnRow d.types (links_of d.types v) f path i

-- the verdict on the row of a path is right wherever the row's parents are admitted
abbrev pub IsVerdict : (List Segment → ℕ → Bool) → (List Segment → ℕ → Bool) → Database → VolumeState → List ℕ → Verdict → Type 0
IsVerdict test admits d v path verdict =
    (f : Forest Placed) (i : ℕ) → IsPathOf d v f path i → is_above_admitted (admits (rows_of f)) d.types (rows_of f) i ≡ true
    → IsJudged (test (rows_of f)) (admits (rows_of f)) d.types f i verdict

-- Where the store is sound, a search stands at a row of a forest that the volume holds, before its end, and the parents of the row
-- are admitted.
pub record IsSearching (admits : List Segment → ℕ → Bool) (d : Database) (v : VolumeState) (f : Forest Placed) (parent end : ℕ) (path : List ℕ) (i : ℕ) : Type 0 where
  pub sound : IsTrue v.is_sound
  pub leads : LeadsWithin d.types (links_of d.types v) f parent end path i
  pub above : i < end → is_above_admitted (admits (rows_of f)) d.types (rows_of f) i ≡ true

-- where the store is sound, a search stands somewhere
abbrev pub MaySearch : (List Segment → ℕ → Bool) → Database → VolumeState → ℕ → List ℕ → Type 0
MaySearch admits d v parent path =
    IsTrue v.is_sound → (f : Forest Placed) × (i : ℕ) × (end : ℕ) × IsSearching admits d v f parent end path i

-- What a search for the rows that pass a test has found, wherever it stood.
abbrev pub Finds : (List Segment → ℕ → Bool) → (List Segment → ℕ → Bool) → Database → VolumeState → ℕ → List ℕ → Bool → List ℕ → Type 0
Finds test admits d v parent path r found =
    (f : Forest Placed) (i end : ℕ) → IsSearching admits d v f parent end path i → IsFound (test (rows_of f)) d.types f end i r found

-- where the store is sound, the path leads to a row of a forest that the volume holds, before the end of a search, or to none
abbrev pub MayLead : Database → VolumeState → ℕ → List ℕ → Type 0
MayLead d v parent path =
    IsTrue v.is_sound → (f : Forest Placed) × (i : ℕ) × (end : ℕ) × LeadsWithin d.types (links_of d.types v) f parent end path i

-- Wherever the path led, the search may as well begin where the new path leads.
abbrev pub Settles : (List Segment → ℕ → Bool) → (List Segment → ℕ → Bool) → Database → VolumeState → ℕ → List ℕ → List ℕ → Type 0
Settles test admits d v parent path new =
    (f : Forest Placed) (n end : ℕ) → IsTrue v.is_sound → LeadsWithin d.types (links_of d.types v) f parent end path n
    → MayBeginAt (test (rows_of f)) (admits (rows_of f)) d.types f parent end n new
