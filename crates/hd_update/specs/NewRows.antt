-- Rows that one ISRT puts in, each below the one before.
use Rattle.std.specs.Prelude.{◌≡◌, ◌≢◌, ℕ, List, [], ◌∷◌, ◌++◌, length, map, slice_index, true, Bool, Result, is_ok, IsTrue}
use Rattle.std.specs.Result.{result_unwrap_or}
use Rattle.hd_dbd.specs.Types.{SegmentType}
use Rattle.hd_dbd.specs.Hierarchy.{Database}
use Rattle.hd_dbd.specs.Segment.{Segment}
use Rattle.hd_dbd.specs.Rows.{row_fits, key_of}
use Rattle.hd_dbd.specs.Positions.{Position}
use Rattle.hd_dbd.specs.Forest.{Forest}
use Rattle.hd_calls.specs.declared.call.AreaFault.{AreaFault}
use Rattle.hd_calls.specs.Ssas.{Ssa}
use Rattle.hd_calls.specs.Moves.{position_after_insert}
use Rattle.hd_calls.specs.Steps.{new_row, divide, new_rows}
use Rattle.hd_volume.specs.Volumes.{VolumeState}
use Rattle.hd_links.specs.Links.{is_child_type}
use Rattle.hd_links.specs.Placed.{Placed}
use Rattle.hd_links.specs.LastRows.{segments_of}
use Rattle.hd_links.specs.Numbers.{LeafGoesInAt}
use Rattle.hd_image.specs.Holding.{HoldsPlaced}
use Rattle.hd_forest.specs.Walks.{tip}
use Rattle.hd_changes.specs.NewPaths.{IsPathIn}
use Rattle.hd_changes.specs.Rooms.{HasRoomFor, HasMemoryFor, HasRootRoomFor, HasRootMemoryFor}
use Rattle.hd_position.specs.Kept.{Kept, StandsFor}
use Rattle.hd_update.specs.Putting.{MayPut}

-- ---- the area

-- the codes of the types of some arguments
abbrev pub codes_of : List Ssa → List ℕ
codes_of ssas = map (λ a. a.code) ssas

-- the code of the type of the first argument, 0 where there is none
abbrev pub first_code : List Ssa → ℕ
first_code ssas = slice_index (codes_of ssas) 0

-- an area taken apart into rows of these types, one behind the other
abbrev pub parts_in : List SegmentType → List ℕ → List ℕ → Result (List (List ℕ)) AreaFault
parts_in types codes area = divide types (map (λ c. new_row c) codes) area

-- the area is rows of these types
abbrev pub are_rows_in : List SegmentType → List ℕ → List ℕ → Bool
are_rows_in types codes area = is_ok (parts_in types codes area)

-- the rows of these types that an area gives, one behind the other; none where it is not rows of these types
abbrev pub rows_in : List SegmentType → List ℕ → List ℕ → List Segment
rows_in types codes area = new_rows codes (result_unwrap_or (parts_in types codes area) [])

-- The rows may go in below a row of a type, each below the one before: each is one of the database, and of a child type of the one before.
abbrev pub GoDown : List SegmentType → ℕ → List Segment → Type 0
GoDown types code [] = Unit {0}
GoDown types code (r ∷ rows) = (is_child_type types code r.code ≡ true) × (row_fits types r ≡ true) × GoDown types r.code rows

-- ---- room

-- There are room and memory for a row and others below it, and for its entry in the index where it is a root.
pub record HasRoomAndMemory (d : Database) (v : VolumeState) (row : Segment) (rows : List Segment) : Type 0 where
  pub root : row.code ≡ 1 → HasRootRoomFor d v (key_of d.types row) (row ∷ rows) × HasRootMemoryFor v (row ∷ rows)
  pub below : row.code ≢ 1 → HasRoomFor d.types v (row ∷ rows) × HasMemoryFor d.types v (row ∷ rows)

-- the same, for whatever rows below it
abbrev pub HasRoomBelow : Database → VolumeState → Segment → Type 0
HasRoomBelow d v row = (rows : List Segment) × HasRoomAndMemory d v row rows

-- there are room and memory for rows, each below the one before
abbrev pub IsRoomMade : Database → VolumeState → List Segment → Type 0
IsRoomMade d v [] = Unit {0}
IsRoomMade d v (row ∷ rows) = HasRoomAndMemory d v row rows

-- there are room and memory for rows below one that went in
abbrev pub IsRoomLeft : Database → VolumeState → List Segment → Type 0
IsRoomLeft d v rows = HasRoomFor d.types v rows × HasMemoryFor d.types v rows

-- once the row went in, room and memory that there were for it and others below it last for these
abbrev pub LastsForOthers : Database → VolumeState → Segment → VolumeState → Type 0
LastsForOthers d v row w =
    (rows : List Segment) → IsTrue v.is_sound → HasRoomAndMemory d v row rows → HasRoomFor d.types w rows × HasMemoryFor d.types w rows

-- once the row went in below another, room and memory that there were for it and others below it last for these
abbrev pub LastsBelow : Database → VolumeState → Segment → VolumeState → Type 0
LastsBelow d v row w =
    (rows : List Segment) → IsTrue v.is_sound → HasRoomFor d.types v (row ∷ rows) → HasMemoryFor d.types v (row ∷ rows)
    → HasRoomFor d.types w rows × HasMemoryFor d.types w rows

-- ---- rows that are in

-- Rows went in at number n of the forest f, which the volume u held, each below the one before: the volume v holds the forest with them,
-- and each position moves up behind them.
pub record AreIn (d : Database) (u : VolumeState) (f : Forest Placed) (n : ℕ) (front : List Placed) (last : Placed) (v : VolumeState) : Type 0 where
  pub placed : Forest Placed
  pub is_in : IsPathIn d u f n front last v placed
  pub positions : (k : Kept) (q : Position) → StandsFor d.types f k q → StandsFor d.types placed k (position_after_insert n (length (front ++ last ∷ [])) q)

-- the addresses of some rows
abbrev pub places_of : List Placed → List ℕ
places_of rows = map (λ p. p.address) rows

-- The last of some rows that are in stands at the address, and others may go in below it, for which there are room and memory.
pub record TakeMore (d : Database) (v : VolumeState) (address : ℕ) (rows : List Segment) : Type 0 where
  pub before : VolumeState
  pub forest : Forest Placed
  pub number : ℕ
  pub front : List Placed
  pub last : Placed
  pub are : AreIn d before forest number front last v
  pub is : address ≡ last.address
  pub down : GoDown d.types last.segment.code rows
  pub room : HasRoomFor d.types v rows
  pub memory : HasMemoryFor d.types v rows

-- a row may go in below the last of some rows that are in, at the address, and perhaps others below it
abbrev pub TakesMore : Database → VolumeState → ℕ → Segment → Type 0
TakesMore d v address row = (rows : List Segment) × TakeMore d v address (row ∷ rows)

-- whatever rows were in of which the last stands at the address, the row went in below that, at the address a
abbrev pub GoesInBelow : Database → VolumeState → ℕ → Segment → ℕ → VolumeState → Type 0
GoesInBelow d v address row a w =
    (u : VolumeState) (f : Forest Placed) (n : ℕ) (front : List Placed) (last : Placed) → IsTrue v.is_sound → AreIn d u f n front last v → address ≡ last.address
    → is_child_type d.types last.segment.code row.code ≡ true → row_fits d.types row ≡ true
    → AreIn d u f n (front ++ last ∷ []) (record { address = a; segment = row }) w

-- Others went in below the rows that were in: these are all of them now, and the path goes down to the last.
pub record AreMore (d : Database) (u : VolumeState) (f : Forest Placed) (n : ℕ) (front : List Placed) (last : Placed) (path : List ℕ) (rows : List Segment) (w : VolumeState) (down : List ℕ) : Type 0 where
  pub others : List Placed
  pub end : Placed
  pub are : AreIn d u f n others end w
  pub new : List Placed
  pub all : others ++ end ∷ [] ≡ (front ++ last ∷ []) ++ new
  pub rows_are : segments_of new ≡ rows
  pub path_is : down ≡ path ++ places_of new

-- whatever rows were in of which the last stands at the end of the path, these rows went in below them
abbrev pub GoInBelow : Database → VolumeState → List ℕ → List Segment → VolumeState → List ℕ → Type 0
GoInBelow d v path rows w down =
    (u : VolumeState) (f : Forest Placed) (n : ℕ) (front : List Placed) (last : Placed) → IsTrue v.is_sound → AreIn d u f n front last v → tip path ≡ last.address
    → GoDown d.types last.segment.code rows → AreMore d u f n front last path rows w down

-- The rows went in below h behind its twin y, the first of them at a number where a leaf goes in, and each other below the one before: the path
-- is the parent's, and goes on down to the last of them.
pub record ArePutIn (d : Database) (v : VolumeState) (f : Forest Placed) (h y : ℕ) (above : List ℕ) (rows : List Segment) (path : List ℕ) (w : VolumeState) : Type 0 where
  pub number : ℕ
  pub front : List Placed
  pub last : Placed
  pub are : AreIn d v f number front last w
  pub rows_are : segments_of (front ++ last ∷ []) ≡ rows
  pub path_is : path ≡ above ++ places_of (front ++ last ∷ [])
  pub first : Placed
  pub others : List Placed
  pub begins : front ++ last ∷ [] ≡ first ∷ others
  pub goes_in : LeafGoesInAt d.types f h y first number

-- The rows may go in below the last row of a path, empty for the roots, each below the one before, the first behind its twin y.
abbrev pub MayPutThem : Database → VolumeState → List ℕ → ℕ → List Segment → Type 0
MayPutThem d v above y [] = ⊥
MayPutThem d v above y (row ∷ rows) =
    (row.code ≡ 1 → above ≡ []) × (row.code ≢ 1 → tip above ≢ 0) × MayPut d v (tip above) y row × GoDown d.types row.code rows

-- whatever forest the sound volume v held, the rows went in
abbrev pub PutThemIn : Database → VolumeState → List ℕ → ℕ → List Segment → List ℕ → VolumeState → Type 0
PutThemIn d v above y rows path w =
    (f : Forest Placed) → IsTrue v.is_sound → HoldsPlaced d v f → ArePutIn d v f (tip above) y above rows path w
