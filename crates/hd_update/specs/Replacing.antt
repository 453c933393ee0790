-- New bytes for the rows that a PCB holds.
use Rattle.std.specs.Prelude.{◌≡◌, ◌⊎◌, ℕ, ◌+◌, ◌<◌, ◌≤◌, ◌==◌, List, [], ◌∷◌, length, take, drop, map, cond, IsTrue, Bool, Result, true, false}
use Rattle.std.specs.List.{list_all, list_any}
use Rattle.hd_dbd.specs.Types.{SegmentType}
use Rattle.hd_dbd.specs.Hierarchy.{Database}
use Rattle.hd_dbd.specs.Rows.{key_of, row_fits}
use Rattle.hd_dbd.specs.Paths.{row_at}
use Rattle.hd_dbd.specs.Segment.{Segment}
use Rattle.hd_dbd.specs.Positions.{Position}
use Rattle.hd_dbd.specs.Forest.{Forest}
use Rattle.hd_calls.specs.Ssas.{Ssa}
use Rattle.hd_calls.specs.Moves.{Rewrite, rewritten, position_after_rewrite}
use Rattle.hd_calls.specs.Runs.{LacksRoom, rows_stored, stored_sizes}
use Rattle.hd_calls.specs.declared.call.AreaFault.{AreaFault}
use Rattle.hd_calls.specs.Steps.{Part, new_row, old_bytes, divide, is_excepted, keeps_key}
use Rattle.hd_volume.specs.Volumes.{VolumeState}
use Rattle.hd_links.specs.Placed.{Placed}
use Rattle.hd_volume.specs.Rooms.{spare}
use Rattle.hd_links.specs.Links.{segment_at}
use Rattle.hd_links.specs.Changes.{CanReplace}
use Rattle.hd_links.specs.Steps.{rows_of, address_at, LeadsDown}
use Rattle.hd_image.specs.Records.{links_of, IsVolumeOf}
use Rattle.hd_image.specs.Holding.{HoldsPlaced}
use Rattle.hd_forest.specs.Walks.{tip}
use Rattle.hd_forest.specs.Replacing.{IsRowSet}
use Rattle.hd_index.specs.Maps.{with_address}
use Rattle.hd_index.specs.Changes.{IsLater, entries_for}
use Rattle.hd_changes.specs.Entered.{IsEntered}
use Rattle.hd_changes.specs.Rooms.{HasRoomFor, HasMemoryFor}
use Rattle.hd_changes.specs.SetRows.{KeepsEntry, AreSet}
use Rattle.hd_changes.specs.VolumeImages.{images_of}
use Rattle.hd_position.specs.Kept.{Kept, StandsFor, path_passed, path_before}
use Rattle.hd_update.specs.Positions.{after_rewrites}
use Rattle.hd_update.specs.declared.held.HeldRow.{HeldRow}
use Rattle.hd_update.specs.declared.replaced.ReplacedRow.{ReplacedRow}
use Rattle.hd_update.specs.declared.rewrites.NewBytes.{NewBytes}

-- the part of a held row: new bytes, or as many as it has where N excepts it
abbrev pub part_of : List Ssa → HeldRow → Part
part_of ssas h = cond (is_excepted ssas h.code) (old_bytes h.length) (new_row h.code)

-- an area taken apart into the parts of these rows, one behind the other
abbrev pub parts_held : List SegmentType → List Ssa → List HeldRow → List ℕ → Result (List (List ℕ)) AreaFault
parts_held types ssas rows area = divide types (map (λ h. part_of ssas h) rows) area

-- of rows with these parts, which stand one behind the other in an area from a place on, those that are not excepted by N, and where their
-- parts stand
abbrev pub new_bytes_from : List Ssa → ℕ → List HeldRow → List (List ℕ) → List NewBytes
new_bytes_from ssas start [] parts = []
new_bytes_from ssas start (h ∷ hs) [] = []
new_bytes_from ssas start (h ∷ hs) (part ∷ parts) =
    cond (is_excepted ssas h.code) (new_bytes_from ssas (start + length part) hs parts)
    (record { address = h.address; code = h.code; had = h.length; start = start; length = length part } ∷ new_bytes_from ssas (start + length part) hs parts)

-- the part of an area that has a row's new bytes
abbrev pub part_for : List ℕ → NewBytes → List ℕ
part_for area n = take n.length (drop n.start area)

-- The new bytes stand within the area, and fit the type.
pub record IsInArea (types : List SegmentType) (area : List ℕ) (n : NewBytes) : Type 0 where
  pub within : n.start + n.length ≤ length area
  pub fits : row_fits types (record { code = n.code; bytes = part_for area n }) ≡ true

-- the same, of each
abbrev pub AreInArea : List SegmentType → List ℕ → List NewBytes → Type 0
AreInArea types area [] = Unit {0}
AreInArea types area (n ∷ ns) = IsInArea types area n × AreInArea types area ns

-- The new bytes are those that a rewrite gives to a row of the forest, and fit its type.
pub record IsRewriteOf (types : List SegmentType) (f : Forest Placed) (area : List ℕ) (n : NewBytes) (w : Rewrite) : Type 0 where
  pub row : w.number < length (rows_of f)
  pub address : n.address ≡ address_at f w.number
  pub code : n.code ≡ (row_at (rows_of f) w.number).code
  pub had : n.had ≡ length (row_at (rows_of f) w.number).bytes
  pub bytes : part_for area n ≡ w.bytes
  pub within : n.start + n.length ≤ length area
  pub fits : row_fits types (record { code = n.code; bytes = w.bytes }) ≡ true

-- the same, one by one
abbrev pub AreRewritesOf : List SegmentType → Forest Placed → List ℕ → List NewBytes → List Rewrite → Type 0
AreRewritesOf types f area [] [] = Unit {0}
AreRewritesOf types f area [] (w ∷ ws) = ⊥
AreRewritesOf types f area (n ∷ ns) [] = ⊥
AreRewritesOf types f area (n ∷ ns) (w ∷ ws) = IsRewriteOf types f area n w × AreRewritesOf types f area ns ws

-- whatever row of a forest of the sound volume the new bytes are for, the answer says whether they have the key that the row has
abbrev pub SaysKeyStays : Database → VolumeState → List ℕ → NewBytes → Bool → Type 0
SaysKeyStays d v area n r =
    (f : Forest Placed) (w : Rewrite) → IsTrue v.is_sound → HoldsPlaced d v f → IsRewriteOf d.types f area n w → r ≡ keeps_key d.types (rows_of f) w

-- where the store is sound, the new bytes are for rows of a forest that the volume holds
abbrev pub HaveRows : Database → VolumeState → List ℕ → List NewBytes → Type 0
HaveRows d v area news = IsTrue v.is_sound → (f : Forest Placed) × (ws : List Rewrite) × HoldsPlaced d v f × AreRewritesOf d.types f area news ws

-- whatever rows of a forest of the sound volume the new bytes are for, the answer says whether each has the key that its row has
abbrev pub SaysKeysStay : Database → VolumeState → List ℕ → List NewBytes → Bool → Type 0
SaysKeysStay d v area news r =
    (f : Forest Placed) (ws : List Rewrite) → IsTrue v.is_sound → HoldsPlaced d v f → AreRewritesOf d.types f area news ws
    → r ≡ list_all (λ w. keeps_key d.types (rows_of f) w) ws

-- ---- room

-- whatever rows of a forest the new bytes are for, so many of them are made longer, and take so many bytes together then
abbrev pub IsRoomAsked : List SegmentType → List ℕ → List NewBytes → ℕ → ℕ → Type 0
IsRoomAsked types area news count total =
    (f : Forest Placed) (ws : List Rewrite) → AreRewritesOf types f area news ws
    → (count ≡ length (rows_stored (rows_of f) (rewritten ws))) × (total ≡ stored_sizes types (rows_stored (rows_of f) (rewritten ws)))

-- whatever rows of a forest the new bytes are for, there are room and memory for those that are made longer
abbrev pub IsRoomMadeFor : List SegmentType → List ℕ → List NewBytes → VolumeState → Type 0
IsRoomMadeFor types area news v =
    (f : Forest Placed) (ws : List Rewrite) → AreRewritesOf types f area news ws
    → HasRoomFor types v (rows_stored (rows_of f) (rewritten ws)) × HasMemoryFor types v (rows_stored (rows_of f) (rewritten ws))

-- whatever rows of a forest the new bytes are for, the volume's bytes lack room for those that are made longer
abbrev pub LacksRoomToReplace : Database → VolumeState → List ℕ → List NewBytes → Type 0
LacksRoomToReplace d v area news =
    (f : Forest Placed) (ws : List Rewrite) → IsVolumeOf d v → AreRewritesOf d.types f area news ws
    → LacksRoom (images_of d) d.types v.image (rows_stored (rows_of f) (rewritten ws)) false

-- whatever rows of a forest the new bytes are for, one is made longer
abbrev pub MakeLonger : List SegmentType → List ℕ → List NewBytes → Type 0
MakeLonger types area news = (f : Forest Placed) (ws : List Rewrite) → AreRewritesOf types f area news ws → 0 < length (rows_stored (rows_of f) (rewritten ws))

-- ---- one row

-- The last row of the path may get other bytes: the volume, of version 2 or later, holds a forest, in which it is of the row's type, and its
-- key stays.
pub record MayReplace (d : Database) (v : VolumeState) (path : List ℕ) (row : Segment) : Type 0 where
  pub later : IsLater v
  pub placed : Forest Placed
  pub holds : HoldsPlaced d v placed
  pub down : (0 < length path) × LeadsDown d.types (links_of d.types v) 0 path
  pub typed : (links_of d.types v).code (tip path) ≡ row.code
  pub may : CanReplace d.types (links_of d.types v) (tip path) row.bytes

-- The last row of a path is a root, and its key got an address in the index.
pub record IsEntrySet (d : Database) (v : VolumeState) (path : List ℕ) (to : ℕ) (between w : VolumeState) : Type 0 where
  pub root : (links_of d.types v).code (tip path) ≡ 1
  pub entered : IsEntered d between (with_address (key_of d.types (segment_at (links_of d.types v) (tip path))) to (entries_for d between)) 0 w
  pub spares : spare w ≡ spare between
  pub room : w.room ≡ between.room

-- The last row of a path got other bytes and stands at an address; the index has that at the key of a root that moved.
pub record IsReplacedTo (d : Database) (v : VolumeState) (path : List ℕ) (row : Segment) (to : ℕ) (w : VolumeState) : Type 0 where
  pub between : VolumeState
  pub set : IsRowSet d v path row to between
  pub entered : (KeepsEntry d v path to × (w ≡ between)) ⊎ IsEntrySet d v path to between w

-- ---- all rows

-- Each rewrite is of a row on the path, by their numbers, and of another row than those behind it.
abbrev pub AreOnPath : List ℕ → List Rewrite → Type 0
AreOnPath path [] = Unit {0}
AreOnPath path (w ∷ ws) = (list_any (λ j. j == w.number) path ≡ true) × (list_any (λ z. z.number == w.number) ws ≡ false) × AreOnPath path ws

-- Rows of the forest f, which the volume, of version 2 or later, holds, may get these new bytes: they are rows of one path, each keeps its
-- key, and there are room and memory for those that are made longer.
pub record MayReplaceAll (d : Database) (v : VolumeState) (path area : List ℕ) (news : List NewBytes) (f : Forest Placed) (ws : List Rewrite) : Type 0 where
  pub later : IsLater v
  pub holds : HoldsPlaced d v f
  pub are : AreRewritesOf d.types f area news ws
  pub keys : list_all (λ w. keeps_key d.types (rows_of f) w) ws ≡ true
  pub passed : ℕ
  pub within : passed ≤ length (rows_of f)
  pub path_is : path ≡ path_before d.types f passed
  pub on : AreOnPath (path_passed d.types (rows_of f) passed) ws
  pub room : HasRoomFor d.types v (rows_stored (rows_of f) (rewritten ws))
  pub memory : HasMemoryFor d.types v (rows_stored (rows_of f) (rewritten ws))

-- where the store is sound, rows of a forest that the volume holds may get these new bytes
abbrev pub MayReplaceSome : Database → VolumeState → List ℕ → List ℕ → List NewBytes → Type 0
MayReplaceSome d v path area news = IsTrue v.is_sound → (f : Forest Placed) × (ws : List Rewrite) × MayReplaceAll d v path area news f ws

-- Rows of the forest f, which the volume v held, got these new bytes, and stand where it is told: the volume w holds the forest with them, each
-- row has the code and the key that it had, and each position moves, where a hold of these rows ends.
pub record AreReplaced (d : Database) (v : VolumeState) (f : Forest Placed) (ws : List Rewrite) (w : VolumeState) (rows : List ReplacedRow) : Type 0 where
  pub placed : Forest Placed
  pub set : AreSet d v f ws w placed
  pub codes : (i : ℕ) → (row_at (rows_of placed) i).code ≡ (row_at (rows_of f) i).code
  pub keys : (i : ℕ) → key_of d.types (row_at (rows_of placed) i) ≡ key_of d.types (row_at (rows_of f) i)
  pub positions : (k : Kept) (q : Position) → StandsFor d.types f k q → StandsFor d.types placed (after_rewrites rows k) (position_after_rewrite ws q)

-- whatever rows of a forest of the sound volume v might get these new bytes, they got them
abbrev pub ReplacesThem : Database → VolumeState → List ℕ → List ℕ → List NewBytes → VolumeState → List ReplacedRow → Type 0
ReplacesThem d v path area news w rows =
    (f : Forest Placed) (ws : List Rewrite) → IsTrue v.is_sound → MayReplaceAll d v path area news f ws → AreReplaced d v f ws w rows
