-- A row that is loaded behind all others.
use Rattle.std.specs.Prelude.{◌≡◌, ℕ, ◌-◌, List, [], ◌∷◌, length, map, IsTrue, true, Bool, Option, None, option_map, option_and_then, unwrap_or, slice_get}
use Rattle.std.specs.Option.{option_map_or}
use Rattle.std.specs.Ordering.{nat_cmp}
use Rattle.std.specs.Cmp.Lexicographic.{slice_cmp}
use Rattle.std.specs.declared.cmp.Ordering.{Ordering}
use Rattle.hd_dbd.specs.Types.{SegmentType, View}
use Rattle.hd_dbd.specs.declared.answer.LoadFault.{LoadFault}
use Rattle.hd_dbd.specs.declared.answer.Refused.{Refused}
use Rattle.hd_dbd.specs.declared.answer.Refused.TheVariants.{Full}
use Rattle.hd_dbd.specs.Hierarchy.{Database, parent_of, level_of}
use Rattle.hd_dbd.specs.Segment.{Segment}
use Rattle.hd_dbd.specs.Rows.{level, key_of}
use Rattle.hd_dbd.specs.Forest.{Forest}
use Rattle.hd_dbd.specs.Loads.{lacks_parent, order_fault, load_fault}
use Rattle.hd_calls.specs.Ssas.{Ssa}
use Rattle.hd_calls.specs.Access.{loads}
use Rattle.hd_calls.specs.Runs.{has_root, LacksRoom}
use Rattle.hd_calls.specs.Steps.{State, position_at, inserted_codes, load_step}
use Rattle.hd_volume.specs.Volumes.{VolumeState}
use Rattle.hd_links.specs.Placed.{Placed}
use Rattle.hd_links.specs.LastRows.{last_on, segments_of, parent_on_path, twin_on_path}
use Rattle.hd_links.specs.Links.{segment_at}
use Rattle.hd_image.specs.Records.{links_of}
use Rattle.hd_image.specs.Holding.{HoldsPlaced}
use Rattle.hd_index.specs.Changes.{IsLater}
use Rattle.hd_changes.specs.VolumeImages.{images_of}
use Rattle.hd_position.specs.Kept.{Kept}
use Rattle.hd_get.specs.declared.outcome.Outcome.{Outcome}
use Rattle.hd_update.specs.Putting.{IsPutIn}
use Rattle.hd_update.specs.Inserting.{insert_effect}
use Rattle.hd_update.specs.States.{Represents, IsAnswered, IsCallDone, IsAreaWrong, LacksRoomFor}

-- ---- the call

-- where the store is sound, the volume and what is kept stand for a state in which the PCB of a number has passed all rows
abbrev pub HasPassedAll : Database → VolumeState → List Kept → ℕ → Type 0
HasPassedAll d v kept number =
    IsTrue v.is_sound → (st : State) × Represents d v kept st × ((position_at st number).passed ≡ length st.rows)

-- the PCB loads, and the arguments insert one row of this type
abbrev pub InsertsOne : View → List Ssa → ℕ → Type 0
InsertsOne pcb ssas code = (loads pcb ≡ true) × (inserted_codes ssas ≡ code ∷ [])

-- the row was loaded, under whatever PCB that loads and arguments that insert one row of the type
abbrev pub IsLoadDone : Database → VolumeState → List Kept → ℕ → ℕ → List ℕ → Outcome → VolumeState → List Kept → Type 0
IsLoadDone d v old number code area outcome w new =
    (pcb : View) (ssas : List Ssa) → InsertsOne pcb ssas code → IsCallDone d v old number (insert_effect d pcb number ssas area) outcome w new

-- where a load was refused for the area, that has a wrong length
abbrev pub IsLoadAreaWrong : Database → VolumeState → List Kept → ℕ → ℕ → List ℕ → Refused → Type 0
IsLoadAreaWrong d v old number code area e =
    (pcb : View) (ssas : List Ssa) → InsertsOne pcb ssas code → IsAreaWrong d v old (insert_effect d pcb number ssas area) e

-- a load is refused as Full only where it would be answered with blanks, and room lacks for its row
abbrev pub IsLoadFull : Database → VolumeState → List Kept → ℕ → ℕ → List ℕ → Refused → Type 0
IsLoadFull d v old number code area e =
    (pcb : View) (ssas : List Ssa) (st : State) → InsertsOne pcb ssas code → e ≡ Full → IsTrue v.is_sound → Represents d v old st
    → LacksRoomFor d v st.rows (insert_effect d pcb number ssas area st)

-- ---- the path of the last row

-- The sound volume, of version 2 or later, holds the forest, and the path is that of its last row.
pub record IsLastPath (d : Database) (v : VolumeState) (path : List ℕ) (f : Forest Placed) : Type 0 where
  pub sound : IsTrue v.is_sound
  pub later : IsLater v
  pub holds : HoldsPlaced d v f
  pub is : path ≡ map (λ p. p.address) (last_on f)

-- where the store is sound, the path is that of the last row of a forest that the volume holds
abbrev pub HasLastPath : Database → VolumeState → List ℕ → Type 0
HasLastPath d v path = IsTrue v.is_sound → (f : Forest Placed) × IsLastPath d v path f

-- the code of what stands at a place of a path, from 0
abbrev pub code_on : List Placed → ℕ → Option ℕ
code_on path place = option_map (λ p. p.segment.code) (slice_get path place)

-- of whatever forest the path is that of the last row, this is the code at a place of it
abbrev pub IsCodeOn : Database → VolumeState → List ℕ → ℕ → Option ℕ → Type 0
IsCodeOn d v path place r = (f : Forest Placed) → IsLastPath d v path f → r ≡ code_on (last_on f) place

-- of whatever forest the path is that of the last row, the answer says whether it lacks the parent of a type
abbrev pub SaysParentLacks : Database → VolumeState → List ℕ → ℕ → Bool → Type 0
SaysParentLacks d v path code r =
    (f : Forest Placed) → IsLastPath d v path f → r ≡ lacks_parent d.types (segments_of (last_on f)) (record { code = code; bytes = [] })

-- of whatever forest the path is that of the last row, this is why the row may not be loaded behind that, if there is a reason
abbrev pub IsLoadFault : Database → VolumeState → List ℕ → Segment → Option LoadFault → Type 0
IsLoadFault d v path row r = (f : Forest Placed) → IsLastPath d v path f → r ≡ load_fault d.types (segments_of (last_on f)) row

-- of whatever forest the path is that of the last row, this is why the row may not be loaded behind the one before it below its parent
abbrev pub IsOrderFault : Database → VolumeState → List ℕ → Segment → Option LoadFault → Type 0
IsOrderFault d v path row r =
    (f : Forest Placed) → IsLastPath d v path f
    → r ≡ option_and_then (λ p. order_fault d.types p.segment row) (slice_get (last_on f) (level d.types row - 1))

-- of whatever forest the path is that of the last row, this is the twin behind which a row of a type is loaded
abbrev pub IsLastTwin : Database → VolumeState → List ℕ → ℕ → ℕ → Type 0
IsLastTwin d v path code r =
    (f : Forest Placed) → IsLastPath d v path f → r ≡ twin_on_path d.types (last_on f) (record { code = code; bytes = [] })

-- the parent of a row of a type, by addresses of a path: 0 for a root
abbrev pub last_parent : List SegmentType → List ℕ → ℕ → ℕ
last_parent types path code = option_map_or (λ _. unwrap_or (slice_get path (level_of types code - 2)) 0) (parent_of types code) 0

-- how the key of the segment at an address stands to a row's
abbrev pub IsKeyOrder : Database → VolumeState → ℕ → Segment → Ordering → Type 0
IsKeyOrder d v a row order = order ≡ slice_cmp nat_cmp (key_of d.types (segment_at (links_of d.types v) a)) (key_of d.types row)

-- ---- once nothing forbids it

-- where the store is sound, the path is that of the last row of a forest that the volume holds, and the row may be loaded behind it
abbrev pub MayLoad : Database → VolumeState → List ℕ → Segment → Type 0
MayLoad d v path row = IsTrue v.is_sound → (f : Forest Placed) × IsLastPath d v path f × (load_fault d.types (segments_of (last_on f)) row ≡ None)

-- whatever state the volume and what was kept stood for, the row was loaded behind all rows
abbrev pub IsRowLoaded : Database → VolumeState → List Kept → ℕ → Segment → Outcome → VolumeState → List Kept → Type 0
IsRowLoaded d v old number row outcome w new =
    (pcb : View) (st : State) → IsTrue v.is_sound → Represents d v old st
    → IsAnswered d v st number (load_step (record { types = d.types; pcb = pcb }) st.rows (position_at st number) row) outcome w new

-- the row is refused as Full only where the volume's bytes lack room for it
abbrev pub IsRowFull : Database → VolumeState → Segment → Refused → Type 0
IsRowFull d v row e = e ≡ Full → IsTrue v.is_sound → LacksRoom (images_of d) d.types v.image (row ∷ []) (has_root (row ∷ []))

-- Of whatever forest the path was that of the last row, the row went in below its parent on the path, behind its twin there, and stands at
-- the address a.
abbrev pub PutsLast : Database → VolumeState → List ℕ → Segment → ℕ → VolumeState → Type 0
PutsLast d v path row a w =
    (f : Forest Placed) → IsLastPath d v path f → IsPutIn d v f (parent_on_path d.types (last_on f) row) (twin_on_path d.types (last_on f) row) row a w
