-- What ISRT comes to.
use Rattle.std.specs.Prelude.{◌≡◌, ℕ, zero, suc, ◌+◌, ◌<◌, List, [], ◌∷◌, length, true, false, cond, Option, Some, None, option_map, Ok, IsTrue, slice_index}
use Rattle.std.specs.Option.{option_map_or}
use Rattle.hd_dbd.specs.declared.hierarchy.Rule.{Rule}
use Rattle.hd_dbd.specs.declared.answer.Status.TheVariants.{II}
use Rattle.hd_dbd.specs.declared.answer.Refused.{Refused}
use Rattle.hd_dbd.specs.declared.answer.Refused.TheVariants.{Full}
use Rattle.hd_dbd.specs.Types.{SegmentType, View}
use Rattle.hd_dbd.specs.Hierarchy.{Database, parent_of}
use Rattle.hd_dbd.specs.Segment.{Segment}
use Rattle.hd_dbd.specs.Paths.{parent_row}
use Rattle.hd_dbd.specs.Positions.{Position}
use Rattle.hd_dbd.specs.Views.{Setting}
use Rattle.hd_dbd.specs.Forest.{Forest}
use Rattle.hd_calls.specs.declared.call.Function.TheVariants.{Insert}
use Rattle.hd_calls.specs.Access.{loads}
use Rattle.hd_calls.specs.Ssas.{Ssa, resolve, target_code}
use Rattle.hd_calls.specs.Moves.{put_in}
use Rattle.hd_calls.specs.Places.{insert_parent, is_key_taken, insertion_point}
use Rattle.hd_calls.specs.Steps.{State, Effect, wrong_area, position_at, bare_answer, insert_at, insert_step}
use Rattle.hd_volume.specs.Volumes.{VolumeState}
use Rattle.hd_links.specs.Links.{is_child_type}
use Rattle.hd_links.specs.Placed.{Placed}
use Rattle.hd_links.specs.Numbers.{LeafGoesInAt}
use Rattle.hd_links.specs.Steps.{rows_of}
use Rattle.hd_forest.specs.Walks.{tip}
use Rattle.hd_position.specs.Kept.{Kept}
use Rattle.hd_get.specs.Gets.{IsPositionIn}
use Rattle.hd_get.specs.declared.outcome.Outcome.{Outcome}
use Rattle.hd_update.specs.NewRows.{MayPutThem, rows_in}
use Rattle.hd_update.specs.Places.{IsPathOfParent, IsTypeBelow}
use Rattle.hd_update.specs.States.{LacksRoomFor, Represents, IsAnswered, IsCallDone, IsAreaWrong}

-- ---- the call

-- the arguments are those of an ISRT by some PCB
abbrev pub AreInsertArguments : List SegmentType → List Ssa → Type 0
AreInsertArguments types ssas = (pcb : View) × (texts : List (List ℕ)) × (resolve (record { types = types; pcb = pcb }) Insert texts ≡ Ok ssas)

-- what ISRT does in a state
abbrev pub insert_effect : Database → View → ℕ → List Ssa → List ℕ → State → Effect
insert_effect d pcb number ssas area st = insert_step (record { types = d.types; pcb = pcb }) st.rows (position_at st number) ssas area

-- ISRT was done, under whatever PCB that does not load
abbrev pub IsInsertDone : Database → VolumeState → List Kept → ℕ → List Ssa → List ℕ → Outcome → VolumeState → List Kept → Type 0
IsInsertDone d v old number ssas area outcome w new =
    (pcb : View) → loads pcb ≡ false → IsCallDone d v old number (insert_effect d pcb number ssas area) outcome w new

-- where ISRT was refused for the area, that has a wrong length
abbrev pub IsInsertAreaWrong : Database → VolumeState → List Kept → ℕ → List Ssa → List ℕ → Refused → Type 0
IsInsertAreaWrong d v old number ssas area e = (pcb : View) → loads pcb ≡ false → IsAreaWrong d v old (insert_effect d pcb number ssas area) e

-- ISRT is refused as Full only where it would be answered with blanks, and room lacks for its rows
abbrev pub IsInsertFull : Database → VolumeState → List Kept → ℕ → List Ssa → List ℕ → Refused → Type 0
IsInsertFull d v old number ssas area e =
    (pcb : View) (st : State) → loads pcb ≡ false → e ≡ Full → IsTrue v.is_sound → Represents d v old st → LacksRoomFor d v st.rows (insert_effect d pcb number ssas area st)

-- ---- the parent

-- each type is a child type of the one before it, the first of the given one
abbrev pub StepDown : List SegmentType → ℕ → List ℕ → Type 0
StepDown types code [] = Unit {0}
StepDown types code (c ∷ codes) = (is_child_type types code c ≡ true) × StepDown types c codes

-- where there are arguments above, the last names the parent's type of this one
abbrev pub IsTargetAbove : List SegmentType → List Ssa → ℕ → Type 0
IsTargetAbove types above code = 0 < length above → parent_of types code ≡ Some (target_code above)

-- the parent of a row of a type: none for a root, else the one that the arguments above ask for, if it is there
abbrev pub parent_asked : List SegmentType → List Segment → Option ℕ → List Ssa → ℕ → Option (Option ℕ)
parent_asked types rows standing above code =
    option_map_or (λ p. option_map (λ q. Some q) (insert_parent types rows standing above p)) (parent_of types code) (Some None)

-- Wherever what is kept stands for a position, the path is that of the parent of a row of the type, or there is none.
abbrev pub IsParentAsked : Database → VolumeState → List Ssa → ℕ → Kept → Option (List ℕ) → Type 0
IsParentAsked d v above code k None =
    (f : Forest Placed) (q : Position) → IsPositionIn d v f k q → parent_asked d.types (rows_of f) q.standing above code ≡ None
IsParentAsked d v above code k (Some path) =
    (f : Forest Placed) (q : Position) → IsPositionIn d v f k q
    → (parent : Option ℕ) × (parent_asked d.types (rows_of f) q.standing above code ≡ Some parent) × IsPathOfParent d.types f parent path
    × IsTypeBelow d.types (rows_of f) parent code

-- ---- below the parent

-- what rows that go in below a parent do in a state: II where the first one's key is taken, else they go in by key and rule
abbrev pub insert_under : Setting → List Segment → Position → Rule → Option ℕ → List Segment → Effect
insert_under s rows p rule parent [] = wrong_area
insert_under s rows p rule parent (row ∷ new) =
    cond (is_key_taken s.types rows parent row) (bare_answer p II)
    (insert_at s rows p (row ∷ new) (insertion_point s.types rows parent p.standing rule row))

-- The sound volume and what is kept stand for the state, and the path is that of a parent of a row of the type.
pub record IsUnder (d : Database) (v : VolumeState) (kept : List Kept) (st : State) (above : List ℕ) (code : ℕ) (parent : Option ℕ) : Type 0 where
  pub sound : IsTrue v.is_sound
  pub represents : Represents d v kept st
  pub path : IsPathOfParent d.types represents.placed parent above
  pub typed : IsTypeBelow d.types (rows_of represents.placed) parent code

-- where the store is sound, there are such a state and parent
abbrev pub HasParentFor : Database → VolumeState → List Kept → List ℕ → ℕ → Type 0
HasParentFor d v kept above code = IsTrue v.is_sound → (st : State) × (parent : Option ℕ) × IsUnder d v kept st above code parent

-- whatever state and parent there were, the rows were put in below it, or II was answered
abbrev pub AreInsertedUnder : Database → VolumeState → List Kept → ℕ → List ℕ → ℕ → Rule → List Segment → Outcome → VolumeState → List Kept → Type 0
AreInsertedUnder d v old number above code rule rows outcome w new =
    (pcb : View) (st : State) (parent : Option ℕ) → IsUnder d v old st above code parent
    → IsAnswered d v st number (insert_under (record { types = d.types; pcb = pcb }) st.rows (position_at st number) rule parent rows) outcome w new

-- whatever state and parent there were, Full came only where the rows would go in, and room lacks for them
abbrev pub IsFullUnder : Database → VolumeState → List Kept → ℕ → List ℕ → ℕ → Rule → List Segment → Refused → Type 0
IsFullUnder d v old number above code rule rows e =
    (pcb : View) (st : State) (parent : Option ℕ) → e ≡ Full → IsUnder d v old st above code parent
    → LacksRoomFor d v st.rows (insert_under (record { types = d.types; pcb = pcb }) st.rows (position_at st number) rule parent rows)

-- ---- at their place

-- of rows that go in at number n below a parent, each below the one before, the parent of one
abbrev pub parent_among : Option ℕ → ℕ → ℕ → Option ℕ
parent_among parent n zero = parent
parent_among parent n (suc i) = Some (n + i)

-- the rows that go in at number n stand below the parent, each below the one before
abbrev pub StandBelow : List SegmentType → List Segment → Option ℕ → ℕ → List Segment → Type 0
StandBelow types rows parent n new = (i : ℕ) → i < length new → parent_row types (put_in n new rows) (n + i) ≡ parent_among parent n i

-- a leaf with the first of the rows, wherever it stands, goes in at number n below h behind its twin y
abbrev pub FirstGoesInAt : List SegmentType → Forest Placed → ℕ → ℕ → List Segment → ℕ → Type 0
FirstGoesInAt types f h y [] n = ⊥
FirstGoesInAt types f h y (row ∷ rows) n = (a k : ℕ) → LeafGoesInAt types f h y (record { address = a; segment = row }) k → k ≡ n

-- The rows may go in below the parent, whose path is given, the first behind its twin y, and stand at number n then.
pub record IsPlaceFor (d : Database) (v : VolumeState) (f : Forest Placed) (above : List ℕ) (y : ℕ) (rows : List Segment) (parent : Option ℕ) (n : ℕ) : Type 0 where
  pub path : IsPathOfParent d.types f parent above
  pub may : MayPutThem d v above y rows
  pub at : FirstGoesInAt d.types f (tip above) y rows n
  pub stand : StandBelow d.types (rows_of f) parent n rows

-- where the store is sound, the volume and what is kept stand for a state, and the rows may go in below some parent
abbrev pub HasPlaceFor : Database → VolumeState → List Kept → List ℕ → ℕ → List Segment → Type 0
HasPlaceFor d v kept above y rows =
    IsTrue v.is_sound → (st : State) × (parent : Option ℕ) × (n : ℕ) × (R : Represents d v kept st) × IsPlaceFor d v R.placed above y rows parent n

-- whatever state the sound volume and what was kept stood for, and wherever the rows might go in, they did
abbrev pub AreInserted : Database → VolumeState → List Kept → ℕ → List ℕ → ℕ → List Segment → Outcome → VolumeState → List Kept → Type 0
AreInserted d v old number above y rows outcome w new =
    (pcb : View) (st : State) (parent : Option ℕ) (n : ℕ) → IsTrue v.is_sound → (R : Represents d v old st) → IsPlaceFor d v R.placed above y rows parent n
    → IsAnswered d v st number (insert_at (record { types = d.types; pcb = pcb }) st.rows (position_at st number) rows n) outcome w new

-- the rows of an area, of these types, were put in below a parent by a rule
abbrev pub AreInsertedFrom : Database → VolumeState → List Kept → ℕ → List ℕ → List ℕ → Rule → List ℕ → Outcome → VolumeState → List Kept → Type 0
AreInsertedFrom d v old number above codes rule area outcome w new =
    AreInsertedUnder d v old number above (slice_index codes 0) rule (rows_in d.types codes area) outcome w new
