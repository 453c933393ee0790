-- The parent that ISRT asks for a row that it puts in.
use Rattle.std.proofs.Common.{◌≡◌, ℕ, ◌<◌, List, [], length, true, Option, Some, None, IsTrue, refl, sym, ap, subst, ◌∙◌, arith, inl, inr}
use Rattle.std.specs.Prelude.{is_some, option_map, IfSome}
use Rattle.std.specs.Option.{option_map_or}
use Rattle.std.proofs.lemmas.Bool.{false≢true}
use Rattle.std.proofs.lemmas.Option.{same_Some}
use Rattle.hd_dbd.specs.declared.hierarchy.FreeSpace.{FreeSpace}
use Rattle.hd_dbd.specs.Types.{SegmentType}
use Rattle.hd_dbd.specs.Segment.{Segment}
use Rattle.hd_dbd.specs.Hierarchy.{Database, type_of, parent_of}
use Rattle.hd_dbd.specs.DatabaseRules.{well_formed}
use Rattle.hd_dbd.specs.Paths.{row_at}
use Rattle.hd_dbd.specs.Positions.{Position}
use Rattle.hd_dbd.specs.Laws.{IsInSequence}
use Rattle.hd_dbd.specs.Views.{Setting}
use Rattle.hd_dbd.specs.Forest.{Forest}
use Rattle.hd_dbd.proofs.LevelLaw.{Leveled, leveled}
use Rattle.hd_dbd.proofs.InSequence.{in_sequence}
use Rattle.hd_calls.specs.Ssas.{Ssa, target_code}
use Rattle.hd_calls.specs.Places.{insert_parent}
use Rattle.hd_calls.specs.Laws.{IsInRange}
use Rattle.hd_calls.proofs.SoundInserts.{parent_found}
use Rattle.hd_volume.specs.Volumes.{VolumeState}
use Rattle.hd_links.specs.Links.{is_child_type}
use Rattle.hd_links.specs.Placed.{Placed}
use Rattle.hd_links.specs.Steps.{rows_of, path_at}
use Rattle.hd_links.proofs.Types.{in_cases, above, above_some, code_some, ordered}
use Rattle.hd_position.specs.Kept.{Kept, path_passed}
use Rattle.hd_position.proofs.Splices.{below_more}
use Rattle.hd_position.proofs.Leaving.{passed_below}
use Rattle.hd_get.specs.Gets.{IsPositionIn}
use Rattle.hd_get.proofs.Grounds.{held_rows}
use Rattle.hd_update.specs.Inserting.{IsTargetAbove, parent_asked, IsParentAsked}
use Rattle.hd_update.specs.Parents.{IsInsertParent}
use Rattle.hd_update.specs.Places.{IsPathOfParent, IsTypeBelow}
use Rattle.hd_update.proofs.Levels.{row_below}

-- ---- types

-- a type is one of the child types of its parent; the root's type is that of the header
pub child_of : (block_size : ℕ) (frspc : FreeSpace) (types : List SegmentType) → IsTrue (well_formed block_size frspc types) → (parent code : ℕ) → is_some (type_of types code) ≡ true
    → parent_of types code ≡ above parent → is_child_type types parent code ≡ true
child_of block_size frspc types formed parent code typed is = by (type_of types code) refl typed
  where
    by : (o : Option SegmentType) → type_of types code ≡ o → is_some o ≡ true → is_child_type types parent code ≡ true
    by None none some = cc
    by (Some t) own some = (ordered block_size frspc types formed).typed parent code t own is

-- only the root's type has no parent
pub root_of : (block_size : ℕ) (frspc : FreeSpace) (types : List SegmentType) → IsTrue (well_formed block_size frspc types) → (code : ℕ) → is_some (type_of types code) ≡ true
    → parent_of types code ≡ None → code ≡ 1
root_of block_size frspc types formed code typed is =
    elim (in_cases 1 code [] (child_of block_size frspc types formed 0 code typed is)) [
      | inl same ↦ sym same
      | inr other ↦ absurd (false≢true other)
    ]

-- ---- the parent

-- below a type that has a parent
asked_as : (types : List SegmentType) (rows : List Segment) (standing : Option ℕ) (arguments : List Ssa) (code parent : ℕ) (o : Option ℕ) → parent_of types code ≡ Some parent
    → insert_parent types rows standing arguments parent ≡ o → parent_asked types rows standing arguments code ≡ option_map (λ x. Some x) o
asked_as types rows standing arguments code parent o own is =
    ap (λ (c : Option ℕ). option_map_or (λ p. option_map (λ x. Some x) (insert_parent types rows standing arguments p)) c (Some None)) own
    ∙ ap (λ (x : Option ℕ). option_map (λ y. Some y) x) is

module _ (d : Database) (v : VolumeState) (f : Forest Placed) (k : Kept) (q : Position) (at : IsPositionIn d v f k q) where
  rows_leveled : Leveled d.types
  rows_leveled = leveled d.block_size d.frspc d.types at.holds.volume.fit

  in_order : IsInSequence d.types (rows_of f)
  in_order = in_sequence d.types rows_leveled (rows_of f) (held_rows d v f at.holds.volume at.holds.records).fit

  abbrev setting : Setting
  setting = record { types = d.types; pcb = record { procopt = []; sens = [] } }

  -- no more than where the PCB stands
  abbrev place : Position
  place = record { passed = 0; standing = q.standing; last = None; parent = None; held = [] }

  stands_on : (o : Option ℕ) → q.standing ≡ o → IfSome o (λ i. i < length (rows_of f))
  stands_on None is = tt
  stands_on (Some i) is =
      row_below (length (rows_of f)) (path_passed d.types (rows_of f) q.passed) k.standing i
      (below_more q.passed (length (rows_of f)) (path_passed d.types (rows_of f) q.passed) at.stands.within (passed_below d.types (rows_of f) q.passed))
      (sym at.stands.standing ∙ is)

  in_range : IsInRange d.types (rows_of f) place
  in_range = record { passed = omega arith; standing = stands_on q.standing refl; parent = tt; held = tt }

  -- the parent is a row, and one of the type may stand below it
  parent_row_found : (arguments : List Ssa) (code parent i : ℕ) → is_some (type_of d.types code) ≡ true → parent_of d.types code ≡ Some parent → IsTargetAbove d.types arguments code
      → insert_parent d.types (rows_of f) q.standing arguments parent ≡ Some i → (i < length (rows_of f)) × (is_child_type d.types (row_at (rows_of f) i).code code ≡ true)
  parent_row_found arguments code parent i typed own target is =
      let F = parent_found setting rows_leveled (rows_of f) in_order place in_range arguments parent i (λ some. same_Some (target_code arguments) parent (sym (target some) ∙ own)) is in
      let some : 0 < parent = subst (λ (c : ℕ). 0 < c) F.1 (code_some d.types (row_at (rows_of f) i) (in_order.fit i F.0)) in (
        F.0,
        subst (λ (c : ℕ). is_child_type d.types c code ≡ true) (sym F.1)
            (child_of d.block_size d.frspc d.types at.holds.volume.fit parent code typed (own ∙ sym (above_some parent some))),
      )

  -- no path, no parent
  none_below : (arguments : List Ssa) (code parent : ℕ) → parent_of d.types code ≡ Some parent → (o : Option ℕ) → insert_parent d.types (rows_of f) q.standing arguments parent ≡ o
      → None ≡ option_map (λ i. path_at d.types f i) o → parent_asked d.types (rows_of f) q.standing arguments code ≡ None
  none_below arguments code parent own None is e = asked_as d.types (rows_of f) q.standing arguments code parent None own is
  none_below arguments code parent own (Some i) is e = cc

  -- the path is that of the parent
  some_below : (arguments : List Ssa) (code parent : ℕ) (path : List ℕ) → is_some (type_of d.types code) ≡ true → parent_of d.types code ≡ Some parent → IsTargetAbove d.types arguments code
      → (o : Option ℕ) → insert_parent d.types (rows_of f) q.standing arguments parent ≡ o → Some path ≡ option_map (λ i. path_at d.types f i) o
      → (x : Option ℕ) × (parent_asked d.types (rows_of f) q.standing arguments code ≡ Some x) × IsPathOfParent d.types f x path × IsTypeBelow d.types (rows_of f) x code
  some_below arguments code parent path typed own target None is e = cc
  some_below arguments code parent path typed own target (Some i) is e =
      let F = parent_row_found arguments code parent i typed own target is in
      (Some i, asked_as d.types (rows_of f) q.standing arguments code parent (Some i) own is, (F.0, same_Some path (path_at d.types f i) e), F.1)

-- the parent's path that was found is that of the parent asked
pub asked_below : (d : Database) (v : VolumeState) (arguments : List Ssa) (code parent : ℕ) (k : Kept) (path : Option (List ℕ)) → is_some (type_of d.types code) ≡ true
    → parent_of d.types code ≡ Some parent → IsTargetAbove d.types arguments code → IsInsertParent d v arguments parent k path → IsParentAsked d v arguments code k path
asked_below d v arguments code parent k None typed own target found =
    λ f q at. none_below d v f k q at arguments code parent own (insert_parent d.types (rows_of f) q.standing arguments parent) refl (found f q at)
asked_below d v arguments code parent k (Some path) typed own target found =
    λ f q at. some_below d v f k q at arguments code parent path typed own target (insert_parent d.types (rows_of f) q.standing arguments parent) refl (found f q at)

-- a root has none
pub asked_root : (d : Database) (v : VolumeState) (arguments : List Ssa) (code : ℕ) (k : Kept) → is_some (type_of d.types code) ≡ true → parent_of d.types code ≡ None
    → IsParentAsked d v arguments code k (Some [])
asked_root d v arguments code k typed own = λ f q at. (
  None,
  ap (λ (c : Option ℕ). option_map_or (λ p. option_map (λ x. Some x) (insert_parent d.types (rows_of f) q.standing arguments p)) c (Some None)) own,
  refl,
  root_of d.block_size d.frspc d.types at.holds.volume.fit code typed own,
)
