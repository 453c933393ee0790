-- The place of a row below a parent, wherever the PCB stands.
use Rattle.std.proofs.Common.{◌≡◌, ℕ, List, Bool, true, false, Option, None, sym, ap, subst, ◌∙◌, arith, inl, inr}
use Rattle.std.specs.Prelude.{not}
use Rattle.std.proofs.lemmas.Bool.{cond-true, cond-false, eq-eqb, ne_eqb, false≢true}
use Rattle.std.specs.Prelude.{◌==◌}
use Rattle.hd_dbd.specs.declared.hierarchy.Rule.{Rule}
use Rattle.hd_dbd.specs.Types.{SegmentType}
use Rattle.hd_dbd.specs.Segment.{Segment}
use Rattle.hd_dbd.specs.Hierarchy.{Database}
use Rattle.hd_dbd.specs.Rows.{row_fits}
use Rattle.hd_dbd.specs.Loads.{has_unique_key}
use Rattle.hd_dbd.specs.Positions.{Position}
use Rattle.hd_dbd.specs.Forest.{Forest}
use Rattle.hd_calls.specs.Places.{is_equal_twin, equal_after}
use Rattle.hd_volume.specs.Volumes.{VolumeState}
use Rattle.hd_links.specs.Links.{Links}
use Rattle.hd_links.specs.Placed.{Placed}
use Rattle.hd_links.specs.Changes.{CanUnlink}
use Rattle.hd_links.specs.Steps.{rows_of}
use Rattle.hd_links.proofs.Build.{zero_or}
use Rattle.hd_image.specs.Records.{links_of}
use Rattle.hd_forest.specs.Walks.{tip}
use Rattle.hd_forest.specs.Twins.{IsBehind}
use Rattle.hd_position.specs.Kept.{Kept}
use Rattle.hd_get.specs.Gets.{IsPositionIn}
use Rattle.hd_update.specs.Places.{IsPathOfParent, IsTypeBelow, IsPlaceFound, IsPlaceBelow, HasPlace, IsGapFound, IsGapBelow, IsParent, HasParent}
use Rattle.hd_update.proofs.TwinGaps.{parent_address, parent_there, tip_of_parent, parent_of_type}
use Rattle.hd_update.proofs.PlaceSides.{found_place}
use Rattle.hd_update.proofs.PlaceRoots.{root_unique, root_parent}

-- the last row of a parent's path is such a parent
pub has_parent : (d : Database) (v : VolumeState) (path : List ℕ) (k : Kept) (code h : ℕ) → HasPlace d v path k code → h ≡ tip path → HasParent d v h code
has_parent d v path k code h has is sound =
    let T = has sound in
    subst (λ x. IsParent d v x code) (sym (is ∙ tip_of_parent d v T.0 T.3.holds T.2 path T.4))
    (parent_of_type d v T.0 T.3.holds T.2 code (parent_there d v T.0 T.3.holds T.2 path T.4) T.5)

-- whatever the PCB's position, equal twins must come after the new row just where it does not go last
abbrev pub AgreesAlways : Database → VolumeState → List ℕ → Kept → Rule → Bool → Segment → Type 0
AgreesAlways d v path k rule last row =
    (f : Forest Placed) (q : Position) (parent : Option ℕ) → IsPositionIn d v f k q → IsPathOfParent d.types f parent path → IsTypeBelow d.types (rows_of f) parent row.code
    → (j : ℕ) → is_equal_twin d.types (rows_of f) parent row j ≡ true → has_unique_key d.types row.code ≡ false
    → equal_after d.types (rows_of f) parent q.standing rule row j ≡ not last

-- what is found by the chain of twins is the place
pub found_below : (d : Database) (v : VolumeState) (path : List ℕ) (k : Kept) (rule : Rule) (last : Bool) (row : Segment) (h : ℕ) → h ≡ tip path → row_fits d.types row ≡ true
    → AgreesAlways d v path k rule last row → (r : Option ℕ) → IsGapBelow d v h last row r → IsPlaceBelow d v path k rule row r
found_below d v path k rule last row h is fits agrees r gap f q parent at path_at below =
    let own : tip path ≡ parent_address f parent = tip_of_parent d v f at.holds parent path path_at in
    subst (λ x. IsPlaceFound d v f parent q.standing rule row x r) (sym own)
    (found_place d v f at.holds parent row (parent_there d v f at.holds parent path path_at) below last q.standing rule fits (agrees f q parent at path_at below) r
    (subst (λ x. IsGapFound d.types (links_of d.types v) ((links_of d.types v).first_child x row.code) last row r) (is ∙ own) (gap at.sound)))

-- behind the twin behind which a row can be unlinked stands that row
pub unlink_behind : (types : List SegmentType) (m : Links) (h y a : ℕ) → CanUnlink types m h y a → IsBehind m (m.first_child h (m.code a)) y a
unlink_behind types m h y a C = elim (zero_or y) [
  | inl none ↦ inl (none, sym (cond-true (y == 0) (m.first_child h (m.code a)) (m.forward y) (eq-eqb y 0 none)) ∙ C.here)
  | inr some ↦ inr (some, C.twin some, sym (cond-false (y == 0) (m.first_child h (m.code a)) (m.forward y) (ne_eqb y 0 (λ (e : y ≡ 0). omega arith))) ∙ C.here)
]

-- what is found by the index is the place of a root
pub root_below : (d : Database) (v : VolumeState) (path : List ℕ) (k : Kept) (rule : Rule) (row : Segment) → row.code ≡ 1 → row_fits d.types row ≡ true
    → (r : Option ℕ) → IsGapBelow d v 0 false row r → IsPlaceBelow d v path k rule row r
root_below d v path k rule row one fits r gap f q parent at path_at below =
    let H = at.holds in
    let there = parent_there d v f H parent path path_at in
    let none : parent ≡ None = root_parent d v f H parent row.code there below one in
    let own : tip path ≡ parent_address f parent = tip_of_parent d v f H parent path path_at in
    let zero : 0 ≡ parent_address f parent = sym (ap (parent_address f) none) in
    subst (λ x. IsPlaceFound d v f parent q.standing rule row x r) (sym own)
    (found_place d v f H parent row there below false q.standing rule fits
    (λ j equal many. absurd (false≢true (sym many ∙ root_unique d.block_size d.frspc d.types row H.volume.fit one fits))) r
    (subst (λ x. IsGapFound d.types (links_of d.types v) ((links_of d.types v).first_child x row.code) false row r) zero (gap at.sound)))
