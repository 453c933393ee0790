-- The place of a row before its equal on which the PCB stands.
use Rattle.std.proofs.Common.{◌≡◌, ℕ, ◌-◌, ◌<◌, List, length, true, Ok, Option, Some, None, sym, ap, subst, ◌∙◌, arith}
use Rattle.std.proofs.lemmas.Bool.{and_from}
use Rattle.hd_dbd.specs.declared.hierarchy.Rule.TheVariants.{First, Here}
use Rattle.hd_dbd.specs.Segment.{Segment}
use Rattle.hd_dbd.specs.Hierarchy.{Database}
use Rattle.hd_dbd.specs.Rows.{row_fits}
use Rattle.hd_dbd.specs.Loads.{has_unique_key}
use Rattle.hd_dbd.specs.Positions.{Position}
use Rattle.hd_dbd.specs.Forest.{Forest}
use Rattle.hd_calls.specs.Places.{is_equal_twin}
use Rattle.hd_calls.proofs.Searches.{least_passed}
use Rattle.hd_volume.specs.Volumes.{VolumeState}
use Rattle.hd_volume.specs.Calls.{IsRead}
use Rattle.hd_links.specs.Links.{Links}
use Rattle.hd_links.specs.Placed.{Placed}
use Rattle.hd_links.specs.Steps.{rows_of, address_at, path_at}
use Rattle.hd_image.specs.Records.{links_of}
use Rattle.hd_forest.specs.Walks.{tip, parent_on}
use Rattle.hd_forest.specs.Rows.{IsOnRow}
use Rattle.hd_forest.specs.Twins.{IsBehind}
use Rattle.hd_forest.proofs.Reading.{after-read, sound-before}
use Rattle.hd_position.specs.Kept.{Kept}
use Rattle.hd_get.specs.Gets.{IsPositionIn}
use Rattle.hd_get.proofs.Grounds.{tip_is}
use Rattle.hd_update.specs.Places.{IsPlaceFound, IsPlaceBelow, HasPlace, standing_twin, IsStandingTwin, HasRowOf, IsBeforeEqual}
use Rattle.hd_update.proofs.Reading.{held_read}
use Rattle.hd_update.proofs.TwinGaps.{parent_address, parent_there, tip_of_parent, ground}
use Rattle.hd_update.proofs.PlaceSides.{equal_twin}
use Rattle.hd_update.proofs.PlaceHere.{placed_here}
use Rattle.hd_update.proofs.PlaceStanding.{standing_within, above_is, passing_found}

-- The PCB stands on this equal of a new row.
record IsEqual (d : Database) (v : VolumeState) (f : Forest Placed) (q : Position) (parent : Option ℕ) (row : Segment) (equal : List ℕ) : Type 0 where
  number : ℕ
  stands : q.standing ≡ Some number
  within : number < length (rows_of f)
  is : is_equal_twin d.types (rows_of f) parent row number ≡ true
  path : equal ≡ path_at d.types f number

equal_is : (d : Database) (v : VolumeState) (f : Forest Placed) (k : Kept) (q : Position) (parent : Option ℕ) (row : Segment) (equal : List ℕ) → IsPositionIn d v f k q
    → Some equal ≡ standing_twin d.types f parent q.standing row → IsEqual d v f q parent row equal
equal_is d v f k q parent row equal at told =
    let F = passing_found (λ i. is_equal_twin d.types (rows_of f) parent row i) (λ i. path_at d.types f i) q.standing equal told in
    record { number = F.0; stands = F.1; within = standing_within d v f k q at F.0 F.1; is = F.2; path = F.3 }

-- its path is that of a row of the type
pub equal_there : {A : Type 0} {x : A} (d : Database) (v w : VolumeState) → IsRead {T = A} v (Ok x) w → (above : List ℕ) (k : Kept) (row : Segment) (equal : List ℕ)
    → HasPlace d v above k row.code → IsStandingTwin d v above k row (Some equal) → HasRowOf d w equal row.code
equal_there d v w read above k row equal has told now =
    let sound = sound-before v w read now in
    let T = has sound in
    let E = equal_is d v T.0 k T.1 T.2 row equal T.3 (told T.0 T.1 T.2 T.3 T.4) in
    let H = held_read d v w read sound T.0 T.3.holds in
    (T.0, E.number, H, record { holds = H.records; within = E.within; is = E.path }, (equal_twin d.types (rows_of T.0) T.2 None First row E.number E.within E.is).0.typed)

-- and the twin before it is the one behind which the row goes in
pub before_equal : {A : Type 0} {x : A} (d : Database) (v w : VolumeState) → IsRead {T = A} v (Ok x) w → (above : List ℕ) (k : Kept) (row : Segment) (equal : List ℕ)
    → row_fits d.types row ≡ true → IsStandingTwin d v above k row (Some equal) → (r : Option ℕ) → IsBeforeEqual d w equal row.code r → IsPlaceBelow d v above k Here row r
before_equal d v w read above k row equal fits told None unique f q parent at at_parent below =
    let E = equal_is d v f k q parent row equal at (told f q parent at at_parent) in
    let within : E.number < length (rows_of f) = E.within in
    and_from (has_unique_key d.types row.code) _ unique
    (least_passed (is_equal_twin d.types (rows_of f) parent row) (length (rows_of f) - 0) 0 E.number (omega arith) (omega arith) E.is)
before_equal d v w read above k row equal fits told (Some y) before f q parent at at_parent below =
    let E = equal_is d v f k q parent row equal at (told f q parent at at_parent) in
    let J = equal_twin d.types (rows_of f) parent None First row E.number E.within E.is in
    let m : Links = links_of d.types v in
    let H = at.holds in
    let G = ground d v f H in
    let on : IsOnRow d.types m f equal E.number = record { holds = H.records; within = E.within; is = E.path } in
    let same = after-read d v w read at.sound in
    let up : parent_on equal ≡ parent_address f parent = above_is d v f k q at parent above at_parent equal E.number on E.stands row ∙ ap (parent_address f) J.0.above in
    let chain : IsBehind m (m.first_child (parent_address f parent) row.code) y (address_at f E.number)
    = subst (λ a. IsBehind m (m.first_child (parent_address f parent) row.code) y a) (tip_is d.types m f G equal E.number on)
    (subst (λ h. IsBehind m (m.first_child h row.code) y (tip equal)) up
    (subst (λ (n : Links). IsBehind n (n.first_child (parent_on equal) row.code) y (tip equal)) same.links (before.1 same.sound))) in
    subst (λ h. IsPlaceFound d v f parent q.standing Here row h (Some y)) (sym (tip_of_parent d v f H parent above at_parent))
    (placed_here d v f H parent q.standing row fits (parent_there d v f H parent above at_parent) below E.number E.within E.is E.stands before.0 y chain)
