use Rattle.std.proofs.Common.{◌≡◌, ℕ, ◌<◌, Bool, true, false, cond, List, [], ◌∷◌, ◌++◌, length, Ok, Some, refl, sym, ap, subst, ◌∙◌, arith}
use Rattle.std.specs.declared.cmp.Ordering.{Ordering}
use Rattle.std.specs.declared.cmp.Ordering.TheVariants.{Equal, Greater}
use Rattle.std.proofs.lemmas.Bool.{eqb-true}
use Rattle.hd_dbd.specs.Hierarchy.{Database}
use Rattle.hd_dbd.specs.Segment.{Segment}
use Rattle.hd_dbd.specs.Rows.{key_of}
use Rattle.hd_dbd.specs.Loads.{has_unique_key}
use Rattle.hd_dbd.specs.Paths.{row_at}
use Rattle.hd_dbd.specs.Forest.{Forest}
use Rattle.hd_volume.specs.Volumes.{VolumeState}
use Rattle.hd_links.specs.Links.{Links}
use Rattle.hd_links.specs.Placed.{Placed}
use Rattle.hd_links.specs.Changes.{CanUnlink}
use Rattle.hd_links.specs.Pointers.{IsInChain}
use Rattle.hd_links.specs.Steps.{rows_of, address_at, LeadsDown}
use Rattle.hd_image.specs.Records.{links_of}
use Rattle.hd_image.specs.Holding.{HoldsPlaced}
use Rattle.hd_index.specs.declared.search.RootFrom.{RootFrom}
use Rattle.hd_forest.specs.Walks.{tip, parent_on}
use Rattle.hd_forest.specs.Twins.{IsBehind}
use Rattle.hd_changes.specs.Found.{IsToldRoot}
use Rattle.hd_changes.proofs.RootRows.{follow-lesser}
use Rattle.hd_update.specs.declared.places.Side.{Side}
use Rattle.hd_update.specs.declared.places.Side.TheVariants.{Before, Behind, Taken}
use Rattle.hd_update.specs.Places.{side_of, side_at}
use Rattle.hd_update.proofs.TwinGaps.{ground}
use Rattle.hd_update.proofs.PlaceBelow.{unlink_behind}
use Rattle.hd_update.proofs.PlaceRoots.{root_chained, before_next, not_behind, told_side}
use Rattle.hd_update.proofs.places.place_before_root.Goals as goal

-- the row of the next root, and where a new one goes beside it
record IsNext (d : Database) (v : VolumeState) (f : Forest Placed) (new : Segment) (next : RootFrom) (order : Ordering) : Type 0 where
  row : ℕ
  within : row < length (rows_of f)
  root : (row_at (rows_of f) row).code ≡ 1
  at : address_at f row ≡ next.address
  side : side_of (has_unique_key d.types new.code) false order ≡ side_at d.types (links_of d.types v) false new next.address

next_is : (d : Database) (v : VolumeState) (f : Forest Placed) (new : Segment) → new.code ≡ 1 → (next : RootFrom) → HoldsPlaced d v f → IsToldRoot d.types f (key_of d.types new) next
    → (order : Ordering) → order ≡ cond next.is_equal Equal Greater → IsNext d v f new next order
next_is d v f new one next H T order is =
    let F = (follow-lesser d.types (rows_of f) (key_of d.types new)).0 T.row T.is_first in
    record {
      row = T.row;
      within = F.0;
      root = eqb-true (row_at (rows_of f) T.row).code 1 F.1;
      at = T.at;
      side = ap (side_of (has_unique_key d.types new.code) false) is ∙ told_side d v f H new one T.row F.0 F.2 next.is_equal T.equal
          ∙ ap (side_at d.types (links_of d.types v) false new) T.at;
    }

pub prev_twin-requires-clause-of : goal.prev_twin-requires-clause-of
prev_twin-requires-clause-of g c sound = (c.requires.next sound).1.volume

pub prev_twin-requires-clause-holds : goal.prev_twin-requires-clause-holds
prev_twin-requires-clause-holds g c sound = (let T = c.requires.next sound in (T.0, T.1.records))

-- the path of the next root
path_is : (old new : List ℕ) (a : ℕ) → old ≡ [] → (length old < 15 → new ≡ old ++ a ∷ []) → new ≡ a ∷ []
path_is old new a none pushed = (let short : length old ≡ 0 = ap (λ (xs : List ℕ). length xs) none in pushed (omega arith) ∙ ap (λ (xs : List ℕ). xs ++ a ∷ []) none)

pub prev_twin-requires-clause-there : goal.prev_twin-requires-clause-there
prev_twin-requires-clause-there g c sound =
    let d = c.args.dbd.now in
    let v = c.args.volume.now in
    let path = path_is c.new-path.result c.push.new.self c.args.next.address c.new-path.ensures c.push.ensures in
    let T = c.requires.next sound in
    let F = (follow-lesser d.types (rows_of T.0) (key_of d.types (record { code = 1; bytes = c.args.bytes.now }))).0 T.2.row T.2.is_first in
    subst (λ (p : List ℕ). (0 < length p) × LeadsDown d.types (links_of d.types v) 0 p) (sym path)
    (omega arith, subst (λ a. LeadsDown d.types (links_of d.types v) 0 (a ∷ [])) T.2.at (root_chained d v T.0 T.1 T.2.row F.0 F.1).0)

pub returns-in_ok-twin-in-Before-clause-value : goal.returns-in_ok-twin-in-Before-clause-value
returns-in_ok-twin-in-Before-clause-value g c sound =
    let d = c.args.dbd.now in
    let v = c.args.volume.now in
    let m : Links = links_of d.types v in
    let new : Segment = record { code = 1; bytes = c.args.bytes.now } in
    let twin = c.in_ok-twin-in-Before.twin in
    let next : ℕ = c.args.next.address in
    let T = c.requires.next sound in
    let F = (follow-lesser d.types (rows_of T.0) (key_of d.types new)).0 T.2.row T.2.is_first in
    let N = next_is d v T.0 new refl c.args.next T.1 T.2 c.order_of.result c.order_of.ensures in
    let path = path_is c.new-path.result c.push.new.self next c.new-path.ensures c.push.ensures in
    let can : CanUnlink d.types m 0 twin next
    = subst (λ (p : List ℕ). CanUnlink d.types m (parent_on p) twin (tip p)) path (c.in_ok-twin-in-Before.ensures.value sound) in
    let code : m.code next ≡ 1
    = ap m.code (sym N.at) ∙ ap (λ (r : Segment). r.code) ((ground d v T.0 T.1).addressed.same N.row N.within) ∙ N.root in
    let chain : IsBehind m (m.first_child 0 1) twin next = subst (λ t. IsBehind m (m.first_child 0 t) twin next) code (unlink_behind d.types m 0 twin next can) in
    let before : side_at d.types m false new next ≡ Before = sym N.side ∙ sym c.side_of.ensures ∙ c.in-Before.is in (
      address_at T.0 T.2.row,
      before_next d v T.0 T.1 new refl T.2.row F.0 F.3 (subst (λ a. side_at d.types m false new a ≡ Before) (sym T.2.at) before) twin
          (subst (λ a. IsBehind m (m.first_child 0 1) twin a) (sym T.2.at) chain),
    )

pub returns-in-Behind-clause-value : goal.returns-in-Behind-clause-value
returns-in-Behind-clause-value g c sound =
    let d = c.args.dbd.now in
    let v = c.args.volume.now in
    let m : Links = links_of d.types v in
    let new : Segment = record { code = 1; bytes = c.args.bytes.now } in
    let T = c.requires.next sound in
    let F = (follow-lesser d.types (rows_of T.0) (key_of d.types new)).0 T.2.row T.2.is_first in
    let N = next_is d v T.0 new refl c.args.next T.1 T.2 c.order_of.result c.order_of.ensures in
    let side : side_at d.types m false new c.args.next.address ≡ Behind = sym N.side ∙ sym c.side_of.ensures ∙ c.in-Behind.is in
    absurd (not_behind d v T.0 T.1 new refl T.2.row F.0 F.2 (subst (λ a. side_at d.types m false new a ≡ Behind) (sym T.2.at) side))

pub returns-in-Taken-clause-value : goal.returns-in-Taken-clause-value
returns-in-Taken-clause-value g c sound =
    let d = c.args.dbd.now in
    let v = c.args.volume.now in
    let m : Links = links_of d.types v in
    let new : Segment = record { code = 1; bytes = c.args.bytes.now } in
    let T = c.requires.next sound in
    let F = (follow-lesser d.types (rows_of T.0) (key_of d.types new)).0 T.2.row T.2.is_first in
    let N = next_is d v T.0 new refl c.args.next T.1 T.2 c.order_of.result c.order_of.ensures in
    let side : side_at d.types m false new c.args.next.address ≡ Taken = sym N.side ∙ sym c.side_of.ensures ∙ c.in-Taken.is in
    (c.args.next.address, subst (IsInChain m (m.first_child 0 1)) T.2.at (root_chained d v T.0 T.1 T.2.row F.0 F.1).1, side)
