-- A row that goes in just before its equal on which the PCB stands.
use Rattle.std.proofs.Common.{◌≡◌, ℕ, ◌+◌, ◌<◌, ◌≤◌, length, Bool, true, false, Option, Some, refl, sym, ap, ap₂, subst, ◌∙◌, arith, inl, inr}
use Rattle.std.specs.Prelude.{IfSome, ◌&&◌, ◌||◌, not, nat_le, is_some}
use Rattle.std.specs.Option.{option_map_or}
use Rattle.std.specs.Ordering.{is_eq, is_gt}
use Rattle.std.specs.declared.cmp.Ordering.{Ordering}
use Rattle.std.specs.declared.cmp.Ordering.TheVariants.{Equal}
use Rattle.std.proofs.lemmas.Bool.{cases_Bool, le-leb, lt-leb, false≢true}
use Rattle.hd_dbd.specs.declared.hierarchy.Rule.TheVariants.{Last, Here}
use Rattle.hd_dbd.specs.Segment.{Segment}
use Rattle.hd_dbd.specs.Hierarchy.{Database}
use Rattle.hd_dbd.specs.Rows.{row_fits}
use Rattle.hd_dbd.specs.Loads.{has_unique_key}
use Rattle.hd_dbd.specs.Searches.{first_from}
use Rattle.hd_dbd.specs.Forest.{Forest}
use Rattle.hd_calls.specs.Places.{is_equal_twin, equal_after, comes_after}
use Rattle.hd_volume.specs.Volumes.{VolumeState}
use Rattle.hd_links.specs.Placed.{Placed}
use Rattle.hd_links.specs.Steps.{rows_of, address_at}
use Rattle.hd_image.specs.Records.{links_of}
use Rattle.hd_image.specs.Holding.{HoldsPlaced}
use Rattle.hd_forest.specs.Twins.{IsBehind}
use Rattle.hd_update.specs.Places.{IsTypeBelow, IsPlaceOf}
use Rattle.hd_update.proofs.TwinRows.{IsTwinRow}
use Rattle.hd_update.proofs.TwinGaps.{parent_address, ground, IsRowGap, gap_rows}
use Rattle.hd_update.proofs.PlaceAmong.{later_comes, placed}
use Rattle.hd_update.proofs.PlaceSides.{order_with, comes_is, equal_twin}

and_no : (b : Bool) → (b && false) ≡ false
and_no true = refl
and_no false = refl

module _ (d : Database) (v : VolumeState) (f : Forest Placed) (H : HoldsPlaced d v f) (parent standing : Option ℕ) (row : Segment) (fits : row_fits d.types row ≡ true)
    (there : IfSome parent (λ q. q < length (rows_of f))) (below : IsTypeBelow d.types (rows_of f) parent row.code)
    (i : ℕ) (within : i < length (rows_of f)) (equal : is_equal_twin d.types (rows_of f) parent row i ≡ true) (stands : standing ≡ Some i)
    (many : has_unique_key d.types row.code ≡ false) (y : ℕ)
    (chain : IsBehind (links_of d.types v) ((links_of d.types v).first_child (parent_address f parent) row.code) y (address_at f i)) where
  E : IsTwinRow d.types (rows_of f) parent row.code i × (order_with d.types (rows_of f) parent standing Here row i ≡ Equal)
  E = equal_twin d.types (rows_of f) parent standing Here row i within equal

  gap : IsRowGap d v f H parent there row.code below y (address_at f i)
  gap = gap_rows d v f H parent there row.code below y (address_at f i) chain

  -- an equal twin must come after the row where it is the one on which the PCB stands or a later one
  after_is : (k : ℕ) → equal_after d.types (rows_of f) parent standing Here row k ≡ nat_le i k
  after_is k =
      ap (λ (o : Option ℕ). option_map_or (λ i. not (is_equal_twin d.types (rows_of f) parent row i) || nat_le i k) o true) stands
      ∙ ap (λ b. not b || nat_le i k) equal

  -- the twin before stands before it
  earlier : (k : ℕ) → IsTwinRow d.types (rows_of f) parent row.code k → address_at f k ≡ y → k < i
  earlier k K at =
      let A = (ground d v f H).addressed in
      let some : 0 < y = subst (λ x. 0 < x) at (A.there k K.within).some in
      let N = gap.next some in
      let S = N.3.some (A.there i within).some in
      let next : N.0 + 1 ≤ S.0 = S.1 in
      let one : k ≡ N.0 = A.once k N.0 K.within N.1.within (at ∙ sym N.2) in
      let two : S.0 ≡ i = A.once S.0 i S.2.within within S.3 in
      omega arith

  -- with no greater key
  not_greater : (k : ℕ) → IsTwinRow d.types (rows_of f) parent row.code k → k < i → is_gt (order_with d.types (rows_of f) parent standing Here row k) ≡ false
  not_greater k K less = elim (cases_Bool (is_gt (order_with d.types (rows_of f) parent standing Here row k))) [
    | inl more ↦ absurd (false≢true
        (sym (comes_is d.types (rows_of f) parent standing Last row i E.0 ∙ ap (λ (o : Ordering). is_gt o || is_eq o && false) E.1)
        ∙ later_comes d v f H parent standing Last row k i less E.0
        (comes_is d.types (rows_of f) parent standing Last row k K ∙ ap (λ b. b || is_eq (order_with d.types (rows_of f) parent standing Here row k) && false) more)))
    | inr no_ ↦ no_
  ]

  lower : (k : ℕ) → IsTwinRow d.types (rows_of f) parent row.code k → address_at f k ≡ y → comes_after d.types (rows_of f) parent standing Here row k ≡ false
  lower k K at =
      let less : k < i = earlier k K at in
      comes_is d.types (rows_of f) parent standing Here row k K
      ∙ ap₂ (λ b c. b || is_eq (order_with d.types (rows_of f) parent standing Here row k) && c) (not_greater k K less) (after_is k ∙ lt-leb i k less)
      ∙ and_no (is_eq (order_with d.types (rows_of f) parent standing Here row k))

  upper : (k : ℕ) → IsTwinRow d.types (rows_of f) parent row.code k → address_at f k ≡ address_at f i → comes_after d.types (rows_of f) parent standing Here row k ≡ true
  upper k K at =
      let same : k ≡ i = (ground d v f H).addressed.once k i K.within within at in
      comes_is d.types (rows_of f) parent standing Here row k K
      ∙ ap₂ (λ (o : Ordering) (b : Bool). is_gt o || is_eq o && b) (ap (order_with d.types (rows_of f) parent standing Here row) same ∙ E.1) (after_is k ∙ le-leb i k (omega arith))

  pub placed_here : IsPlaceOf d v f parent standing Here row (parent_address f parent) y
  placed_here =
      placed d v f H parent standing Here row fits there below y (address_at f i) chain lower upper
      (ap (λ b. b && is_some (first_from (is_equal_twin d.types (rows_of f) parent row) 0 (length (rows_of f)))) many)
