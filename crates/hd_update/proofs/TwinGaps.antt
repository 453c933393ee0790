-- What stands between two twins of a chain, by rows.
use Rattle.std.proofs.Common.{◌≡◌, ℕ, ◌+◌, ◌<◌, List, length, Option, Some, None, refl, ap, ap₂, subst, ◌∙◌, arith, inl, inr}
use Rattle.std.specs.Prelude.{IfSome, ◌==◌}
use Rattle.std.proofs.lemmas.Bool.{cond-true, cond-false, eq-eqb, ne_eqb}
use Rattle.hd_dbd.specs.Segment.{Segment}
use Rattle.hd_dbd.specs.Hierarchy.{Database}
use Rattle.hd_dbd.specs.Forest.{Forest}
use Rattle.hd_volume.specs.Volumes.{VolumeState}
use Rattle.hd_links.specs.Links.{Links, is_child_type}
use Rattle.hd_links.specs.Placed.{Placed}
use Rattle.hd_links.specs.Pointers.{IsInChain}
use Rattle.hd_links.specs.Changes.{twin_behind}
use Rattle.hd_links.specs.Steps.{rows_of, address_at}
use Rattle.hd_image.specs.Records.{links_of}
use Rattle.hd_image.specs.Holding.{HoldsPlaced}
use Rattle.hd_forest.specs.Twins.{IsBehind}
use Rattle.hd_forest.specs.Walks.{tip}
use Rattle.hd_forest.proofs.Held.{Held, held}
use Rattle.hd_forest.proofs.Walking.{first-step}
use Rattle.hd_get.proofs.Grounds.{Grounds, grounds}
use Rattle.hd_update.specs.Places.{IsPathOfParent, IsTypeBelow, IsParent}
use Rattle.hd_update.proofs.TwinRows.{IsTwinRow, IsFirstFrom, next_from, chain_row, first_below, first_root}

-- where a parent stands: 0, the header, above a root
abbrev pub parent_address : Forest Placed → Option ℕ → ℕ
parent_address f None = 0
parent_address f (Some q) = address_at f q

module _ (d : Database) (v : VolumeState) (f : Forest Placed) (H : HoldsPlaced d v f) where
  abbrev pub m : Links
  m = links_of d.types v

  pub ground : Grounds d.types m f
  ground = grounds d v f H.volume H.records

  own : Held d v
  own = held d v H.volume.fit H.volume (f, H.records)

  -- a parent is a row
  pub parent_there : (parent : Option ℕ) (path : List ℕ) → IsPathOfParent d.types f parent path → IfSome parent (λ q. q < length (rows_of f))
  parent_there None path at = tt
  parent_there (Some q) path at = at.0

  -- its path ends where it stands
  pub tip_of_parent : (parent : Option ℕ) (path : List ℕ) → IsPathOfParent d.types f parent path → tip path ≡ parent_address f parent
  tip_of_parent None path at = ap tip at
  tip_of_parent (Some q) path at = ap tip at.1 ∙ (ground.steps q at.0).tip

  -- rows of the type may stand below it
  pub parent_of_type : (parent : Option ℕ) (code : ℕ) → IfSome parent (λ q. q < length (rows_of f)) → IsTypeBelow d.types (rows_of f) parent code
      → IsParent d v (parent_address f parent) code
  parent_of_type None code there below = record {
    volume = H.volume;
    forest = (f, H.records);
    here = own.graph.header;
    typed = ap₂ (λ c t. is_child_type d.types c t) own.graph.header_code below;
  }
  parent_of_type (Some q) code there below = record {
    volume = H.volume;
    forest = (f, H.records);
    here = (ground.addressed.there q there).here;
    typed = ap (λ c. is_child_type d.types c code) (ap (λ (r : Segment). r.code) (ground.addressed.same q there)) ∙ below;
  }

  module _ (parent : Option ℕ) (there : IfSome parent (λ q. q < length (rows_of f))) (code : ℕ) (below : IsTypeBelow d.types (rows_of f) parent code) where
    -- the first child of the type is the first of the twins
    pub first_twin : IsFirstFrom d.types f parent code 0 (m.first_child (parent_address f parent) code)
    first_twin = by parent refl there below
      where
        by : (o : Option ℕ) → parent ≡ o → IfSome o (λ q. q < length (rows_of f)) → IsTypeBelow d.types (rows_of f) o code
            → IsFirstFrom d.types f parent code 0 (m.first_child (parent_address f o) code)
        by None is there below =
            first_root d.types f parent code m ground.addressed ground.steps is below own.graph.header own.graph.header_code own.linked.typed
            (first-step d v f H.volume.fit H.volume H.records)
        by (Some q) is there below = first_below d.types f parent code m ground.addressed ground.steps q is there below

    -- The twin at y is followed by that at z: 0 before the first and behind the last.
    pub record IsRowGap (y z : ℕ) : Type 0 where
      pub first : y ≡ 0 → IsFirstFrom d.types f parent code 0 z
      pub next : 0 < y → (k : ℕ) × IsTwinRow d.types (rows_of f) parent code k × (address_at f k ≡ y) × IsFirstFrom d.types f parent code (k + 1) z

    pub gap_rows : (y z : ℕ) → IsBehind m (m.first_child (parent_address f parent) code) y z → IsRowGap y z
    gap_rows y z (inl e) = record {
      first = λ none. subst (IsFirstFrom d.types f parent code 0) e.1 first_twin;
      next = λ some. absurd (let none = e.0 in omega arith);
    }
    gap_rows y z (inr b) = record {
      first = λ none. absurd (let some = b.0 in omega arith);
      next = λ some.
          (let K = chain_row d.types f parent code m ground.addressed ground.steps b.1.0 0 (m.first_child (parent_address f parent) code) y first_twin b.1.1 in
          (K.0, K.2, K.3, subst (IsFirstFrom d.types f parent code (K.0 + 1)) (ap m.forward K.3 ∙ b.2) (next_from d.types f parent code m ground.addressed ground.steps K.0 K.2)));
    }

    -- what is in the chain is a twin
    pub chained_row : (y : ℕ) → IsInChain m (m.first_child (parent_address f parent) code) y → (k : ℕ) × IsTwinRow d.types (rows_of f) parent code k × (address_at f k ≡ y)
    chained_row y C =
        (let K = chain_row d.types f parent code m ground.addressed ground.steps C.0 0 (m.first_child (parent_address f parent) code) y first_twin C.1 in (K.0, K.2, K.3))

-- what stands behind a twin in a chain is the twin behind it
pub behind_is : (m : Links) (h t y z : ℕ) → IsBehind m (m.first_child h t) y z → twin_behind m h t y ≡ z
behind_is m h t y z (inl e) = cond-true (y == 0) (m.first_child h t) (m.forward y) (eq-eqb y 0 e.0) ∙ e.1
behind_is m h t y z (inr b) = cond-false (y == 0) (m.first_child h t) (m.forward y) (ne_eqb y 0 (λ (e : y ≡ 0). (let s : 0 < y = b.0 in omega arith))) ∙ b.2
