-- What is known of the rows of a forest that a volume holds.
use Rattle.std.proofs.Common.{◌≡◌, ℕ, ◌<◌, ◌≤◌, true, arith, Some, None, List, [], length, refl, sym, ap, subst, ◌∙◌}
use Rattle.hd_dbd.specs.Types.{SegmentType}
use Rattle.hd_dbd.specs.Hierarchy.{Database}
use Rattle.hd_dbd.specs.Segment.{Segment}
use Rattle.hd_dbd.specs.Paths.{row_at, level_at, parent_row}
use Rattle.hd_dbd.specs.Rows.{valid}
use Rattle.hd_dbd.proofs.LevelLaw.{leveled}
use Rattle.hd_dbd.proofs.Sequences.{walk}
use Rattle.std.proofs.lemmas.List.{append-nil}
use Rattle.hd_calls.specs.Admits.{AreRowsOf}
use Rattle.hd_dbd.specs.Forest.{Forest}
use Rattle.std.specs.Prelude.{Ok}
use Rattle.hd_volume.specs.Volumes.{VolumeState}
use Rattle.hd_volume.specs.Calls.{IsRead}
use Rattle.hd_forest.proofs.Reading.{after-read}
use Rattle.hd_get.specs.Searches.{IsPathOf}
use Rattle.hd_links.specs.Links.{Links, IsSegment, is_child_type, is_last_kept}
use Rattle.hd_links.specs.Placed.{Placed, Holds, forest_of}
use Rattle.hd_links.specs.Steps.{rows_of, address_at, path_at, tip_from, RowsHaveAddresses, StepsAreRows}
use Rattle.hd_image.specs.Records.{links_of, IsVolumeOf}
use Rattle.hd_forest.specs.Walks.{tip}
use Rattle.hd_forest.specs.Rows.{IsOnRow}
use Rattle.hd_image.proofs.Found.{records-link}
use Rattle.hd_calls.specs.Gets.{first_child}
use Rattle.hd_forest.specs.Twins.{IsBehind}
use Rattle.hd_forest.proofs.Walking.{addressed, steps-found}
use Rattle.hd_forest.proofs.Held.{held}
use Rattle.hd_forest.proofs.Tips.{last-kept}
use Rattle.hd_position.specs.Laws.{IsHeld}
use Rattle.hd_position.proofs.Before.{path_levels}
use Rattle.hd_get.proofs.Spans.{child_is, parent_span}

-- the rows of a forest that a volume holds are rows of its database
pub held_rows : (d : Database) (v : VolumeState) (f : Forest Placed) → IsVolumeOf d v → Holds d.types (links_of d.types v) f → AreRowsOf d.types (rows_of f)
held_rows d v f of holds = record {
  block_size = d.block_size;
  free_space = d.frspc;
  formed = of.fit;
  fit = ap (λ (rows : List Segment). valid d.types rows) (sym (append-nil (rows_of f)))
      ∙ (walk d.types (leveled d.block_size d.frspc d.types of.fit) (forest_of f) [] [] [] None None refl tt refl holds.fits).1;
}

-- Rows have addresses, and the steps by pointers are the steps by rows.
pub record Grounds (types : List SegmentType) (m : Links) (f : Forest Placed) : Type 0 where
  pub addressed : RowsHaveAddresses m f
  pub steps : (i : ℕ) → i < length (rows_of f) → StepsAreRows types m f i

pub grounds : (d : Database) (v : VolumeState) (f : Forest Placed) → IsVolumeOf d v → Holds d.types (links_of d.types v) f → Grounds d.types (links_of d.types v) f
grounds d v f of holds = record { addressed = addressed d v f of.fit of holds; steps = steps-found d v f of.fit of holds }

module _ (types : List SegmentType) (m : Links) (f : Forest Placed) (G : Grounds types m f) (path : List ℕ) (i : ℕ) (on : IsOnRow types m f path i) where
  -- the last address of a row's path is the row's
  pub tip_is : tip path ≡ address_at f i
  tip_is = ap (tip_from 0) on.is ∙ (G.steps i on.within).tip

  pub tip_there : IsSegment m (tip path)
  tip_there = subst (IsSegment m) (sym tip_is) (G.addressed.there i on.within)

  pub tip_code : m.code (tip path) ≡ (row_at (rows_of f) i).code
  tip_code = ap m.code tip_is ∙ ap (λ (r : Segment). r.code) (G.addressed.same i on.within)

-- last child, where it is kept, is the last of the children of its type
pub last_behind : (d : Database) (v : VolumeState) (f : Forest Placed) → IsVolumeOf d v → Holds d.types (links_of d.types v) f → (i code : ℕ) → i < length (rows_of f)
    → is_child_type d.types (row_at (rows_of f) i).code code ≡ true → is_last_kept d.types code ≡ true
    → IsBehind (links_of d.types v) ((links_of d.types v).first_child (address_at f i) code) ((links_of d.types v).last_child (address_at f i) code) 0
last_behind d v f of holds i code within typed kept =
    let m = links_of d.types v in
    let G = grounds d v f of holds in
    let H = held d v of.fit of (f, holds) in
    let is : m.code (address_at f i) ≡ (row_at (rows_of f) i).code = ap (λ (r : Segment). r.code) (G.addressed.same i within) in
    last-kept d.types H.ordered (length v.image) m H.graph H.linked (address_at f i) code (G.addressed.there i within).here (subst (λ x. is_child_type d.types x code ≡ true) (sym is) typed) kept

-- the path of a row with a child has room for it
pub short_path_by : (d : Database) (v : VolumeState) (f : Forest Placed) → IsVolumeOf d v → (path : List ℕ) (i : ℕ) → IsOnRow d.types (links_of d.types v) f path i
    → (j : ℕ) → j < length (rows_of f) → parent_row d.types (rows_of f) j ≡ Some i → length path < 15
short_path_by d v f of path i on j within parent =
    let P = parent_span d.types (rows_of f) j i within parent in
    let H : IsHeld d.block_size d.frspc d.types (length v.image) (links_of d.types v) f = record { formed = of.fit; graph = records-link d v of.fit of; holds = on.holds } in
    let I = path_levels d.block_size d.frspc d.types (length v.image) (links_of d.types v) f i H on.within in
    let J = path_levels d.block_size d.frspc d.types (length v.image) (links_of d.types v) f j H within in
    let a : length path ≡ length (path_at d.types f i) = ap (λ (xs : List ℕ). length xs) on.is in
    let b : length (path_at d.types f i) ≡ level_at d.types (rows_of f) i = I.0 in
    let e : level_at d.types (rows_of f) i < level_at d.types (rows_of f) j = P.1 in
    let h : level_at d.types (rows_of f) j ≤ 15 = J.1 in omega arith

pub short_path : (d : Database) (v : VolumeState) (f : Forest Placed) → IsVolumeOf d v → (path : List ℕ) (i : ℕ) → IsOnRow d.types (links_of d.types v) f path i
    → (j code : ℕ) → first_child d.types (rows_of f) code i ≡ Some j → length path < 15
short_path d v f of path i on j code is =
    let C = child_is d.types (rows_of f) i code j on.within is in
    short_path_by d v f of path i on j C.within C.parent

-- what was told of the volume after a call that read was told of it before
pub told_before : {A : Type 0} {x : A} (d : Database) (u v : VolumeState) → IsRead {T = A} u (Ok x) v → (f : Forest Placed) (path : List ℕ) (i : ℕ) → IsPathOf d u f path i → IsPathOf d v f path i
told_before d u v read f path i at =
    let same = after-read d u v read at.sound in
    record { sound = same.sound; row = subst (λ m. IsOnRow d.types m f path i) (sym same.links) at.row }
