-- Rows that one call puts in, each below the one before.
use Rattle.std.specs.Prelude.{◌≡◌, ◌≢◌, ℕ, ◌+◌, ◌<◌, ◌≤◌, List, [], ◌∷◌, ◌++◌, length, map, true, IsTrue}
use Rattle.hd_dbd.specs.declared.hierarchy.FreeSpace.{FreeSpace}
use Rattle.hd_dbd.specs.Types.{SegmentType}
use Rattle.hd_dbd.specs.Hierarchy.{Database}
use Rattle.hd_dbd.specs.DatabaseRules.{well_formed}
use Rattle.hd_dbd.specs.Segment.{Segment}
use Rattle.hd_dbd.specs.Rows.{row_fits, key_of}
use Rattle.hd_dbd.specs.Forest.{Forest}
use Rattle.hd_calls.specs.Moves.{inserted, put_in}
use Rattle.hd_calls.specs.Runs.{has_root, blocks_for, Follows}
use Rattle.hd_volume.specs.Headers.{header_of}
use Rattle.hd_volume.specs.Volumes.{VolumeState}
use Rattle.hd_volume.specs.Rooms.{spare}
use Rattle.hd_links.specs.Links.{Links, IsLinkGraph, is_child_type}
use Rattle.hd_links.specs.Placed.{Placed, Holds}
use Rattle.hd_links.specs.Changes.{Agree, linked, with_leaf, CanLink}
use Rattle.hd_links.specs.Steps.{rows_of, addresses, address_at}
use Rattle.hd_links.specs.Numbers.{LeafGoesInAt}
use Rattle.hd_links.specs.LastRows.{segments_of}
use Rattle.hd_image.specs.Records.{links_of}
use Rattle.hd_image.specs.Holding.{HoldsPlaced}
use Rattle.hd_forest.specs.Updates.{MayLink, IsLinked}
use Rattle.hd_index.specs.Maps.{with_entry}
use Rattle.hd_index.specs.Changes.{entries_for}
use Rattle.hd_changes.specs.Entered.{entry_of, IsEntered}
use Rattle.hd_changes.specs.Rooms.{blocks_for_entry}
use Rattle.hd_changes.specs.VolumeImages.{images_of}

-- ---- below a leaf

-- no segment stands below this one
abbrev pub HasNoChild : List SegmentType → Links → ℕ → Type 0
HasNoChild types m a = (t : ℕ) → is_child_type types (m.code a) t ≡ true → m.first_child a t ≡ 0

-- any row of a child type may be linked below this one, as its first child
abbrev pub TakesAChild : List SegmentType → Links → Placed → Type 0
TakesAChild types m p = (row : Segment) → is_child_type types p.segment.code row.code ≡ true → row_fits types row ≡ true → MayLink types m p.address 0 row

-- A leaf that was linked has no child, and takes one.
abbrev pub LeavesTakeAChild : Type 0
LeavesTakeAChild =
    (types : List SegmentType) (m m2 : Links) (h y : ℕ) (p : Placed) → Agree types (linked m h y p) m2
    → HasNoChild types m2 p.address × TakesAChild types m2 p

-- The first child of a row that has none goes in just behind the row.
abbrev pub FirstChildrenGoInNext : Type 0
FirstChildrenGoInNext =
    (block_size : ℕ) (frspc : FreeSpace) (types : List SegmentType) (bound : ℕ) (m : Links) (f : Forest Placed) (i : ℕ) (p : Placed)
    → IsTrue (well_formed block_size frspc types) → IsLinkGraph types bound m → Holds types m f → i < length (rows_of f)
    → HasNoChild types m (address_at f i) → CanLink types m (address_at f i) 0 p → LeafGoesInAt types f (address_at f i) 0 p (i + 1)

-- ---- a path

-- Rows were put in at number n of those of the forest f, which the volume v held, each below the one before: the volume w, of the
-- same version, holds g, the forest with them, and no more blocks were taken than they may need; the last of them has no child yet.
pub record IsPathIn (d : Database) (v : VolumeState) (f : Forest Placed) (n : ℕ) (front : List Placed) (last : Placed) (w : VolumeState) (g : Forest Placed) : Type 0 where
  pub held : HoldsPlaced d v f
  pub holds : HoldsPlaced d w g
  pub within : n ≤ length (rows_of f)
  pub rows : rows_of g ≡ put_in n (segments_of (front ++ last ∷ [])) (rows_of f)
  pub places : addresses g ≡ put_in n (map (λ p. p.address) (front ++ last ∷ [])) (addresses f)
  pub childless : HasNoChild d.types (links_of d.types w) last.address
  pub takes : TakesAChild d.types (links_of d.types w) last
  pub version : (header_of w.image).version ≡ (header_of v.image).version
  pub largest : (header_of w.image).largest ≡ (header_of v.image).largest
  pub spares : spare v ≤ spare w + blocks_for (images_of d) v.image (segments_of (front ++ last ∷ [])) (has_root (segments_of (front ++ last ∷ [])))

-- A row that is linked below another begins a path.
abbrev pub PathsBeginBelowRows : Type 0
PathsBeginBelowRows =
    (d : Database) (v w : VolumeState) (f : Forest Placed) (h y n : ℕ) (p : Placed) → HoldsPlaced d v f → h ≢ 0
    → LeafGoesInAt d.types f h y p n → IsLinked d v h y p.segment p.address w → IsPathIn d v f n [] p w (with_leaf h y p f)

-- So does a root that is linked, and then entered into the index.
abbrev pub PathsBeginWithRoots : Type 0
PathsBeginWithRoots =
    (d : Database) (v w x : VolumeState) (f : Forest Placed) (y n more : ℕ) (p : Placed) → HoldsPlaced d v f
    → MayLink d.types (links_of d.types v) 0 y p.segment → LeafGoesInAt d.types f 0 y p n → IsLinked d v 0 y p.segment p.address w
    → IsEntered d w (with_entry (entry_of d.types p) (entries_for d w)) more x → spare w ≤ spare x + blocks_for_entry d w (key_of d.types p.segment)
    → IsPathIn d v f n [] p x (with_leaf 0 y p f)

-- A row that is linked below the last of a path is one row more on it.
abbrev pub PathsGoOn : Type 0
PathsGoOn =
    (d : Database) (v w x : VolumeState) (f g : Forest Placed) (n : ℕ) (front : List Placed) (last p : Placed) → IsPathIn d v f n front last w g
    → is_child_type d.types last.segment.code p.segment.code ≡ true → row_fits d.types p.segment ≡ true
    → IsLinked d w last.address 0 p.segment p.address x → IsPathIn d v f n (front ++ last ∷ []) p x (with_leaf last.address 0 p g)

-- A path that is in is an insertion of its rows, as a log of calls has it.
abbrev pub PathsAreInsertions : Type 0
PathsAreInsertions =
    (d : Database) (v w : VolumeState) (f g : Forest Placed) (n : ℕ) (front : List Placed) (last : Placed) → IsPathIn d v f n front last w g
    → Follows (images_of d) (rows_of f) v.image (inserted n (segments_of (front ++ last ∷ []))) (rows_of g) w.image
