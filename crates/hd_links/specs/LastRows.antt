-- The last row of a placed forest, with its parents, and where a row goes in that is loaded behind it.
use Rattle.std.specs.Prelude.{◌≡◌, ℕ, ◌-◌, List, [], ◌∷◌, ◌++◌, take, map, false, None, ◌==◌, cond, slice_get, IsTrue, true}
use Rattle.std.specs.Option.{option_map_or}
use Rattle.hd_dbd.specs.declared.hierarchy.FreeSpace.{FreeSpace}
use Rattle.hd_dbd.specs.Types.{SegmentType}
use Rattle.hd_dbd.specs.Hierarchy.{parent_of}
use Rattle.hd_dbd.specs.DatabaseRules.{well_formed}
use Rattle.hd_dbd.specs.Segment.{Segment}
use Rattle.hd_dbd.specs.Rows.{level, row_fits}
use Rattle.hd_dbd.specs.Loads.{load_fault}
use Rattle.hd_dbd.specs.Forest.{Forest, empty, node, sequence}
use Rattle.hd_links.specs.Links.{Links, IsLinkGraph}
use Rattle.hd_links.specs.Placed.{Placed, Holds}
use Rattle.hd_links.specs.Changes.{with_leaf, CanLink}

-- the last row and its parents, root first
abbrev pub last_on : Forest Placed → List Placed
last_on empty = []
last_on (node p below empty) = p ∷ last_on below
last_on (node p below (node q k n)) = last_on (node q k n)

-- the roots, in order
abbrev pub roots_of : Forest Placed → List Placed
roots_of empty = []
roots_of (node p below behind) = p ∷ roots_of behind

-- the segments of some rows
abbrev pub segments_of : List Placed → List Segment
segments_of path = map (λ p. p.segment) path

-- the address of a row's parent on a path: 0, the header, for a root
abbrev pub parent_on_path : List SegmentType → List Placed → Segment → ℕ
parent_on_path types path row = option_map_or (λ _. option_map_or (λ q. q.address) (slice_get path (level types row - 2)) 0) (parent_of types row.code) 0

-- the address of a row's preceding twin on a path, 0 where it is the first of its type
abbrev pub twin_on_path : List SegmentType → List Placed → Segment → ℕ
twin_on_path types path row = option_map_or (λ q. cond (q.segment.code == row.code) q.address 0) (slice_get path (level types row - 1)) 0

-- Where a row was loaded behind the last row of a forest: it may be linked there, and comes last.
pub record IsLoadedLast (types : List SegmentType) (m : Links) (f : Forest Placed) (h y : ℕ) (p : Placed) : Type 0 where
  pub may : CanLink types m h y p
  pub rows : sequence (with_leaf h y p f) ≡ sequence f ++ p ∷ []
  pub roots : roots_of (with_leaf h y p f) ≡ cond (h == 0) (roots_of f ++ p ∷ []) (roots_of f)
  pub last : last_on (with_leaf h y p f) ≡ take (level types p.segment - 1) (last_on f) ++ p ∷ []

-- A row that may be loaded behind the last row of a forest goes in below its parent on that row's path, behind its twin there.
abbrev pub LoadedRowsComeLast : Type 0
LoadedRowsComeLast =
    (block_size : ℕ) (frspc : FreeSpace) (types : List SegmentType) (bound : ℕ) (m : Links) (f : Forest Placed) (p : Placed)
    → IsTrue (well_formed block_size frspc types) → IsLinkGraph types bound m → Holds types m f
    → row_fits types p.segment ≡ true → load_fault types (segments_of (last_on f)) p.segment ≡ None → m.here p.address ≡ false
    → IsLoadedLast types m f (parent_on_path types (last_on f) p.segment) (twin_on_path types (last_on f) p.segment) p
