-- Laws of the linked forest, for every well-formed list of types.
use Rattle.std.specs.Prelude.{slice_set, ◌≡◌, ℕ, ◌<◌, List, [], length, map, true, IsTrue}
use Rattle.hd_dbd.specs.declared.hierarchy.FreeSpace.{FreeSpace}
use Rattle.hd_dbd.specs.Types.{SegmentType}
use Rattle.hd_dbd.specs.DatabaseRules.{well_formed}
use Rattle.hd_dbd.specs.Segment.{Segment}
use Rattle.hd_dbd.specs.Rows.{twins_in_order}
use Rattle.hd_dbd.specs.Paths.{row_at, end_of, is_twin}
use Rattle.hd_dbd.specs.Forest.{Forest, sequence}
use Rattle.hd_links.specs.Links.{Links, IsLinkGraph, is_child_type, is_last_kept}
use Rattle.hd_dbd.specs.Prefixes.{is_backward_kept}
use Rattle.hd_links.specs.Placed.{Placed, forest_of, count, Lies, Holds}
use Rattle.hd_links.specs.Pointers.{IsInChain, AreLinked, PointersAreTyped, PredecessorsAreOne, IsTwinAfter}
use Rattle.hd_links.specs.Changes.{AgreeAt, Agree, twin_behind, linked, unlinked, replaced, with_leaf, without_span, with_bytes, CanLink, CanUnlink, CanReplace}
use Rattle.hd_links.specs.Moves.{moved_to, moved, moved_with, with_address, CanMove}
use Rattle.hd_links.specs.Steps.{rows_of, addresses, address_at, path_at, RowsHaveAddresses, next_row, StepsAreRows}
use Rattle.hd_links.specs.Numbers.{LeafGoesInAt, RowsLeave}
use Rattle.hd_links.specs.Faulty.{FaultyRecords}

-- The records hold one placed forest and no other.
abbrev pub HoldsOne : List SegmentType → Links → Type 0
HoldsOne types m = (f : Forest Placed) × Holds types m f × ((g : Forest Placed) → Holds types m g → g ≡ f)

-- Where the records are linked they hold just one placed forest, and where they hold one they are linked.
abbrev pub PointersDecide : Type 0
PointersDecide =
    (block_size : ℕ) (frspc : FreeSpace) (types : List SegmentType) (bound : ℕ) (m : Links) → IsTrue (well_formed block_size frspc types)
    → IsLinkGraph types bound m
    → (AreLinked types m → HoldsOne types m) × ((f : Forest Placed) → Holds types m f → AreLinked types m)

-- Where each pointer is of its type and each segment has one predecessor, each chain of twins from a first child ends, with
-- one segment, and within as many twins as there are addresses.
abbrev pub ChainsEnd : Type 0
ChainsEnd =
    (block_size : ℕ) (frspc : FreeSpace) (types : List SegmentType) (bound : ℕ) (m : Links) (h t : ℕ) → IsTrue (well_formed block_size frspc types)
    → IsLinkGraph types bound m → PointersAreTyped types m → PredecessorsAreOne types m
    → m.here h ≡ true → is_child_type types (m.code h) t ≡ true → 0 < m.first_child h t
    → (n : ℕ) × (l : ℕ) × (n < bound) × IsTwinAfter m n (m.first_child h t) l × (m.forward l ≡ 0)
    × ((a : ℕ) → IsInChain m (m.first_child h t) a → m.forward a ≡ 0 → a ≡ l)

-- Of any two twins of a forest that is held, the earlier is in key order before the later.
abbrev pub HeldTwinsAscend : Type 0
HeldTwinsAscend =
    (block_size : ℕ) (frspc : FreeSpace) (types : List SegmentType) (m : Links) (f : Forest Placed) (i j : ℕ) → IsTrue (well_formed block_size frspc types)
    → Holds types m f → let rows : List Segment = sequence (forest_of f) in
    i < j → j < length rows → is_twin types rows i j ≡ true → twins_in_order types (row_at rows i) (row_at rows j) ≡ true

-- Where a placed forest lies depends on the header and the placed addresses alone.
abbrev pub LiesByItsPlaces : Type 0
LiesByItsPlaces =
    (types : List SegmentType) (bound : ℕ) (m m2 : Links) (f : Forest Placed) → IsLinkGraph types bound m
    → AgreeAt types m m2 0 → ((a : ℕ) → 0 < count a f → AgreeAt types m m2 a) → Lies types m f → Lies types m2 f

-- After a leaf was linked the records hold the forest with the leaf, all other addresses kept.
abbrev pub LinkingAddsALeaf : Type 0
LinkingAddsALeaf =
    (block_size : ℕ) (frspc : FreeSpace) (types : List SegmentType) (bound : ℕ) (m m2 : Links) (f : Forest Placed) (h y : ℕ) (p : Placed)
    → IsTrue (well_formed block_size frspc types) → IsLinkGraph types bound m → Holds types m f
    → CanLink types m h y p → p.address < bound → Agree types (linked m h y p) m2
    → IsLinkGraph types bound m2 × Holds types m2 (with_leaf h y p f)

-- After a span was unlinked the records hold the forest without it, all other addresses kept.
abbrev pub UnlinkingTakesASpan : Type 0
UnlinkingTakesASpan =
    (block_size : ℕ) (frspc : FreeSpace) (types : List SegmentType) (bound : ℕ) (m m2 : Links) (f : Forest Placed) (h y a : ℕ)
    → IsTrue (well_formed block_size frspc types) → IsLinkGraph types bound m → Holds types m f
    → CanUnlink types m h y a → Agree types (unlinked m h y a (without_span h a f)) m2
    → IsLinkGraph types bound m2 × Holds types m2 (without_span h a f)

-- After a segment's bytes were replaced the records hold the forest with these bytes, all addresses kept.
abbrev pub ReplacingChangesBytes : Type 0
ReplacingChangesBytes =
    (block_size : ℕ) (frspc : FreeSpace) (types : List SegmentType) (bound : ℕ) (m m2 : Links) (f : Forest Placed) (a : ℕ) (bytes : List ℕ)
    → IsTrue (well_formed block_size frspc types) → IsLinkGraph types bound m → Holds types m f
    → CanReplace types m a bytes → Agree types (replaced m a bytes) m2
    → IsLinkGraph types bound m2 × Holds types m2 (with_bytes a bytes f)

-- After a segment moved the records are those of a database, and hold the same forest, the row at its new address.
abbrev pub MovingKeepsTheForest : Type 0
MovingKeepsTheForest =
    (block_size : ℕ) (frspc : FreeSpace) (types : List SegmentType) (bound : ℕ) (m : Links) (f : Forest Placed) (a b : ℕ)
    → IsTrue (well_formed block_size frspc types) → IsLinkGraph types bound m → Holds types m f
    → CanMove m a b → b < bound
    → IsLinkGraph types bound (moved m a b)
    × ((m2 : Links) → Agree types (moved m a b) m2 → IsLinkGraph types bound m2 × Holds types m2 (with_address a b f))

-- After a segment moved with other bytes, and its twins or its parent named it where it stands then, the records are those of a database,
-- and hold the forest with these bytes, the row at its new address.
abbrev pub MovingWithNewBytes : Type 0
MovingWithNewBytes =
    (block_size : ℕ) (frspc : FreeSpace) (types : List SegmentType) (bound : ℕ) (m m2 : Links) (f : Forest Placed) (h y a b : ℕ) (bytes : List ℕ)
    → IsTrue (well_formed block_size frspc types) → IsLinkGraph types bound m → Holds types m f
    → CanReplace types m a bytes → CanUnlink types m h y a → CanMove m a b → b < bound → Agree types (moved_with m h y a b bytes) m2
    → IsLinkGraph types bound m2 × Holds types m2 (with_address a b (with_bytes a bytes f))

-- A segment that moves leaves the rows as they were, and its new address stands wherever the old one stood.
abbrev pub AMoveKeepsRows : Type 0
AMoveKeepsRows =
    (types : List SegmentType) (f : Forest Placed) (a b : ℕ)
    → (rows_of (with_address a b f) ≡ rows_of f)
    × (0 < a → (i : ℕ)
    → (address_at (with_address a b f) i ≡ moved_to a b (address_at f i))
    × (path_at types (with_address a b f) i ≡ map (moved_to a b) (path_at types f i)))

-- Addresses are row numbers.
abbrev pub AddressesAreRows : Type 0
AddressesAreRows = (types : List SegmentType) (m : Links) (f : Forest Placed) → Holds types m f → RowsHaveAddresses m f

-- Where a forest is held, the steps by pointers are those by rows, from each row and from the beginning.
abbrev pub PointersFollowRows : Type 0
PointersFollowRows =
    (block_size : ℕ) (frspc : FreeSpace) (types : List SegmentType) (bound : ℕ) (m : Links) (f : Forest Placed) → IsTrue (well_formed block_size frspc types)
    → IsLinkGraph types bound m → Holds types m f
    → ((i : ℕ) → i < length (rows_of f) → StepsAreRows types m f i) × (next_row types m [] ≡ address_at f 0)

-- A leaf that is linked is one row more.
abbrev pub LeavesGoInBetweenRows : Type 0
LeavesGoInBetweenRows =
    (block_size : ℕ) (frspc : FreeSpace) (types : List SegmentType) (bound : ℕ) (m : Links) (f : Forest Placed) (h y : ℕ) (p : Placed)
    → IsTrue (well_formed block_size frspc types) → IsLinkGraph types bound m → Holds types m f → CanLink types m h y p
    → (n : ℕ) × LeafGoesInAt types f h y p n

-- A span that is unlinked is the rows from its first to its end.
abbrev pub SpansAreRowsToTheirEnd : Type 0
SpansAreRowsToTheirEnd =
    (block_size : ℕ) (frspc : FreeSpace) (types : List SegmentType) (bound : ℕ) (m : Links) (f : Forest Placed) (h y a i : ℕ)
    → IsTrue (well_formed block_size frspc types) → IsLinkGraph types bound m → Holds types m f → CanUnlink types m h y a
    → i < length (rows_of f) → address_at f i ≡ a → RowsLeave m f h y a i (end_of types (rows_of f) i)

-- Where twin backward is kept it names the twin behind which a span is unlinked, or 0 for the first.
abbrev pub BackwardNamesTheTwinBefore : Type 0
BackwardNamesTheTwinBefore =
    (block_size : ℕ) (frspc : FreeSpace) (types : List SegmentType) (bound : ℕ) (m : Links) (f : Forest Placed) (h a : ℕ)
    → IsTrue (well_formed block_size frspc types) → IsLinkGraph types bound m → Holds types m f
    → m.here h ≡ true → is_child_type types (m.code h) (m.code a) ≡ true → IsInChain m (m.first_child h (m.code a)) a → is_backward_kept types (m.code a) ≡ true
    → CanUnlink types m h (m.backward a) a

-- Where last child is kept it names the twin behind which a new last one is linked, or 0 for the first.
abbrev pub LastChildEndsTheTwins : Type 0
LastChildEndsTheTwins =
    (block_size : ℕ) (frspc : FreeSpace) (types : List SegmentType) (bound : ℕ) (m : Links) (f : Forest Placed) (h t : ℕ)
    → IsTrue (well_formed block_size frspc types) → IsLinkGraph types bound m → Holds types m f
    → m.here h ≡ true → is_child_type types (m.code h) t ≡ true → is_last_kept types t ≡ true
    → (0 < m.last_child h t → IsInChain m (m.first_child h t) (m.last_child h t)) × (twin_behind m h t (m.last_child h t) ≡ 0)

-- Bytes that are replaced change one row, and no address.
abbrev pub BytesChangeOneRow : Type 0
BytesChangeOneRow =
    (types : List SegmentType) (m : Links) (f : Forest Placed) (i : ℕ) (bytes : List ℕ) → Holds types m f → i < length (rows_of f)
    → (rows_of (with_bytes (address_at f i) bytes f) ≡ slice_set (rows_of f) i (record { code = (row_at (rows_of f) i).code; bytes = bytes }))
    × (addresses (with_bytes (address_at f i) bytes f) ≡ addresses f)

-- Faulty records hold no forest.
abbrev pub FaultyRecordsHoldNone : Type 0
FaultyRecordsHoldNone =
    (block_size : ℕ) (frspc : FreeSpace) (types : List SegmentType) (bound : ℕ) (m : Links) → IsTrue (well_formed block_size frspc types)
    → IsLinkGraph types bound m → FaultyRecords types m
