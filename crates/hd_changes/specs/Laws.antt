-- Laws of the changes of a volume's forest and of its index.
use Rattle.std.specs.Prelude.{◌≡◌, ◌≢◌, ℕ, List, None, IsTrue}
use Rattle.hd_dbd.specs.Types.{SegmentType}
use Rattle.hd_dbd.specs.Hierarchy.{Database}
use Rattle.hd_dbd.specs.DatabaseRules.{well_formed}
use Rattle.hd_dbd.specs.declared.hierarchy.FreeSpace.{FreeSpace}
use Rattle.hd_dbd.specs.Segment.{Segment}
use Rattle.hd_dbd.specs.Rows.{key_of}
use Rattle.hd_dbd.specs.Forest.{Forest}
use Rattle.hd_volume.specs.Volumes.{VolumeState}
use Rattle.hd_volume.specs.Entries.{Entry}
use Rattle.hd_links.specs.Links.{Links, IsLinkGraph, segment_at}
use Rattle.hd_links.specs.Placed.{Placed, Holds}
use Rattle.hd_links.specs.Changes.{with_leaf, without_span, with_bytes, CanLink, CanUnlink, CanReplace}
use Rattle.hd_image.specs.Records.{links_of}
use Rattle.hd_image.specs.Holding.{root_entries, HoldsPlaced}
use Rattle.hd_forest.specs.Walks.{tip, parent_on}
use Rattle.hd_forest.specs.Updates.{MayLink, IsLinked, IsUnlinked}
use Rattle.hd_index.specs.Maps.{address_of, with_entry, without_key}
use Rattle.hd_index.specs.Changes.{IsLater, IsIndexOf, entries_for}
use Rattle.hd_changes.specs.Entered.{entry_of, HoldsWith, IsEntered}

-- ---- the entries of roots

-- A change below a row changes no root's entry.
abbrev pub ChangesBelowKeepEntries : Type 0
ChangesBelowKeepEntries =
    (types : List SegmentType) (f : Forest Placed) (h : ℕ) → h ≢ 0
    → ((y : ℕ) (p : Placed) → root_entries types (with_leaf h y p f) ≡ root_entries types f)
    × ((a : ℕ) → root_entries types (without_span h a f) ≡ root_entries types f)

-- Bytes with the same key change no root's entry.
abbrev pub ReplacingKeepsEntries : Type 0
ReplacingKeepsEntries =
    (types : List SegmentType) (m : Links) (f : Forest Placed) (a : ℕ) (bytes : List ℕ) → Holds types m f → CanReplace types m a bytes
    → root_entries types (with_bytes a bytes f) ≡ root_entries types f

-- A new root's key is new, and its entry goes in at the key.
abbrev pub LinkingEntersRoots : Type 0
LinkingEntersRoots =
    (block_size : ℕ) (frspc : FreeSpace) (types : List SegmentType) (bound : ℕ) (m : Links) (f : Forest Placed) (y : ℕ) (p : Placed)
    → IsTrue (well_formed block_size frspc types) → IsLinkGraph types bound m → Holds types m f → CanLink types m 0 y p
    → (address_of (key_of types p.segment) (root_entries types f) ≡ None)
    × (root_entries types (with_leaf 0 y p f) ≡ with_entry (entry_of types p) (root_entries types f))

-- A root that is taken out leaves the entries without its key.
abbrev pub UnlinkingRemovesRoots : Type 0
UnlinkingRemovesRoots =
    (block_size : ℕ) (frspc : FreeSpace) (types : List SegmentType) (bound : ℕ) (m : Links) (f : Forest Placed) (y a : ℕ)
    → IsTrue (well_formed block_size frspc types) → IsLinkGraph types bound m → Holds types m f → CanUnlink types m 0 y a
    → root_entries types (without_span 0 a f) ≡ without_key (key_of types (segment_at m a)) (root_entries types f)

-- ---- one step

-- A volume holds a forest just where its records do and its index has the entries of the roots.
abbrev pub HeldIsEntered : Type 0
HeldIsEntered =
    (d : Database) (v : VolumeState) (f : Forest Placed)
    → (HoldsPlaced d v f → HoldsWith d v f (root_entries d.types f)) × (HoldsWith d v f (root_entries d.types f) → HoldsPlaced d v f)

-- Linking and unlinking change the forest, and no entry.
abbrev pub ForestChangesKeepEntries : Type 0
ForestChangesKeepEntries =
    (d : Database) (v w : VolumeState) (f : Forest Placed) (es : List Entry) → HoldsWith d v f es
    → ((h y a : ℕ) (row : Segment) → IsLinked d v h y row a w → HoldsWith d w (with_leaf h y (record { address = a; segment = row }) f) es)
    × ((path : List ℕ) → IsUnlinked d v path w → HoldsWith d w (without_span (parent_on path) (tip path) f) es)

-- A change of the index changes the entries, and not the forest.
abbrev pub IndexChangesKeepTheForest : Type 0
IndexChangesKeepTheForest =
    (d : Database) (v w : VolumeState) (f : Forest Placed) (before after : List Entry) (more : ℕ)
    → HoldsWith d v f before → IsEntered d v after more w → HoldsWith d w f after

-- ---- a change that is done

-- A volume in which a row was linked below another holds the forest with it.
abbrev pub LinkedBelowIsHeld : Type 0
LinkedBelowIsHeld =
    (d : Database) (v w : VolumeState) (f : Forest Placed) (h y a : ℕ) (row : Segment) → HoldsPlaced d v f → h ≢ 0
    → IsLinked d v h y row a w → HoldsPlaced d w (with_leaf h y (record { address = a; segment = row }) f)

-- Once a root is linked, wherever, a volume of version 2 or later has its index, in which the root's key is new.
abbrev pub LinkedRootIsNew : Type 0
LinkedRootIsNew =
    (d : Database) (v w : VolumeState) (f : Forest Placed) (y a : ℕ) (row : Segment) → HoldsPlaced d v f → IsLater v
    → MayLink d.types (links_of d.types v) 0 y row → IsLinked d v 0 y row a w
    → IsIndexOf d w × (address_of (key_of d.types row) (entries_for d w) ≡ None)

-- A volume in which a root was linked, and then entered into the index, holds the forest with it.
abbrev pub LinkedRootIsHeld : Type 0
LinkedRootIsHeld =
    (d : Database) (v w x : VolumeState) (f : Forest Placed) (y a more : ℕ) (row : Segment) → HoldsPlaced d v f
    → MayLink d.types (links_of d.types v) 0 y row → IsLinked d v 0 y row a w
    → IsEntered d w (with_entry (entry_of d.types (record { address = a; segment = row })) (entries_for d w)) more x
    → HoldsPlaced d x (with_leaf 0 y (record { address = a; segment = row }) f)

-- The same where the root's address is entered first.
abbrev pub EnteredRootIsHeld : Type 0
EnteredRootIsHeld =
    (d : Database) (v w x : VolumeState) (f : Forest Placed) (y a more : ℕ) (row : Segment) → HoldsPlaced d v f
    → MayLink d.types (links_of d.types v) 0 y row
    → IsEntered d v (with_entry (entry_of d.types (record { address = a; segment = row })) (entries_for d v)) more w
    → IsLinked d w 0 y row a x → HoldsPlaced d x (with_leaf 0 y (record { address = a; segment = row }) f)

-- A volume from which a span below a row was unlinked holds the forest without it.
abbrev pub UnlinkedBelowIsHeld : Type 0
UnlinkedBelowIsHeld =
    (d : Database) (v w : VolumeState) (f : Forest Placed) (path : List ℕ) → HoldsPlaced d v f → parent_on path ≢ 0
    → IsUnlinked d v path w → HoldsPlaced d w (without_span (parent_on path) (tip path) f)

-- A volume from which a root's span was unlinked, and whose index is then without the root's key, holds the forest without the span.
abbrev pub UnlinkedRootIsHeld : Type 0
UnlinkedRootIsHeld =
    (d : Database) (v w x : VolumeState) (f : Forest Placed) (path : List ℕ) (more : ℕ) → HoldsPlaced d v f → parent_on path ≡ 0
    → IsUnlinked d v path w
    → IsEntered d w (without_key (key_of d.types (segment_at (links_of d.types v) (tip path))) (entries_for d w)) more x
    → HoldsPlaced d x (without_span 0 (tip path) f)

-- The same where the key is removed first.
abbrev pub RemovedRootIsHeld : Type 0
RemovedRootIsHeld =
    (d : Database) (v w x : VolumeState) (f : Forest Placed) (path : List ℕ) (more : ℕ) → HoldsPlaced d v f → parent_on path ≡ 0
    → IsEntered d v (without_key (key_of d.types (segment_at (links_of d.types v) (tip path))) (entries_for d v)) more w
    → IsUnlinked d w path x → HoldsPlaced d x (without_span 0 (tip path) f)
