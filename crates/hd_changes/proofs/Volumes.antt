-- What a volume holds after a change.
use Rattle.std.proofs.Common.{false, ◌≡◌, ℕ, List, ◌==◌, cond, None, refl, sym, ap, subst, ◌∙◌, inr}
use Rattle.hd_dbd.specs.Types.{SegmentType}
use Rattle.hd_dbd.specs.Hierarchy.{Database}
use Rattle.hd_dbd.specs.Segment.{Segment}
use Rattle.hd_dbd.specs.Rows.{key_of}
use Rattle.hd_dbd.specs.Forest.{Forest}
use Rattle.hd_volume.specs.Headers.{Header}
use Rattle.hd_volume.specs.Volumes.{VolumeState}
use Rattle.hd_volume.specs.Entries.{Entry}
use Rattle.hd_volume.specs.Indexes.{root_key_length}
use Rattle.hd_index_blocks.proofs.StayingSets.{indexes-stay}
use Rattle.hd_links.specs.Links.{Links, IsLinkGraph, IsSegment, is_child_type, segment_at}
use Rattle.hd_links.specs.Placed.{Placed, nowhere, Holds}
use Rattle.hd_links.specs.Changes.{Agree, put_first, put_behind, take_out, with_leaf, without_span, CanUnlink}
use Rattle.hd_links.proofs.Touch.{frame}
use Rattle.hd_image.specs.Records.{links_of, IsVolumeOf}
use Rattle.hd_image.specs.BlockFaults.{IsKnownVersion}
use Rattle.hd_image.specs.Holding.{root_entries, HoldsPlaced}
use Rattle.hd_image.proofs.Found.{records-link}
use Rattle.hd_image.proofs.SameRecords.{records-stay}
use Rattle.hd_forest.specs.Walks.{tip, parent_on}
use Rattle.hd_forest.specs.Updates.{MayLink, KeepsTheRest}
use Rattle.hd_index.specs.Maps.{address_of, with_entry, without_key}
use Rattle.hd_index.specs.Changes.{entries_for, IsIndexChange}
use Rattle.hd_index.proofs.ChangeLemmas.{set-index, later-same}
use Rattle.hd_changes.specs.Entered.{entry_of, HoldsWith}
use Rattle.hd_changes.specs.Laws.{ChangesBelowKeepEntries, ReplacingKeepsEntries, HeldIsEntered, ForestChangesKeepEntries, IndexChangesKeepTheForest, LinkedBelowIsHeld, LinkedRootIsNew, LinkedRootIsHeld, EnteredRootIsHeld, UnlinkedBelowIsHeld, UnlinkedRootIsHeld, RemovedRootIsHeld}
use Rattle.hd_changes.proofs.Entries.{children-keep, bytes-keep}
use Rattle.hd_changes.proofs.RootEntries.{linking-enters, unlinking-removes, gone-there}

-- ---- the roots' entries

pub below-keep : ChangesBelowKeepEntries
below-keep types f h some = (λ y p. children-keep types f h (cond (y == 0) (put_first p) (put_behind y p)) some, λ a. children-keep types f h (take_out a) some)

pub replacing-keeps : ReplacingKeepsEntries
replacing-keeps types m f a bytes H C = bytes-keep types m nowhere f a bytes H.lies.nodes C

-- ---- the forest and the entries

pub entered : (d : Database) (v : VolumeState) (f : Forest Placed) → HoldsPlaced d v f → HoldsWith d v f (root_entries d.types f)
entered d v f H = record { volume = H.volume; version = H.version; name = H.name; block_size = H.block_size; records = H.records; index = H.index; entries = H.entries; kinds = H.kinds }

-- with the entries of the forest's roots it is held
pub held : (d : Database) (v : VolumeState) (f : Forest Placed) (es : List Entry) → HoldsWith d v f es → es ≡ root_entries d.types f → HoldsPlaced d v f
held d v f es H is = record { volume = H.volume; version = H.version; name = H.name; block_size = H.block_size; records = H.records; index = H.index; entries = H.entries ∙ is; kinds = H.kinds }

pub held-entered : HeldIsEntered
held-entered d v f = (entered d v f, λ H. held d v f (root_entries d.types f) H refl)

-- where the rest stays, entries stay
pub rest-stays : (d : Database) (v w : VolumeState) (f g : Forest Placed) (es : List Entry) → HoldsWith d v f es → IsVolumeOf d w → KeepsTheRest v w → Holds d.types (links_of d.types w) g
    → HoldsWith d w g es
rest-stays d v w f g es H V R records =
    let kept = indexes-stay (root_key_length d.types) v w H.index V.formatted (V.size ∙ sym H.volume.size) R.header R.index R.others in
    record {
      volume = V;
      version = subst (IsKnownVersion d.types) (sym (ap (λ (x : Header). x.version) R.header)) H.version;
      name = ap (λ (x : Header). x.name) R.header ∙ H.name;
      block_size = ap (λ (x : Header). x.block_size) R.header ∙ H.block_size;
      records = records;
      index = kept.0;
      entries = kept.1 ∙ H.entries;
      kinds = R.kinds H.kinds;
    }

pub forest-changes : ForestChangesKeepEntries
forest-changes d v w f es H = (
  λ h y a row I. rest-stays d v w f (with_leaf h y (record { address = a; segment = row }) f) es H I.volume I.rest (I.forest f H.records),
  λ path I. rest-stays d v w f (without_span (parent_on path) (tip path) f) es H I.volume I.rest (I.forest f H.records),
)

-- records that agree hold the same forest
pub held-agree : (types : List SegmentType) (bound : ℕ) (m m2 : Links) (f : Forest Placed) → IsLinkGraph types bound m → Agree types m m2 → Holds types m f → Holds types m2 f
held-agree types bound m m2 f G A H = record {
  lies = record {
    roots = record {
      first = λ t q. (A 0).first_child t G.header (ap (λ x. is_child_type types x t) G.header_code ∙ q) ∙ H.lies.roots.first t q;
      last = λ t q kept. (A 0).last_child t G.header (ap (λ x. is_child_type types x t) G.header_code ∙ q) kept ∙ H.lies.roots.last t q kept;
    };
    nodes = frame types m m2 nowhere f H.lies.nodes (λ a p. A a);
  };
  fits = H.fits;
  once = λ a s. H.once a (record { some = s.some; here = sym (A a).here ∙ s.here });
}

-- a change of the index leaves the records
pub agree-index : (d : Database) (v w : VolumeState) (more : ℕ) → IsIndexChange v more w → Agree d.types (links_of d.types v) (links_of d.types w)
agree-index d v w more C = records-stay d.types v w C.segments (ap (λ (z : Header). z.first_root) C.header) (ap (λ (z : Header). z.last_root) C.header)

pub index-changes : IndexChangesKeepTheForest
index-changes d v w f before after more H E = record {
  volume = record { fit = H.volume.fit; formatted = E.index.index.formatted; size = E.index.size; sizes = E.sizes ∙ H.volume.sizes };
  version = subst (IsKnownVersion d.types) (sym (ap (λ (z : Header). z.version) E.change.header)) H.version;
  name = ap (λ (z : Header). z.name) E.change.header ∙ H.name;
  block_size = ap (λ (z : Header). z.block_size) E.change.header ∙ H.block_size;
  records = held-agree d.types _ (links_of d.types v) (links_of d.types w) f (records-link d v H.volume.fit H.volume) (agree-index d v w more E.change) H.records;
  index = inr E.index.index;
  entries = E.entries;
  kinds = E.change.kinds H.kinds;
}

-- ---- a change that is done

pub linked-below : LinkedBelowIsHeld
linked-below d v w f h y a row H some I =
    let p : Placed = record { address = a; segment = row } in
    held d w (with_leaf h y p f) (root_entries d.types f) ((forest-changes d v w f (root_entries d.types f) (entered d v f H)).0 h y a row I)
    (sym ((below-keep d.types f h some).0 y p))

-- the entries with a root that may be linked
module _ (d : Database) (v : VolumeState) (f : Forest Placed) (y a : ℕ) (row : Segment) (H : HoldsPlaced d v f) (may : MayLink d.types (links_of d.types v) 0 y row)
    (free : (links_of d.types v).here a ≡ false) where
  abbrev root : Placed
  root = record { address = a; segment = row }

  entry-goes-in : (address_of (key_of d.types row) (root_entries d.types f) ≡ None)
      × (root_entries d.types (with_leaf 0 y root f) ≡ with_entry (entry_of d.types root) (root_entries d.types f))
  entry-goes-in = linking-enters d.block_size d.frspc d.types _ (links_of d.types v) f y root H.volume.fit (records-link d v H.volume.fit H.volume) H.records (may a free)

pub linked-new : LinkedRootIsNew
linked-new d v w f y a row H later may I =
    let W : HoldsWith d w (with_leaf 0 y (record { address = a; segment = row }) f) (root_entries d.types f)
    = (forest-changes d v w f (root_entries d.types f) (entered d v f H)).0 0 y a row I in
    (set-index d w I.volume.size W.index (later-same v w (ap (λ (z : Header). z.version) I.rest.header) later), ap (address_of (key_of d.types row)) W.entries ∙ (entry-goes-in d v f y a row H may I.free).0)

pub linked-root : LinkedRootIsHeld
linked-root d v w x f y a more row H may I E =
    let p : Placed = record { address = a; segment = row } in
    let W : HoldsWith d w (with_leaf 0 y p f) (root_entries d.types f) = (forest-changes d v w f (root_entries d.types f) (entered d v f H)).0 0 y a row I in
    held d x (with_leaf 0 y p f) _ (index-changes d w x (with_leaf 0 y p f) (root_entries d.types f) _ more W E)
    (ap (with_entry (entry_of d.types p)) W.entries ∙ sym (entry-goes-in d v f y a row H may I.free).1)

pub entered-root : EnteredRootIsHeld
entered-root d v w x f y a more row H may E I =
    let p : Placed = record { address = a; segment = row } in
    let es : List Entry = with_entry (entry_of d.types p) (entries_for d v) in
    let W : HoldsWith d w f es = index-changes d v w f (root_entries d.types f) es more (entered d v f H) E in
    let free : (links_of d.types v).here a ≡ false = sym (agree-index d v w more E.change a).here ∙ I.free in
    held d x (with_leaf 0 y p f) es ((forest-changes d w x f es W).0 0 y a row I)
    (ap (with_entry (entry_of d.types p)) H.entries ∙ sym (entry-goes-in d v f y a row H may free).1)

pub unlinked-below : UnlinkedBelowIsHeld
unlinked-below d v w f path H some I =
    held d w (without_span (parent_on path) (tip path) f) (root_entries d.types f) ((forest-changes d v w f (root_entries d.types f) (entered d v f H)).1 path I)
    (sym ((below-keep d.types f (parent_on path) some).1 (tip path)))

-- the roots' entries without that of a root which was unlinked
entries-gone : (d : Database) (v : VolumeState) (f : Forest Placed) (h y a : ℕ) → IsVolumeOf d v → Holds d.types (links_of d.types v) f → CanUnlink d.types (links_of d.types v) h y a → h ≡ 0
    → root_entries d.types (without_span 0 a f) ≡ without_key (key_of d.types (segment_at (links_of d.types v) a)) (root_entries d.types f)
entries-gone d v f h y a V H C top =
    unlinking-removes d.block_size d.frspc d.types _ (links_of d.types v) f y a V.fit (records-link d v V.fit V) H (subst (λ (x : ℕ). CanUnlink d.types (links_of d.types v) x y a) top C)

pub unlinked-root : UnlinkedRootIsHeld
unlinked-root d v w x f path more H top I E =
    let es : List Entry = root_entries d.types f in
    let W : HoldsWith d w (without_span 0 (tip path) f) es
    = subst (λ (h : ℕ). HoldsWith d w (without_span h (tip path) f) es) top ((forest-changes d v w f es (entered d v f H)).1 path I) in
    let R = I.records f H.records in
    held d x (without_span 0 (tip path) f) _ (index-changes d w x (without_span 0 (tip path) f) es _ more W E)
    (ap (without_key (key_of d.types (segment_at (links_of d.types v) (tip path)))) W.entries
    ∙ sym (entries-gone d v f (parent_on path) R.0 (tip path) H.volume H.records R.1 top))

pub removed-root : RemovedRootIsHeld
removed-root d v w x f path more H top E I =
    let m : Links = links_of d.types v in
    let n : Links = links_of d.types w in
    let a : ℕ = tip path in
    let es : List Entry = without_key (key_of d.types (segment_at m a)) (entries_for d v) in
    let W : HoldsWith d w f es = index-changes d v w f (root_entries d.types f) es more (entered d v f H) E in
    let X : HoldsWith d x (without_span 0 a f) es = subst (λ (h : ℕ). HoldsWith d x (without_span h a f) es) top ((forest-changes d w x f es W).1 path I) in
    let R = I.records f W.records in
    let A = agree-index d v w more E.change a in
    let still : IsSegment n a = gone-there d.block_size d.frspc d.types _ n f W.volume.fit (records-link d w W.volume.fit W.volume) W.records R.0 a
    (subst (λ (h : ℕ). CanUnlink d.types n h R.0 a) top R.1) in
    let there : IsSegment m a = record { some = still.some; here = sym A.here ∙ still.here } in
    let same : segment_at n a ≡ segment_at m a = (λ i. record { code = A.code there.here i; bytes = A.bytes there i }) in
    held d x (without_span 0 a f) es X
    (ap (without_key (key_of d.types (segment_at m a))) H.entries
    ∙ ap (λ (s : Segment). without_key (key_of d.types s) (root_entries d.types f)) (sym same)
    ∙ sym (entries-gone d w f (parent_on path) R.0 a W.volume W.records R.1 top))
