-- Rows that one call deletes, as a log of calls has them.
use Rattle.std.proofs.Common.{◌≡◌, ℕ, ◌<◌, List, length, ap, subst, ◌∙◌, arith}
use Rattle.hd_dbd.specs.Hierarchy.{Database}
use Rattle.hd_dbd.specs.Paths.{end_of}
use Rattle.hd_dbd.specs.Forest.{Forest}
use Rattle.hd_dbd.proofs.LevelLaw.{leveled}
use Rattle.hd_calls.specs.Moves.{deleted, taken_out}
use Rattle.hd_volume.specs.Headers.{Header}
use Rattle.hd_volume.specs.Volumes.{VolumeState}
use Rattle.hd_volume.specs.Rooms.{spare}
use Rattle.hd_links.specs.Placed.{Placed}
use Rattle.hd_links.specs.Changes.{without_span}
use Rattle.hd_links.specs.Steps.{rows_of, addresses, address_at}
use Rattle.hd_links.specs.Numbers.{RowsLeave}
use Rattle.hd_links.proofs.Types.{ordered}
use Rattle.hd_links.proofs.RowChanges.{span_out}
use Rattle.hd_image.specs.Records.{links_of}
use Rattle.hd_image.specs.Holding.{HoldsPlaced}
use Rattle.hd_image.proofs.Found.{records-link}
use Rattle.hd_forest.specs.Walks.{tip, parent_on}
use Rattle.hd_forest.specs.Updates.{IsUnlinked}
use Rattle.hd_changes.specs.Deletions.{UnlinkedSpansAreDeleted, UnlinkedRootsAreDeleted}
use Rattle.hd_changes.proofs.Volumes.{unlinked-below, unlinked-root}
use Rattle.hd_changes.proofs.VolumeImages.{follow}

-- the rows and the addresses without the span
leave : (d : Database) (v w : VolumeState) (f : Forest Placed) (path : List ℕ) (i : ℕ) → HoldsPlaced d v f → i < length (rows_of f) → address_at f i ≡ tip path → IsUnlinked d v path w
    → (rows_of (without_span (parent_on path) (tip path) f) ≡ taken_out i (end_of d.types (rows_of f) i) (rows_of f))
    × (addresses (without_span (parent_on path) (tip path) f) ≡ taken_out i (end_of d.types (rows_of f) i) (addresses f))
leave d v w f path i H within at I =
    let R = I.records f H.records in
    let L : RowsLeave (links_of d.types v) f (parent_on path) R.0 (tip path) i (end_of d.types (rows_of f) i)
    = span_out d.types (ordered d.block_size d.frspc d.types H.volume.fit) (leveled d.block_size d.frspc d.types H.volume.fit) (length v.image) (links_of d.types v)
    (records-link d v H.volume.fit H.volume) f H.records (parent_on path) R.0 (tip path) i R.1 within at in
    (L.rows, L.places)

pub spans-deleted : UnlinkedSpansAreDeleted
spans-deleted d v w f path i H some within at I =
    let g : Forest Placed = without_span (parent_on path) (tip path) f in
    let L = leave d v w f path i H within at I in
    let K : HoldsPlaced d w g = unlinked-below d v w f path H some I in
    record {
      holds = K;
      rows = L.0;
      version = ap (λ (z : Header). z.version) I.rest.header;
      follows =
          follow d v w f g (deleted i (end_of d.types (rows_of f) i)) H K (ap (λ (z : Header). z.largest) I.rest.header)
          (let same : spare w ≡ spare v = I.spares in omega arith) L.1;
    }

pub roots-deleted : UnlinkedRootsAreDeleted
roots-deleted d v w x f path i H top within at I E room =
    let g : Forest Placed = without_span 0 (tip path) f in
    let e : ℕ = end_of d.types (rows_of f) i in
    let L = subst (λ (h : ℕ). (rows_of (without_span h (tip path) f) ≡ taken_out i e (rows_of f)) × (addresses (without_span h (tip path) f) ≡ taken_out i e (addresses f))) top
    (leave d v w f path i H within at I) in
    let K : HoldsPlaced d x g = unlinked-root d v w x f path 0 H top I E in
    record {
      holds = K;
      rows = L.0;
      version = ap (λ (z : Header). z.version) E.change.header ∙ ap (λ (z : Header). z.version) I.rest.header;
      follows =
          follow d v x f g (deleted i e) H K (ap (λ (z : Header). z.largest) E.change.header ∙ ap (λ (z : Header). z.largest) I.rest.header)
          (let same : spare w ≡ spare v = I.spares in omega arith) L.1;
    }
