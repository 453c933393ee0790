-- A row that is unlinked with its span, as a deletion.
use Rattle.std.proofs.Common.{◌≡◌, ◌≢◌, ℕ, ◌<◌, ◌≤◌, List, length, Ok, Err, ap, sym, ◌∙◌, subst}
use Rattle.std.specs.Prelude.{OnOk, Result}
use Rattle.hd_dbd.specs.declared.answer.Refused.{Refused}
use Rattle.hd_dbd.specs.Hierarchy.{Database}
use Rattle.hd_dbd.specs.Rows.{key_of}
use Rattle.hd_dbd.specs.Paths.{end_of}
use Rattle.hd_dbd.specs.Forest.{Forest}
use Rattle.hd_calls.specs.Moves.{deleted}
use Rattle.hd_calls.specs.Runs.{Follows}
use Rattle.hd_volume.specs.Headers.{Header, header_of}
use Rattle.hd_volume.specs.Volumes.{VolumeState}
use Rattle.hd_volume.specs.Calls.{IsRead}
use Rattle.hd_volume.specs.Rooms.{spare}
use Rattle.hd_links.specs.Links.{Links, IsSegment, segment_at}
use Rattle.hd_links.specs.Placed.{Placed}
use Rattle.hd_links.specs.Changes.{without_span}
use Rattle.hd_links.specs.Steps.{rows_of, address_at, LeadsDown}
use Rattle.hd_links.proofs.Numbers.{rows_addressed}
use Rattle.hd_image.specs.Records.{links_of}
use Rattle.hd_forest.specs.Walks.{tip, parent_on}
use Rattle.hd_forest.specs.Rows.{IsOnRow}
use Rattle.hd_forest.specs.Updates.{IsUnlinked}
use Rattle.hd_forest.proofs.Reading.{after-read}
use Rattle.hd_forest.proofs.Walking.{steps-found}
use Rattle.hd_index.specs.Maps.{without_key}
use Rattle.hd_index.specs.Changes.{IsIndexOf, entries_for}
use Rattle.hd_index.proofs.ChangeLemmas.{set-index, later-same}
use Rattle.hd_changes.specs.Entered.{IsEntered}
use Rattle.hd_changes.specs.Deletions.{IsDeleted}
use Rattle.hd_changes.specs.VolumeImages.{images_of}
use Rattle.hd_changes.proofs.Deletions.{spans-deleted, roots-deleted}
use Rattle.hd_changes.proofs.Volumes.{forest-changes, entered}
use Rattle.hd_image.specs.Holding.{root_entries}
use Rattle.hd_position.proofs.VolumeMoves.{held, unlinked_move}
use Rattle.hd_position.proofs.Siblings.{down_there, some_there}
use Rattle.hd_update.specs.Deleting.{IsPlacedOn, IsTakenOut}
use Rattle.hd_update.proofs.Reading.{held_read, later_read}

-- what holds once a call is done, by what it promises
pub on_ok : {A : Type 0} {P Q : Type 0} (r : Result A Refused) → OnOk r P → (P → Q) → OnOk r Q
on_ok (Ok x) p f = f p
on_ok (Err e) p f = tt

pub on_ok4 : {A : Type 0} {P Q S T U : Type 0} (r : Result A Refused) → OnOk r P → OnOk r Q → OnOk r S → OnOk r T → (P → Q → S → T → U) → OnOk r U
on_ok4 (Ok x) p q s t f = f p q s t
on_ok4 (Err e) p q s t f = tt

-- after calls that only read the path is still that of the row
pub placed_read : {A : Type 0} {x : A} (d : Database) (u v : VolumeState) → IsRead {T = A} u (Ok x) v → (f : Forest Placed) (path : List ℕ) (i : ℕ) → IsPlacedOn d u f path i → IsPlacedOn d v f path i
placed_read d u v read f path i at =
    let same = after-read d u v read at.sound in
    record {
      sound = same.sound;
      later = later_read d u v read at.sound at.later;
      holds = held_read d u v read at.sound f at.holds;
      row = subst (λ (m : Links). IsOnRow d.types m f path i) (sym same.links) at.row;
    }

-- and what was taken out then was so before
pub taken_before : (d : Database) (v mid : VolumeState) (f : Forest Placed) (path : List ℕ) (i : ℕ) (w : VolumeState) → mid.image ≡ v.image → IsTakenOut d mid f path i w → IsTakenOut d v f path i w
taken_before d v mid f path i w image T = record {
  deleted = record {
    holds = T.deleted.holds;
    rows = T.deleted.rows;
    version = T.deleted.version ∙ ap (λ (x : List ℕ). (header_of x).version) image;
    follows = subst (λ (x : List ℕ). Follows (images_of d) (rows_of f) x (deleted i (end_of d.types (rows_of f) i)) (rows_of (without_span (parent_on path) (tip path) f)) w.image) image T.deleted.follows;
  };
  moves = T.moves;
}

module _ (d : Database) (v : VolumeState) (f : Forest Placed) (path : List ℕ) (i : ℕ) (at : IsPlacedOn d v f path i) where
  abbrev m : Links
  m = links_of d.types v

  pub may_unlink : (0 < length path) × LeadsDown d.types m 0 path
  may_unlink =
      let D = held d v f at.holds.volume at.holds.records in (
        some_there d.block_size d.frspc d.types (length v.image) m f D path i at.row,
        down_there d.block_size d.frspc d.types (length v.image) m f D path i at.row,
      )

  pub address_is : address_at f i ≡ tip path
  address_is = sym (ap tip at.row.is ∙ (steps-found d v f at.holds.volume.fit at.holds.volume at.holds.records i at.row.within).tip)

  pub tip_stored : IsSegment m (tip path)
  tip_stored = subst (IsSegment m) address_is ((rows_addressed d.types m f at.holds.records).there i at.row.within)

  pub taken_below : (w : VolumeState) → parent_on path ≢ 0 → IsUnlinked d v path w → IsTakenOut d v f path i w
  taken_below w some I = record {
    deleted = spans-deleted d v w f path i at.holds some at.row.within address_is I;
    moves = unlinked_move d v w path f i at.holds.volume I at.row;
  }

  -- the index is there, once a root is unlinked
  pub index_there : (w : VolumeState) → IsUnlinked d v path w → IsIndexOf d w
  index_there w I =
      let W = (forest-changes d v w f (root_entries d.types f) (entered d v f at.holds)).1 path I in
      set-index d w I.volume.size W.index (later-same v w (ap (λ (z : Header). z.version) I.rest.header) at.later)

  pub taken_root : (w x : VolumeState) → parent_on path ≡ 0 → IsUnlinked d v path w
      → IsEntered d w (without_key (key_of d.types (segment_at m (tip path))) (entries_for d w)) 0 x → spare w ≤ spare x → IsTakenOut d v f path i x
  taken_root w x top I E room = record {
    deleted = subst (λ (h : ℕ). IsDeleted d v f i x (without_span h (tip path) f)) (sym top) (roots-deleted d v w x f path i at.holds top at.row.within address_is I E room);
    moves = unlinked_move d v w path f i at.holds.volume I at.row;
  }
