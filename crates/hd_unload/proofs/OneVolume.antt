-- Two states of one image: what is loaded in the one is loaded in the other.
use Rattle.std.proofs.Common.{◌≡◌, ℕ, ◌+◌, cond, ◌==◌, List, [], ◌∷◌, ap, subst, ◌∙◌, arith}
use Rattle.hd_dbd.specs.Hierarchy.{Database}
use Rattle.hd_dbd.specs.Segment.{Segment}
use Rattle.hd_dbd.specs.Rows.{key_of}
use Rattle.hd_volume.specs.Headers.{header_of}
use Rattle.hd_volume.specs.Volumes.{VolumeState}
use Rattle.hd_volume.specs.Spacing.{IsPlain}
use Rattle.hd_volume.specs.Rooms.{spare}
use Rattle.hd_volume.proofs.JoinLemmas.{AreOne, one-spare}
use Rattle.hd_links.specs.Links.{Links, IsSegment, segment_at}
use Rattle.hd_links.specs.Placed.{Placed}
use Rattle.hd_image.specs.Records.{links_of}
use Rattle.hd_image.proofs.OneImage.{links-same, held-same}
use Rattle.hd_index.proofs.NeedLemmas as need
use Rattle.hd_index.proofs.ChangeLemmas.{later-image}
use Rattle.hd_changes.proofs.Rooms.{one-volume}
use Rattle.hd_unload.specs.Loads.{blocks_for}
use Rattle.hd_unload.specs.Steps.{HasRootRoom, IsLoadedTo, IsRowLoaded}

-- the rows that it holds
pub loaded-same : (d : Database) (v w : VolumeState) (rows : List Segment) (path : List Placed) → AreOne v w → IsLoadedTo d rows path v → IsLoadedTo d rows path w
loaded-same d v w rows path o L = record {
  later = later-image v w o.image L.later;
  placed = L.placed;
  holds = held-same d v w o.image o.same.size o.same.sizes L.placed L.holds;
  rows_are = L.rows_are;
  last = L.last;
}

-- the room for a root
pub room-same : (d : Database) (v w : VolumeState) (row : Segment) → AreOne v w → (IsPlain v → IsPlain w) → HasRootRoom d v row → HasRootRoom d w row
room-same d v w row o plain room = (one-volume d v w (record { image = o.image; size = o.same.size; sizes = o.same.sizes; plain = plain })).2 (key_of d.types row) (row ∷ []) room

-- behind a call that leaves the image
pub call-one : {v w : VolumeState} → w.size ≡ v.size → w.sizes ≡ v.sizes → w.image ≡ v.image → AreOne v w
call-one size sizes image = record { same = record { size = size; sizes = sizes }; image = image }

-- the blocks that a row may need
growth-same : (v w : VolumeState) (row : Segment) → w.image ≡ v.image → blocks_for w row ≡ blocks_for v row
growth-same v w row image = ap (λ (n : ℕ). 1 + cond (row.code == 1) n 0) (need.growth-same v w image)

-- a row that is loaded from there
pub row-same : (d : Database) (v w x : VolumeState) (rows : List Segment) (row : Segment) (path : List Placed) → AreOne v w → IsRowLoaded d w rows row path x → IsRowLoaded d v rows row path x
row-same d v w x rows row path o R =
    let links : links_of d.types w ≡ links_of d.types v = links-same d.types v w o.image o.same.size o.same.sizes in
    record {
      loaded = R.loaded;
      step = record {
        version = R.step.version ∙ ap (λ (i : List ℕ). (header_of i).version) o.image;
        largest = R.step.largest ∙ ap (λ (i : List ℕ). (header_of i).largest) o.image;
        stays = subst (λ (m : Links). (a : ℕ) → IsSegment m a → IsSegment (links_of d.types x) a × (segment_at (links_of d.types x) a ≡ segment_at m a)) links R.step.stays;
        room = (let spares : spare w ≡ spare v = one-spare o in let need : blocks_for w row ≡ blocks_for v row = growth-same v w row o.image in let room = R.step.room in omega (arith, spares, need, room));
      };
    }
