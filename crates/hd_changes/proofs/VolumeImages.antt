-- The bytes of volumes as the images that a log of calls speaks of.
use Rattle.std.proofs.Common.{◌≡◌, ℕ, ◌+◌, ◌<◌, List, length, Bool, cond, refl, sym, ap, subst, ◌∙◌, arith, inl, inr}
use Rattle.hd_dbd.specs.Hierarchy.{Database}
use Rattle.hd_dbd.specs.Segment.{Segment}
use Rattle.hd_dbd.specs.Forest.{Forest}
use Rattle.hd_calls.specs.Runs.{stored_sizes, blocks_for, AddressesFollow}
use Rattle.hd_volume.specs.Volumes.{VolumeState}
use Rattle.hd_volume.specs.Rooms.{spare}
use Rattle.hd_index_blocks.specs.Needs.{entry_growth}
use Rattle.hd_volume.proofs.JoinLemmas.{AreOne, one-spare, one-holes, hole-after}
use Rattle.hd_links.specs.Placed.{Placed}
use Rattle.hd_links.specs.Steps.{rows_of, addresses}
use Rattle.hd_links.proofs.Types.{ordered}
use Rattle.hd_links.proofs.Unique.{unique}
use Rattle.hd_image.specs.Records.{links_of, IsVolumeOf}
use Rattle.hd_image.specs.Holding.{HoldsPlaced, volume_of}
use Rattle.hd_image.proofs.OneImage.{held-same}
use Rattle.hd_index.proofs.NeedLemmas.{growth-same}
use Rattle.hd_changes.specs.VolumeImages.{HoldsRowsAt, images_of, VolumesHoldTheirRows, VolumesHaveTheirRoom, LackingRoomIsTheRule, VolumesFollow}

-- the volume of a volume's bytes is the volume, but for what the store counts
of-bytes : (d : Database) (v : VolumeState) → IsVolumeOf d v → AreOne v (volume_of d v.image)
of-bytes d v V = record { same = record { size = sym V.size; sizes = sym V.sizes }; image = refl }

-- ---- rows

-- its bytes hold what it holds
pub bytes-hold : (d : Database) (v : VolumeState) (f : Forest Placed) → HoldsPlaced d v f → HoldsPlaced d (volume_of d v.image) f
bytes-hold d v f H = held-same d v (volume_of d v.image) refl (sym H.volume.size) (sym H.volume.sizes) f H

-- and no other forest
one-forest : (d : Database) (u : VolumeState) (f g : Forest Placed) → HoldsPlaced d u f → HoldsPlaced d u g → f ≡ g
one-forest d u f g F G = unique d.types (ordered d.block_size d.frspc d.types F.volume.fit) (links_of d.types u) f g F.records G.records

-- so the rows and addresses that its bytes hold are those of its forest
own-rows : (d : Database) (v : VolumeState) (f : Forest Placed) (rows : List Segment) (places : List ℕ) → HoldsPlaced d v f → HoldsRowsAt d v.image rows places
    → (rows ≡ rows_of f) × (places ≡ addresses f)
own-rows d v f rows places H R =
    let same : R.placed ≡ f = one-forest d (volume_of d v.image) R.placed f R.holds (bytes-hold d v f H) in
    (sym R.rows_are ∙ ap rows_of same, sym R.places_are ∙ ap addresses same)

pub hold-rows : VolumesHoldTheirRows
hold-rows d v f H = (
  record { placed = f; holds = bytes-hold d v f H; rows_are = refl; places_are = refl },
  λ rows places R. own-rows d v f rows places H R,
)

-- ---- room

pub have-room : VolumesHaveTheirRoom
have-room d v V =
    let o : AreOne v (volume_of d v.image) = of-bytes d v V in
    (one-spare o, growth-same v (volume_of d v.image) refl, (λ h. h, λ h. h), λ n. (hole-after o n, one-holes o n))

-- the blocks that rows may need are those that they may need in the volume
blocks-same : (d : Database) (v : VolumeState) (rows : List Segment) (root : Bool) → blocks_for (images_of d) v.image rows root ≡ length rows + cond root (entry_growth v) 0
blocks-same d v rows root = ap (λ (n : ℕ). length rows + cond root n 0) (growth-same v (volume_of d v.image) refl)

pub lacking-room : LackingRoomIsTheRule
lacking-room d v rows root V =
    let o : AreOne v (volume_of d v.image) = of-bytes d v V in
    let spares : spare (volume_of d v.image) ≡ spare v = one-spare o in
    let blocks : blocks_for (images_of d) v.image rows root ≡ length rows + cond root (entry_growth v) 0 = blocks-same d v rows root in (
      λ L. (
        elim L.blocks [
          | inl lacks ↦ inl (let few : spare (volume_of d v.image) < blocks_for (images_of d) v.image rows root = lacks in omega (arith, few, spares, blocks))
          | inr high ↦ inr high
        ],
        elim L.holes [ inl put ↦ inl put | inr none ↦ inr (λ hole. none (one-holes o (stored_sizes d.types rows) hole)) ],
      ),
      λ L. record {
        blocks = elim L.0 [
          | inl lacks ↦ inl (let few : spare v < length rows + cond root (entry_growth v) 0 = lacks in omega (arith, few, spares, blocks))
          | inr high ↦ inr high
        ];
        holes = elim L.1 [ inl put ↦ inl put | inr none ↦ inr (λ hole. none (hole-after o (stored_sizes d.types rows) hole)) ];
      },
    )

-- ---- one after the other

pub follow : VolumesFollow
follow d v w f g change H K largest room addresses-follow = record {
  largest = largest;
  room =
      (let before : spare (volume_of d v.image) ≡ spare v = one-spare (of-bytes d v H.volume) in
      let after : spare (volume_of d w.image) ≡ spare w = one-spare (of-bytes d w K.volume) in
      omega (arith, room, before, after));
  addresses = λ before after B A.
      let old = own-rows d v f (rows_of f) before H B in
      let new = own-rows d w g (rows_of g) after K A in
      subst (λ (xs : List ℕ). AddressesFollow (rows_of f) change xs after) (sym old.1) (subst (AddressesFollow (rows_of f) change (addresses f)) (sym new.1) addresses-follow);
}
