-- Two states with one image have one link graph, are volumes of the same databases, and hold the same forests.
use Rattle.std.proofs.Common.{◌≡◌, List, inl, inr, refl, sym, subst, ◌∙◌}
use Rattle.hd_dbd.specs.Types.{SegmentType}
use Rattle.hd_dbd.specs.Hierarchy.{Database}
use Rattle.hd_dbd.specs.Forest.{Forest}
use Rattle.hd_volume.specs.Volumes.{VolumeState}
use Rattle.hd_volume.specs.Indexes.{root_key_length}
use Rattle.hd_volume.proofs.JoinLemmas.{one-formatted}
use Rattle.hd_index_blocks.proofs.StayingSets.{indexes-stay}
use Rattle.hd_links.specs.Placed.{Placed}
use Rattle.hd_image.specs.Records.{links_of, IsVolumeOf}
use Rattle.hd_image.specs.Holding.{HoldsPlaced}

-- the records of one image are one
pub links-same : (types : List SegmentType) (u v : VolumeState) → v.image ≡ u.image → v.size ≡ u.size → v.sizes ≡ u.sizes → links_of types v ≡ links_of types u
links-same types u v image size sizes = λ i. links_of types (record v { image = image i; size = size i; sizes = sizes i })

-- one image is that of one database
pub volume-same : (d : Database) (u v : VolumeState) → v.image ≡ u.image → v.size ≡ u.size → v.sizes ≡ u.sizes → IsVolumeOf d u → IsVolumeOf d v
volume-same d u v image size sizes of = record {
  fit = of.fit;
  formatted = one-formatted (record { same = record { size = size; sizes = sizes }; image = image }) of.formatted;
  size = size ∙ of.size;
  sizes = sizes ∙ of.sizes;
}

-- one image holds one forest
pub held-same : (d : Database) (u v : VolumeState) → v.image ≡ u.image → v.size ≡ u.size → v.sizes ≡ u.sizes → (f : Forest Placed) → HoldsPlaced d u f → HoldsPlaced d v f
held-same d u v image size sizes f h =
    let like : VolumeState = record v { image = u.image; size = u.size; sizes = u.sizes } in
    let of : IsVolumeOf d like = volume-same d u like refl refl refl h.volume in
    let stays = indexes-stay (root_key_length d.types) u like h.index of.formatted refl refl (λ n k. refl) (λ n k. record { there = k.there; later = k.later; kind_is = k.kind_is }) in
    subst (λ (w : VolumeState). HoldsPlaced d w f) (λ i. record v { image = sym image i; size = sym size i; sizes = sym sizes i }) (record {
      volume = of;
      version = h.version;
      name = h.name;
      block_size = h.block_size;
      records = h.records;
      index = stays.0;
      entries = stays.1 ∙ h.entries;
      kinds = λ n there later. elim (h.kinds n there later) [
        | inl k ↦ inl (record { there = k.there; later = k.later; kind_is = k.kind_is })
        | inr (inl k) ↦ inr (inl (record { there = k.there; later = k.later; kind_is = k.kind_is }))
        | inr (inr k) ↦ inr (inr (record { there = k.there; later = k.later; kind_is = k.kind_is }))
      ];
    })
