use Rattle.std.proofs.Common.{◌≡◌, ℕ, ◌/◌, ◌%◌, ◌+◌, ◌<◌, length, min, vec_len, IsTrue, refl, subst, sym, ap, ◌∙◌, arith}
use Rattle.std.specs.Vec.{vec_capacity}
use Rattle.hd_bytes.specs.Blocks.{block_of, HasBlock}
use Rattle.hd_volume.specs.Volumes.{VolumeState, block_at}
use Rattle.hd_volume.specs.Spaces.{room_for}
use Rattle.hd_volume.proofs.MapLemmas.{find-there, segment-read, IsBrought, is-read-seen}
use Rattle.hd_volume.proofs.volume.Volume.segment_at.Goals as goal
use Rattle.hd_block.specs.Sizes.{size_at}

pub reach-requires : goal.reach-requires
reach-requires g c = record {
  there =
      let P : VolumeState → Type 0 = λ v. IsTrue v.is_sound → (0 < c.args.address / v.size) × HasBlock v.size v.image (c.args.address / v.size) in
      subst P (sym c.self.view_is) (λ sound. let k = find-there c.args.self.now c.args.address 0 (c.requires.formatted sound) (c.requires.there sound) in (k.later, k.there));
}

pub returns : goal.returns
returns g c =
    let v : VolumeState = c.args.self.now in
    let a : ℕ = c.args.address in
    let bs : c.self.inside.blocks.size ≡ v.size = ap (λ (w : VolumeState). w.size) c.self.view_is in
    let brought : IsBrought c.self.inside.blocks c.reach.new.self =
    record {
      sound = c.in_ok-at.ensures.sound;
      failures = c.in_ok-at.ensures.counts;
      committed = c.reach.ensures.committed;
      size = c.reach.ensures.size;
      room = c.reach.ensures.room;
      image = c.in_ok-at.ensures.image;
      stands = c.in_ok-at.ensures.stands;
      first = c.in_ok-at.ensures.first;
    }
    in
    let len : ℕ = vec_len c.self.inside.space.contents in
    let cap : ℕ = vec_capacity c.self.inside.space.contents in
    let room : room_for c.self.inside.spacing c.reach.new.self.room len cap ≡ room_for c.self.inside.spacing c.self.inside.blocks.room len cap = ap (λ (r : ℕ). room_for c.self.inside.spacing r len cap) c.reach.ensures.room in (
      (refl, λ _. tt, is-read-seen v c.self.inside.blocks c.reach.new.self c.self.inside.sizes.items c.self.inside.spacing (room_for c.self.inside.spacing c.self.inside.blocks.room len cap) (room_for c.self.inside.spacing c.reach.new.self.room len cap) c.self.view_is brought room),
      record {
        value = λ sound.
            let before : IsTrue c.self.inside.blocks.is_sound = (let Q : VolumeState → Type 0 = λ w. IsTrue w.is_sound in subst Q (sym c.self.view_is) sound) in
            let now : IsTrue c.reach.new.self.is_sound = rw c.in_ok-at.ensures.sound before in
            let k = find-there v a 0 (c.requires.formatted sound) (c.requires.there sound) in
            let image : c.reach.new.self.image ≡ v.image = c.in_ok-at.ensures.image before ∙ ap (λ (w : VolumeState). w.image) c.self.view_is in
            let size : c.reach.new.self.size ≡ v.size = c.reach.ensures.size ∙ ap (λ (w : VolumeState). w.size) c.self.view_is in
            let number : c.reach.new.self.hand ≡ a / v.size = c.in_ok-at.ensures.hand ∙ ap (λ (n : ℕ). a / n) bs in
            let later = k.later in
            let some : 0 < c.reach.new.self.hand = omega arith in
            let block : block_of c.reach.new.self.size c.reach.new.self.image c.reach.new.self.hand ≡ block_at v (a / v.size) = rw (size, image, number) refl in
            let first : c.hand.result.now ≡ block_at v (a / v.size) = c.hand.ensures.value now some ∙ block in
            let second : c.hand-2.result.now ≡ block_at v (a / v.size) = c.hand-2.ensures.value now some ∙ block in
            let same : c.hand.result.now ≡ c.hand-2.result.now = first ∙ sym second in
            let sizes : c.deref.result.now ≡ v.sizes = c.deref.ensures.value ∙ ap (λ (w : VolumeState). w.sizes) c.self.view_is in
            let at : ℕ = c.in_ok-at.at in
            let end : c.segment_end-end.result ≡ min (at + size_at v.sizes c.hand-2.result.now at) (length c.hand-2.result.now) =
            c.segment_end-end.ensures ∙ (let e : min (at + size_at c.deref.result.now c.hand.result.now at) (length c.hand.result.now) ≡ min (at + size_at v.sizes c.hand-2.result.now at) (length c.hand-2.result.now) = rw (sizes, same) refl in e) in
            segment-read v a 0 at c.segment_end-end.result c.hand-2.result.now (c.requires.formatted sound) (c.requires.there sound) (c.in_ok-at.ensures.offset ∙ ap (λ (n : ℕ). a % n) bs) second end;
        after = tt;
        refusal = tt;
      },
    )
