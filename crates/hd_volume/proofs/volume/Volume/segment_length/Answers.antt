use Rattle.std.proofs.Common.{◌≡◌, ℕ, ◌/◌, ◌%◌, ◌<◌, length, vec_len, IsTrue, Some, refl, subst, sym, ap, ◌∙◌, arith}
use Rattle.std.specs.Vec.{vec_capacity}
use Rattle.hd_bytes.specs.Blocks.{block_of, HasBlock}
use Rattle.hd_volume.specs.Volumes.{VolumeState, block_at, IsFormatted}
use Rattle.hd_volume.specs.Calls.{HasSegment}
use Rattle.hd_volume.specs.Steps.{IsLengthAt}
use Rattle.hd_volume.specs.Spaces.{volume_of, room_for}
use Rattle.hd_volume.proofs.MapLemmas.{find-there}
use Rattle.hd_volume.proofs.CallLemmas.{segment-size}
use Rattle.hd_volume.proofs.MapLemmas.{IsBrought, is-read-seen}
use Rattle.hd_volume.proofs.volume.Volume.segment_length.Goals as goal
use Rattle.hd_block.specs.Sizes.{size_at}

pub fetch-requires : goal.fetch-requires
fetch-requires g c = record {
  there =
      let P : VolumeState → Type 0 = λ v. IsTrue v.is_sound → (0 < c.args.address / v.size) × HasBlock v.size v.image (c.args.address / v.size) in
      let there = subst P (sym c.self.view_is) (λ sound. let k = find-there c.args.self.now c.args.address _ (c.requires.formatted sound) (c.requires.there sound) in (k.later, k.there)) in
      rw c.place-n.ensures.number there;
}

pub returns-clause-length : goal.returns-clause-length
returns-clause-length g c =
    let room : ℕ = room_for c.self.inside.spacing c.self.inside.blocks.room (vec_len c.self.inside.space.contents) (vec_capacity c.self.inside.space.contents) in
    let v : VolumeState = volume_of c.self.inside.blocks c.self.inside.sizes.items c.self.inside.spacing room in
    let a : ℕ = c.args.address in
    let F : VolumeState → Type 0 = λ u. IsTrue u.is_sound → IsFormatted u in
    let T : VolumeState → Type 0 = λ u. IsTrue u.is_sound → HasSegment u a 0 in
    let P : VolumeState → Type 0 = λ u. IsTrue u.is_sound → IsLengthAt u a c.size_at.result in
    subst P c.self.view_is
    (λ before s e.
    let f : IsFormatted v = subst F (sym c.self.view_is) c.requires.formatted before in
    let h : HasSegment v a 0 = subst T (sym c.self.view_is) c.requires.there before in
    let now : IsTrue c.fetch.new.self.is_sound = rw c.in_ok-fetch.ensures.sound before in
    let there = find-there v a 0 f h in
    let later = there.later in
    let hand : c.fetch.new.self.hand ≡ a / v.size = c.in_ok-fetch.ensures.hand ∙ c.place-n.ensures.number in
    let some : 0 < c.fetch.new.self.hand = omega arith in
    let image : c.fetch.new.self.image ≡ v.image = c.in_ok-fetch.ensures.image before in
    let at : c.place-n.result.1 ≡ a % v.size = c.place-n.ensures.offset in
    let block : c.hand.result.now ≡ block_at v (a / v.size) = c.hand.ensures.value now some ∙ (let e : block_of c.fetch.new.self.size c.fetch.new.self.image c.fetch.new.self.hand ≡ block_at v (a / v.size) = rw (c.fetch.ensures.size, image, hand) refl in e) in
    let sized = segment-size v a 0 f h in
    let code : size_at c.deref.result.now c.hand.result.now c.place-n.result.1 ≡ size_at v.sizes (block_at v (a / v.size)) (a % v.size) = rw (c.deref.ensures.value, block, at) refl in
    let one : h.bytes ≡ s = (let z : Some h.bytes ≡ Some s = sym h.is ∙ e in cc) in
    c.size_at.ensures ∙ code ∙ sized.0 ∙ ap length one)

pub returns-clause-read : goal.returns-clause-read
returns-clause-read g c =
    let brought : IsBrought c.self.inside.blocks c.fetch.new.self =
    record {
      sound = c.in_ok-fetch.ensures.sound;
      failures = c.in_ok-fetch.ensures.counts;
      committed = c.fetch.ensures.committed;
      size = c.fetch.ensures.size;
      room = c.fetch.ensures.room;
      image = c.in_ok-fetch.ensures.image;
      stands = c.in_ok-fetch.ensures.stands;
      first = c.in_ok-fetch.ensures.first;
    }
    in
    let len : ℕ = vec_len c.self.inside.space.contents in
    let cap : ℕ = vec_capacity c.self.inside.space.contents in
    let same : room_for c.self.inside.spacing c.fetch.new.self.room len cap ≡ room_for c.self.inside.spacing c.self.inside.blocks.room len cap = ap (λ (r : ℕ). room_for c.self.inside.spacing r len cap) c.fetch.ensures.room in
    is-read-seen c.args.self.now c.self.inside.blocks c.fetch.new.self c.self.inside.sizes.items c.self.inside.spacing (room_for c.self.inside.spacing c.self.inside.blocks.room len cap) (room_for c.self.inside.spacing c.fetch.new.self.room len cap) c.self.view_is brought same
