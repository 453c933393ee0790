use Rattle.std.proofs.Common.{◌≡◌, ℕ, ◌<◌, vec_len, IsTrue, refl, subst, sym, ap, ◌∙◌, arith}
use Rattle.std.specs.Vec.{vec_capacity}
use Rattle.hd_bytes.specs.Blocks.{block_of}
use Rattle.hd_volume.specs.Volumes.{VolumeState, block_at}
use Rattle.hd_volume.specs.Spaces.{room_for}
use Rattle.hd_volume.proofs.MapLemmas.{IsBrought, is-read-seen}
use Rattle.hd_volume.proofs.volume.Volume.block.Goals as goal

pub returns : goal.returns
returns g c =
    let v : VolumeState = c.args.self.now in
    let n : ℕ = c.args.n in
    let brought : IsBrought c.self.inside.blocks c.fetch.new.self =
    record {
      sound = c.in_ok-fetch.ensures.sound;
      failures = c.in_ok-fetch.ensures.counts;
      committed = c.fetch.ensures.committed;
      size = c.fetch.ensures.size;
      room = c.fetch.ensures.room;
      image = c.in_ok-fetch.ensures.image;
      stands = c.in_ok-fetch.ensures.stands;
      first = c.in_ok-fetch.ensures.first;
    }
    in
    let len : ℕ = vec_len c.self.inside.space.contents in
    let cap : ℕ = vec_capacity c.self.inside.space.contents in
    let room : room_for c.self.inside.spacing c.fetch.new.self.room len cap ≡ room_for c.self.inside.spacing c.self.inside.blocks.room len cap = ap (λ (r : ℕ). room_for c.self.inside.spacing r len cap) c.fetch.ensures.room in (
      (refl, λ _. tt, is-read-seen v c.self.inside.blocks c.fetch.new.self c.self.inside.sizes.items c.self.inside.spacing (room_for c.self.inside.spacing c.self.inside.blocks.room len cap) (room_for c.self.inside.spacing c.fetch.new.self.room len cap) c.self.view_is brought room),
      record {
        value = λ sound.
            let before : IsTrue c.self.inside.blocks.is_sound = (let Q : VolumeState → Type 0 = λ w. IsTrue w.is_sound in subst Q (sym c.self.view_is) sound) in
            let now : IsTrue c.fetch.new.self.is_sound = rw c.in_ok-fetch.ensures.sound before in
            let image : c.fetch.new.self.image ≡ v.image = c.in_ok-fetch.ensures.image before ∙ ap (λ (w : VolumeState). w.image) c.self.view_is in
            let size : c.fetch.new.self.size ≡ v.size = c.fetch.ensures.size ∙ ap (λ (w : VolumeState). w.size) c.self.view_is in
            let number : c.fetch.new.self.hand ≡ n = c.in_ok-fetch.ensures.hand in
            let some : 0 < c.fetch.new.self.hand = (let other = c.if-n-eq0.false in omega arith) in
            let block : block_of c.fetch.new.self.size c.fetch.new.self.image c.fetch.new.self.hand ≡ block_at v n = rw (size, image, number) refl in
            c.hand.ensures.value now some ∙ block;
        after = tt;
        refusal = tt;
      },
    )
