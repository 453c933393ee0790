use Rattle.std.proofs.Common.{◌≡◌, ◌+◌, ◌-◌, ℕ, IsTrue, Ok, List, refl, subst, ◌∙◌, arith}
use Rattle.hd_bytes.specs.Ranges.{bytes_at, with_bytes}
use Rattle.hd_volume.specs.Volumes.{block_at}
use Rattle.hd_volume.proofs.JoinLemmas.{calls-join}
use Rattle.hd_index.specs.Edits.{HasNewBytes}
use Rattle.hd_volume.proofs.CallSteps.{call-ok, call-none}
use Rattle.hd_index.proofs.EditLemmas.{move-step, move-none}
use Rattle.hd_index.proofs.bytes.move_up.Goals as goal

pub loop-left-init : goal.loop-left-init
loop-left-init g c =
    let v = c.args.volume.now in
    let b : List ℕ = block_at v c.args.n in
    let H : ℕ → Type 0 = λ i. HasNewBytes v c.args.n (with_bytes b (c.args.to + c.args.len) (bytes_at b (c.args.from + c.args.len) i)) v in
    let none : 0 ≡ c.args.len - c.args.len = omega arith in
    record {
      call = call-none v 0;
      room = refl;
      within = omega arith;
      moved = λ sound. subst H none (move-none v c.args.n (c.args.to + c.args.len) (c.args.from + c.args.len) b (c.requires.formatted sound) (c.requires.there sound));
    }

pub loop-left-preserved : goal.loop-left-preserved
loop-left-preserved g c =
    let inv = c.loop-left.invariant in
    let v = c.args.volume.now in
    let b : List ℕ = block_at v c.args.n in
    let low : ℕ = c.loop-left.left - c.min-part.result in
    let H : ℕ → Type 0 = λ i. HasNewBytes v c.args.n (with_bytes b (c.args.to + low) (bytes_at b (c.args.from + low) i)) c.copy_chunk.new.volume in
    let m = c.min-part.ensures in
    let least = inv.within in
    let r = c.requires.within in
    record {
      call = call-ok 0 (calls-join (Ok c.in_ok-copy_chunk.field-0) inv.call c.in_ok-copy_chunk.ensures.call);
      room = c.copy_chunk.ensures.room ∙ inv.room;
      within = omega arith;
      moved = λ sound.
          let now : IsTrue c.loop-left.volume.is_sound = rw inv.call.sound sound in
          let more : c.min-part.result + (c.args.len - c.loop-left.left) ≡ c.args.len - low = omega arith in
          subst H more
          (move-step c.args.n c.args.from c.args.to c.loop-left.left low c.min-part.result (c.args.len - c.loop-left.left) (omega arith) c.requires.order (omega arith) (inv.moved sound) (c.in_ok-copy_chunk.ensures.copied now));
    }
