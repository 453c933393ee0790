use Rattle.std.proofs.Common.{IsTrue, Ok, ◌∙◌, arith}
use Rattle.hd_volume.proofs.JoinLemmas.{calls-join}
use Rattle.hd_volume.proofs.CallSteps.{call-ok}
use Rattle.hd_index.proofs.EditLemmas.{copy-step}
use Rattle.hd_index.proofs.bytes.copy_down.Goals as goal

pub loop-done-preserved : goal.loop-done-preserved
loop-done-preserved g c =
    let inv = c.loop-done.invariant in
    let v = c.args.volume.now in
    record {
      call = call-ok 0 (calls-join (Ok c.in_ok-copy_chunk.field-0) inv.call c.in_ok-copy_chunk.ensures.call);
      room = c.copy_chunk.ensures.room ∙ inv.room;
      within = (let m = c.min-part.ensures in let t = c.loop-done-test.true in omega arith);
      copied = λ sound.
          let now : IsTrue c.loop-done.volume.is_sound = rw inv.call.sound sound in
          copy-step c.args.source c.args.target c.args.from c.args.to c.loop-done.done c.min-part.result (c.requires.source sound) c.requires.order
          (let m = c.min-part.ensures in let t = c.loop-done-test.true in let r = c.requires.from_within in omega arith) (let m = c.min-part.ensures in let t = c.loop-done-test.true in let r = c.requires.to_within in omega arith) (inv.copied sound) (c.in_ok-copy_chunk.ensures.copied now);
    }
