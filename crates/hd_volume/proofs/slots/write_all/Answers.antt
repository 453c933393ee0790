use Rattle.std.proofs.Common.{◌≡◌, ◌<◌, ℕ, List, IsTrue, length, get_or, vec_len, ap, ◌∙◌, arith}
use Rattle.std.proofs.ByRecursion.{All-get_or, All-set}
use Rattle.std.proofs.lemmas.List.{get_or_default}
use Rattle.hd_volume.specs.declared.buffer.Buffer.{Buffer}
use Rattle.hd_volume.specs.Buffers.{IsBlockLong, IsWrittenBack}
use Rattle.hd_volume.proofs.AsideLemmas.{IsNext, next-put, next-later, next-written, next-drop}
use Rattle.hd_volume.proofs.slots.write_all.Goals as goal

pub loop-buffer-preserved : goal.loop-buffer-preserved
loop-buffer-preserved g c =
    let size : ℕ = g.S.BlockStore.size c.args.store.now in
    let i : ℕ = c.loop-buffer.buffer-index in
    let bs : List Buffer = c.loop-buffer.buffer-items in
    let within : i < length bs = omega arith in
    let b : Buffer = get_or bs i c.buffer-item.result in
    let is : b ≡ get_or bs i b = get_or_default bs i c.buffer-item.result b within in
    let v : IsWrittenBack b c.write_back.new.buffer =
    record { bytes = c.write_back.ensures.bytes; number = c.write_back.ensures.number; holds = c.write_back.ensures.holds; unchanged = c.in_ok-write_back.ensures.unchanged } in
    let next : IsTrue (g.S.BlockStore.is_sound c.args.store.now) → IsNext size i (g.S.BlockStore.contents c.loop-buffer.store) (g.S.BlockStore.contents c.write_back.new.store) b c.write_back.new.buffer bs =
    λ before. record {
      within = within;
      is = is;
      long = c.loop-buffer.invariant.len;
      others = c.loop-buffer.invariant.ready before;
      bytes = rw c.loop-buffer.invariant.size at (c.in_ok-write_back.ensures.contents (rw c.loop-buffer.invariant.sound before));
    } in
    record {
      contents = λ before. next-put (next before) ∙ c.loop-buffer.invariant.contents before;
      ready = λ before. next-later (next before);
      written = next-written c.args.buffers.now bs i b c.write_back.new.buffer within is c.loop-buffer.invariant.rest c.loop-buffer.invariant.written v;
      rest = next-drop c.args.buffers.now bs i c.write_back.new.buffer c.loop-buffer.invariant.rest;
      len =
          All-set (IsBlockLong size) bs i c.write_back.new.buffer (ap vec_len c.write_back.ensures.bytes ∙ All-get_or (IsBlockLong size) bs i c.buffer-item.result within c.loop-buffer.invariant.len)
          c.loop-buffer.invariant.len;
      sound = c.in_ok-write_back.ensures.sound ∙ c.loop-buffer.invariant.sound;
      failures = c.in_ok-write_back.ensures.counts ∙ c.loop-buffer.invariant.failures;
      committed = c.write_back.ensures.committed ∙ c.loop-buffer.invariant.committed;
      size = c.write_back.ensures.size ∙ c.loop-buffer.invariant.size;
      room = c.write_back.ensures.room ∙ c.loop-buffer.invariant.room;
    }
