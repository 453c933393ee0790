use Rattle.std.proofs.Common.{◌≡◌, IsTrue, take, drop}
use Rattle.std.specs.List.{AllByRecursion, AllZip}
use Rattle.hd_volume.specs.Buffers.{put_all, AreLater, IsBlockLong, IsWrittenBack}
use Rattle.hd_volume.proofs.slots.write_all.Given as goal

abbrev pub invariant-loop-buffer : goal.invariant-loop-buffer
invariant-loop-buffer g l = record {
  contents : IsTrue (g.S.BlockStore.is_sound l.fn.store) → put_all (g.S.BlockStore.size l.fn.store) (g.S.BlockStore.contents l.store) (drop l.buffer-index l.buffer-items) ≡ put_all (g.S.BlockStore.size l.fn.store) (g.S.BlockStore.contents l.fn.store) l.fn.buffers;
  ready : IsTrue (g.S.BlockStore.is_sound l.fn.store) → AreLater (g.S.BlockStore.size l.fn.store) (g.S.BlockStore.contents l.store) (drop l.buffer-index l.buffer-items);
  written : AllZip IsWrittenBack (take l.buffer-index l.fn.buffers) (take l.buffer-index l.buffer-items);
  rest : drop l.buffer-index l.buffer-items ≡ drop l.buffer-index l.fn.buffers;
  len : AllByRecursion (IsBlockLong (g.S.BlockStore.size l.fn.store)) l.buffer-items;
  sound : g.S.BlockStore.is_sound l.store ≡ g.S.BlockStore.is_sound l.fn.store;
  failures : g.S.BlockStore.failures l.store ≡ g.S.BlockStore.failures l.fn.store;
  committed : g.S.BlockStore.committed l.store ≡ g.S.BlockStore.committed l.fn.store;
  size : g.S.BlockStore.size l.store ≡ g.S.BlockStore.size l.fn.store;
  room : g.S.BlockStore.room l.store ≡ g.S.BlockStore.room l.fn.store;
}
