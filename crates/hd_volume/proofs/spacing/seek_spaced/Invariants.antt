use Rattle.std.proofs.Common.{◌≡◌, ◌<◌, ◌≤◌, IsTrue}
use Rattle.hd_volume.specs.Images.{KeepsFirst}
use Rattle.hd_volume.proofs.spacing.seek_spaced.Given as goal

abbrev pub invariant-loop-n : goal.invariant-loop-n
invariant-loop-n g l = record {
  failures : l.blocks.failures ≡ l.fn.blocks.failures;
  is_sound : l.blocks.is_sound ≡ l.fn.blocks.is_sound;
  committed : l.blocks.committed ≡ l.fn.blocks.committed;
  size : l.blocks.size ≡ l.fn.blocks.size;
  room : l.blocks.room ≡ l.fn.blocks.room;
  image : IsTrue l.fn.blocks.is_sound → l.blocks.image ≡ l.fn.blocks.image;
  stands : IsTrue l.fn.blocks.is_sound → l.fn.blocks.stored ≡ l.fn.blocks.image → l.blocks.stored ≡ l.fn.blocks.image;
  first : IsTrue l.fn.blocks.is_sound → KeepsFirst l.fn.blocks.size l.fn.blocks.stored l.blocks.stored;
  some : 0 < l.n;
  few : l.count ≤ 65536;
}
