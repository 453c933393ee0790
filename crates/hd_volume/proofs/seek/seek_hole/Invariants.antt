use Rattle.std.proofs.Common.{◌≡◌, ◌<◌, ◌≤◌, ℕ, IsTrue}
use Rattle.hd_volume.specs.Images.{KeepsFirst}
use Rattle.hd_volume.specs.Spaces.{IsSpaceOf, blocks_in, content_at, KeepsTables}
use Rattle.hd_volume.proofs.seek.seek_hole.Given as goal

abbrev pub invariant-loop-n : goal.invariant-loop-n
invariant-loop-n g l = record {
  failures : l.blocks.failures ≡ l.fn.blocks.failures;
  is_sound : l.blocks.is_sound ≡ l.fn.blocks.is_sound;
  committed : l.blocks.committed ≡ l.fn.blocks.committed;
  size : l.blocks.size ≡ l.fn.blocks.size;
  room : l.blocks.room ≡ l.fn.blocks.room;
  image : IsTrue l.fn.blocks.is_sound → l.blocks.image ≡ l.fn.blocks.image;
  stands : IsTrue l.fn.blocks.is_sound → l.fn.blocks.stored ≡ l.fn.blocks.image → l.blocks.stored ≡ l.fn.blocks.image;
  first : IsTrue l.fn.blocks.is_sound → KeepsFirst l.fn.blocks.size l.fn.blocks.stored l.blocks.stored;
  space : IsTrue l.fn.blocks.is_sound → IsSpaceOf l.fn.blocks.size l.sizes l.fn.blocks.image l.space;
  tables : KeepsTables l.fn.space l.space;
  some : 0 < l.n;
  few : l.count ≤ 65536;
  passed : IsTrue l.fn.blocks.is_sound → (m : ℕ) → 0 < m → m < l.n → m < blocks_in l.fn.blocks.size l.fn.blocks.image → (content_at l.space m).kind ≡ 1 → (content_at l.space m).hole < l.size;
}
