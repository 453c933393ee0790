use Rattle.std.proofs.Common.{◌≡◌, ℕ, ◌<◌, ◌≤◌, IsTrue, slice_index, vec_len}
use Rattle.hd_bytes.specs.Blocks.{block_of}
use Rattle.hd_volume.specs.Rooms.{free_below}
use Rattle.hd_volume.specs.Spaces.{IsContent, content_at}
use Rattle.hd_volume.proofs.load.survey.Given as goal

abbrev pub invariant-loop-n : goal.invariant-loop-n
invariant-loop-n g l = record {
  is_sound : l.blocks.is_sound ≡ l.fn.blocks.is_sound;
  failures : l.blocks.failures ≡ l.fn.blocks.failures;
  committed : l.blocks.committed ≡ l.fn.blocks.committed;
  size : l.blocks.size ≡ l.fn.blocks.size;
  room : l.blocks.room ≡ l.fn.blocks.room;
  image : IsTrue l.fn.blocks.is_sound → l.blocks.image ≡ l.fn.blocks.image;
  stored : IsTrue l.fn.blocks.is_sound → l.blocks.stored ≡ l.fn.blocks.image;
  len : vec_len l.space.contents ≡ l.n;
  contents : IsTrue l.fn.blocks.is_sound → (m : ℕ) → 0 < m → m < l.n → IsContent l.sizes (block_of l.fn.blocks.size l.fn.blocks.image m) (content_at l.space m);
  lowest : (c : ℕ) → slice_index l.space.lowest.items c ≤ 1;
  lowest_free : l.space.lowest_free ≡ 1;
  few : l.space.free ≤ l.n;
  free : IsTrue l.fn.blocks.is_sound → l.space.free ≡ free_below l.fn.blocks.size l.fn.blocks.image l.n;
}
