use Rattle.std.proofs.Common.{◌≡◌, ℕ, length, IsTrue, Ok}
use Rattle.hd_volume.specs.Calls.{IsRead}
use Rattle.hd_image.specs.Records.{links_of}
use Rattle.hd_check_pointers.specs.Keys.{IsLastKey}
use Rattle.hd_check_walk.specs.Walks.{IsWalkedSoFar, AreChildrenWalked}
use Rattle.hd_check_walk.proofs.walk.walk_volume.Given as goal

-- the volume was only read, and the walk has come as far as what waits
abbrev pub invariant-loop-turn : goal.invariant-loop-turn
invariant-loop-turn g l = record {
  as_many : length l.holders.items ≡ length l.places;
  read : IsRead {T = ℕ} l.fn.volume (Ok 0) l.volume;
  known : IsTrue l.fn.volume.is_sound → IsLastKey l.dbd.types (links_of l.dbd.types l.fn.volume) l.last;
  roots : IsTrue l.fn.volume.is_sound → AreChildrenWalked l.dbd.types (links_of l.dbd.types l.fn.volume) l.places l.holders.items 0;
  walked : IsTrue l.fn.volume.is_sound → IsWalkedSoFar l.dbd.types (links_of l.dbd.types l.fn.volume) l.places 0 (length l.places) l.waiting.items l.holders.items;
}
