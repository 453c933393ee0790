use Rattle.std.proofs.Common.{◌≡◌, ◌≢◌, ℕ, IsTrue, Ok, length}
use Rattle.hd_volume.specs.Calls.{IsRead}
use Rattle.hd_image.specs.Records.{links_of}
use Rattle.hd_check_pointers.specs.Keys.{IsLastKey}
use Rattle.hd_check_walk.specs.Walks.{StaysHeld, IsWalkedSoFar, IsOnChain}
use Rattle.hd_check_walk.specs.Twins.{HasFront}
use Rattle.hd_check_walk.proofs.twins.walk_twins.Given as goal

-- the walk is on the chain, and has come to a twin
abbrev pub invariant-loop-turn : goal.invariant-loop-turn
invariant-loop-turn g l = record {
  read : IsRead {T = ℕ} l.fn.volume (Ok 0) l.volume;
  as_many : length l.holders.items ≡ length l.places;
  known : IsTrue l.fn.volume.is_sound → IsLastKey l.dbd.types (links_of l.dbd.types l.fn.volume) l.last;
  kept : IsTrue l.fn.volume.is_sound → StaysHeld l.fn.holders.items l.holders.items;
  chain : IsTrue l.fn.volume.is_sound → IsOnChain l.dbd.types (links_of l.dbd.types l.fn.volume) l.places l.holders.items l.parent l.code l.first l.before.address l.next;
  twin : IsTrue l.fn.volume.is_sound → l.before.address ≢ 0 → HasFront l.dbd.types (links_of l.dbd.types l.fn.volume) l.code l.before;
  walked : IsTrue l.fn.volume.is_sound → (in_hand : ℕ) → IsWalkedSoFar l.dbd.types (links_of l.dbd.types l.fn.volume) l.places 0 in_hand l.fn.waiting.items l.fn.holders.items
      → IsWalkedSoFar l.dbd.types (links_of l.dbd.types l.fn.volume) l.places l.before.address in_hand l.waiting.items l.holders.items;
}
