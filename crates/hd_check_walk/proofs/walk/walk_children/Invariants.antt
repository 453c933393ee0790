use Rattle.std.proofs.Common.{◌≡◌, ℕ, IsTrue, Ok, length}
use Rattle.hd_volume.specs.Calls.{IsRead}
use Rattle.hd_image.specs.Records.{links_of}
use Rattle.hd_check_blocks.specs.Places.{place_at}
use Rattle.hd_check_pointers.specs.Keys.{IsLastKey}
use Rattle.hd_check_walk.specs.Walks.{StaysHeld, IsWalkedSoFar}
use Rattle.hd_check_walk.proofs.Children.{IsLeftOrWalked}
use Rattle.hd_check_walk.proofs.walk.walk_children.Given as goal

-- the children of the types before are walked
abbrev pub invariant-loop-child : goal.invariant-loop-child
invariant-loop-child g l = record {
  index : l.index ≡ l.child-index;
  read : IsRead {T = ℕ} l.fn.volume (Ok 0) l.volume;
  as_many : length l.holders.items ≡ length l.places;
  known : IsTrue l.fn.volume.is_sound → IsLastKey l.dbd.types (links_of l.dbd.types l.fn.volume) l.last;
  kept : IsTrue l.fn.volume.is_sound → StaysHeld l.fn.holders.items l.holders.items;
  types : IsTrue l.fn.volume.is_sound → IsLeftOrWalked l.dbd.types (links_of l.dbd.types l.fn.volume) l.places l.holders.items (place_at l.places l.number).address l.child-items l.child-index;
  walked : IsTrue l.fn.volume.is_sound → (in_hand : ℕ) → IsWalkedSoFar l.dbd.types (links_of l.dbd.types l.fn.volume) l.places 0 in_hand l.fn.waiting.items l.fn.holders.items
      → IsWalkedSoFar l.dbd.types (links_of l.dbd.types l.fn.volume) l.places 0 in_hand l.waiting.items l.holders.items;
}
