use Rattle.std.proofs.Common.{ℕ, IsTrue, Ok}
use Rattle.hd_volume.specs.Calls.{IsRead}
use Rattle.hd_image.specs.Records.{links_of}
use Rattle.hd_check_blocks.proofs.Listing.{AreStandingAmong, IsSeen}
use Rattle.hd_check_pointers.specs.Keys.{IsLastKey}
use Rattle.hd_check_pointers.proofs.twin_keys.twin_keys_faults.Given as goal

-- the keys of the segments before that are wrong are listed, and the last is known
abbrev pub invariant-loop-number : goal.invariant-loop-number
invariant-loop-number g l = record {
  read : IsRead {T = ℕ} l.fn.volume (Ok 0) l.volume;
  listed : IsTrue l.fn.volume.is_sound → AreStandingAmong l.dbd l.fn.volume 6 (λ k a. IsSeen l.places l.number a) l.faults.items;
  known : IsTrue l.fn.volume.is_sound → IsLastKey l.dbd.types (links_of l.dbd.types l.fn.volume) l.last;
}
