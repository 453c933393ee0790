use Rattle.std.proofs.Common.{◌≤◌, ◌<◌, ◌*◌, ℕ, IsTrue, Ok}
use Rattle.hd_volume.specs.Calls.{IsRead}
use Rattle.hd_check_blocks.proofs.Listing.{AreStandingAmong}
use Rattle.hd_check_blocks.proofs.blocks.blocks_faults.Given as goal

-- what is wrong with the blocks before n is listed
abbrev pub invariant-loop-n : goal.invariant-loop-n
invariant-loop-n g l = record {
  read : IsRead {T = ℕ} l.fn.volume (Ok 0) l.volume;
  first : 1 ≤ l.n;
  listed : IsTrue l.fn.volume.is_sound → AreStandingAmong l.dbd l.fn.volume 2 (λ k a. a < l.n * l.fn.volume.size) l.faults.items;
}
