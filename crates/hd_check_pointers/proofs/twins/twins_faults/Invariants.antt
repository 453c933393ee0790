use Rattle.std.proofs.Common.{ℕ, IsTrue, Ok}
use Rattle.hd_volume.specs.Calls.{IsRead}
use Rattle.hd_check_blocks.proofs.Listing.{AreStandingAmong, IsSeen}
use Rattle.hd_check_pointers.proofs.twins.twins_faults.Given as goal

-- what is wrong with the header and the records before is listed
abbrev pub invariant-loop-number : goal.invariant-loop-number
invariant-loop-number g l = record {
  read : IsRead {T = ℕ} l.fn.volume (Ok 0) l.volume;
  listed : IsTrue l.fn.volume.is_sound → AreStandingAmong l.dbd l.fn.volume 5 (λ k a. IsSeen l.places l.number a) l.faults.items;
}
