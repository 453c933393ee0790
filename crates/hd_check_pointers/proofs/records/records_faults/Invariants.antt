use Rattle.std.proofs.Common.{IsTrue, Ok, ℕ}
use Rattle.hd_volume.specs.Calls.{IsRead}
use Rattle.hd_check_blocks.proofs.Listing.{AreStandingAmong, IsSeen}
use Rattle.hd_check_pointers.proofs.records.records_faults.Given as goal

-- what stands at the header and at the records before is listed
abbrev pub invariant-loop-place : goal.invariant-loop-place
invariant-loop-place g l = record {
  read : IsRead {T = ℕ} l.fn.volume (Ok 0) l.volume;
  listed : IsTrue l.fn.volume.is_sound → AreStandingAmong l.dbd l.fn.volume 3 (λ k a. IsSeen l.places l.place-index a) l.faults.items;
}
