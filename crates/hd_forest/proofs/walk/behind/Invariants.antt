use Rattle.std.proofs.Common.{◌≡◌, ◌≤◌, ℕ, IsTrue, Ok, length, take}
use Rattle.hd_volume.specs.Calls.{IsRead}
use Rattle.hd_links.specs.Steps.{behind_span}
use Rattle.hd_image.specs.Records.{links_of}
use Rattle.hd_forest.proofs.walk.behind.Given as goal

abbrev pub invariant-loop-level : goal.invariant-loop-level
invariant-loop-level g l = record {
  read : IsRead {T = ℕ} l.fn.volume (Ok 0) l.volume;
  low : l.level ≤ length l.addresses;
  left : IsTrue l.fn.volume.is_sound → behind_span l.dbd.types (links_of l.dbd.types l.fn.volume) (take l.level l.addresses) ≡ behind_span l.dbd.types (links_of l.dbd.types l.fn.volume) l.addresses;
}

abbrev pub decreases-loop-level : goal.decreases-loop-level
decreases-loop-level g l = l.level
