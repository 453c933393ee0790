use Rattle.std.proofs.Common.{◌<◌, ℕ, IsTrue, Ok}
use Rattle.hd_volume.specs.Calls.{IsRead}
use Rattle.hd_image.specs.Records.{links_of}
use Rattle.hd_check_pointers.specs.Tables.{place_at}
use Rattle.hd_check_pointers.specs.Twins.{AreTwinsRight}
use Rattle.hd_check_pointers.proofs.twins.twins_fault.Given as goal

-- the header and the records before are right
abbrev pub invariant-loop-number : goal.invariant-loop-number
invariant-loop-number g l = record {
  read : IsRead {T = ℕ} l.fn.volume (Ok 0) l.volume;
  roots : IsTrue l.fn.volume.is_sound → AreTwinsRight l.dbd.types (links_of l.dbd.types l.fn.volume) 0;
  right : IsTrue l.fn.volume.is_sound → (j : ℕ) → j < l.number → AreTwinsRight l.dbd.types (links_of l.dbd.types l.fn.volume) (place_at l.places j).address;
}
