use Rattle.std.proofs.Common.{◌<◌, ℕ, IsTrue, Ok}
use Rattle.hd_volume.specs.Calls.{IsRead}
use Rattle.hd_image.specs.Records.{links_of}
use Rattle.hd_check_pointers.specs.Keys.{IsLastKey, IsKeyRight}
use Rattle.hd_check_pointers.specs.Tables.{place_at}
use Rattle.hd_check_pointers.proofs.twin_keys.twin_keys_fault.Given as goal

-- the keys of the segments before are right, and the last is known
abbrev pub invariant-loop-number : goal.invariant-loop-number
invariant-loop-number g l = record {
  read : IsRead {T = ℕ} l.fn.volume (Ok 0) l.volume;
  right : IsTrue l.fn.volume.is_sound → (j : ℕ) → j < l.number → IsKeyRight l.dbd.types (links_of l.dbd.types l.fn.volume) (place_at l.places j).address;
  known : IsTrue l.fn.volume.is_sound → IsLastKey l.dbd.types (links_of l.dbd.types l.fn.volume) l.last;
}
