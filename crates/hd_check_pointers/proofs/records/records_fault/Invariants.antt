use Rattle.std.proofs.Common.{◌≡◌, ◌<◌, ◌++◌, ℕ, IsTrue, Ok, drop}
use Rattle.hd_volume.specs.Calls.{IsRead}
use Rattle.hd_image.specs.Records.{links_of}
use Rattle.hd_check_pointers.specs.Judging.{IsRecordRight}
use Rattle.hd_check_pointers.specs.Namings.{namings_at, namings_of, forwards_of}
use Rattle.hd_check_blocks.specs.Places.{place_at}
use Rattle.hd_check_pointers.proofs.records.records_fault.Given as goal

-- the header and the records before are right, and what is noted, with the pointers of the records that are left, is all
abbrev pub invariant-loop-place : goal.invariant-loop-place
invariant-loop-place g l = record {
  read : IsRead {T = ℕ} l.fn.volume (Ok 0) l.volume;
  roots : IsTrue l.fn.volume.is_sound → IsRecordRight l.dbd.types (links_of l.dbd.types l.fn.volume) 0;
  right : IsTrue l.fn.volume.is_sound → (j : ℕ) → j < l.place-index → IsRecordRight l.dbd.types (links_of l.dbd.types l.fn.volume) (place_at l.places j).address;
  forwards : IsTrue l.fn.volume.is_sound → l.forwards.items ++ forwards_of (links_of l.dbd.types l.fn.volume) (drop l.place-index l.places) ≡ forwards_of (links_of l.dbd.types l.fn.volume) l.places;
  namings : IsTrue l.fn.volume.is_sound → l.namings.items ++ namings_at l.dbd.types (links_of l.dbd.types l.fn.volume) (drop l.place-index l.places) ≡ namings_of l.dbd.types (links_of l.dbd.types l.fn.volume) l.places;
}
