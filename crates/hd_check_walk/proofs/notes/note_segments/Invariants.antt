use Rattle.std.proofs.Common.{◌≡◌, ℕ, IsTrue, Ok, length}
use Rattle.hd_volume.specs.Calls.{IsRead}
use Rattle.hd_image.specs.Records.{links_of}
use Rattle.hd_check_walk.specs.Notes.{AreNoted, AreChildrenNoted}
use Rattle.hd_check_walk.proofs.notes.note_segments.Given as goal

-- the segments at the places before are noted
abbrev pub invariant-loop-place : goal.invariant-loop-place
invariant-loop-place g l = record {
  read : IsRead {T = ℕ} l.fn.volume (Ok 0) l.volume;
  as_many : length l.notes.items ≡ l.place-index;
  noted : IsTrue l.fn.volume.is_sound → AreNoted l.dbd.types (links_of l.dbd.types l.fn.volume) l.places l.notes.items;
  children : IsTrue l.fn.volume.is_sound → AreChildrenNoted l.dbd.types (links_of l.dbd.types l.fn.volume) l.places l.notes.items l.named.items;
}
