use Rattle.std.proofs.Common.{◌≡◌, ◌<◌, ◌≤◌, ℕ, Ok, IsTrue, take}
use Rattle.hd_volume.specs.Calls.{IsRead}
use Rattle.hd_image.specs.Records.{links_of}
use Rattle.hd_session.specs.Giving.{IsCodeOn, with_path}
use Rattle.hd_session.proofs.given_rows.add_path.Given as goal

-- it has read, and what was added is what so many rows of the path give
abbrev pub invariant-loop-place : goal.invariant-loop-place
invariant-loop-place g l = record {
  read : IsRead {T = ℕ} l.fn.volume (Ok 0) l.volume;
  part : l.place ≤ l.to;
  added : IsTrue l.fn.volume.is_sound → l.io ≡ with_path l.dbd.types (links_of l.dbd.types l.fn.volume) l.levels l.fn.io.room (take l.place l.path);
  code : l.fn.from < l.place → IsCodeOn l.dbd l.fn.volume l.path l.place l.code;
  same_room : l.io.room ≡ l.fn.io.room;
}
