use Rattle.std.proofs.Common.{ℕ, IsTrue, Ok}
use Rattle.hd_volume.specs.Calls.{IsRead}
use Rattle.hd_image.specs.Records.{links_of}
use Rattle.hd_position.proofs.Siblings.{IsOnTheWay}
use Rattle.hd_position.proofs.back.go_to_end.Given as goal

abbrev pub invariant-loop : goal.invariant-loop
invariant-loop g l = record {
  read : IsRead {T = ℕ} l.fn.volume (Ok 0) l.volume;
  way : IsTrue l.fn.volume.is_sound → IsOnTheWay l.dbd.types (links_of l.dbd.types l.fn.volume) l.fn.path l.path l.counter;
}
