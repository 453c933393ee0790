use Rattle.std.proofs.Common.{◌-◌, ℕ, IsTrue, Ok}
use Rattle.hd_volume.specs.Calls.{IsRead}
use Rattle.hd_image.specs.Records.{links_of}
use Rattle.hd_forest.specs.Twins.{IsTwinWithin, IsBehind}
use Rattle.hd_forest.proofs.read.twin_before.Given as goal

abbrev pub invariant-loop : goal.invariant-loop
invariant-loop g l = record {
  read : IsRead {T = ℕ} l.fn.volume (Ok 0) l.volume;
  left : IsTrue l.fn.volume.is_sound → IsTwinWithin (links_of l.dbd.types l.fn.volume) (l.most - l.counter) l.twin l.address;
  behind : IsTrue l.fn.volume.is_sound → IsBehind (links_of l.dbd.types l.fn.volume) l.first l.before l.twin;
}
