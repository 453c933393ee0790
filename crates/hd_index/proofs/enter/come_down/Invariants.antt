use Rattle.std.proofs.Common.{◌≡◌, ◌-◌, ℕ, IsTrue, Ok, length}
use Rattle.hd_volume.specs.Calls.{IsCall}
use Rattle.hd_index.specs.Comings.{HasComeTo}
use Rattle.hd_index.proofs.enter.come_down.Given as goal

abbrev pub invariant-loop : goal.invariant-loop
invariant-loop g l = record {
  call : IsCall {T = ℕ} l.fn.volume (Ok 0) l.volume;
  room : l.volume.room ≡ l.fn.volume.room;
  come : IsTrue l.fn.volume.is_sound → HasComeTo (length l.key) l.fn.volume l.key l.by (l.levels - l.counter) l.below l.volume;
}
