use Rattle.std.proofs.Common.{◌≡◌, ◌-◌, ℕ, List, IsTrue, Ok}
use Rattle.hd_volume.specs.Volumes.{VolumeState}
use Rattle.hd_volume.specs.Entries.{Entry}
use Rattle.hd_volume.specs.Calls.{IsCall}
use Rattle.hd_index.specs.Removals.{IsCut}
use Rattle.hd_index.proofs.unlink.drop_way.Given as goal

abbrev pub invariant-loop : goal.invariant-loop
invariant-loop g l = record {
  call : IsCall {T = ℕ} l.fn.volume (Ok 0) l.volume;
  room : l.volume.room ≡ l.fn.volume.room;
  cut : IsTrue l.fn.volume.is_sound → (old : VolumeState) (gone : Entry) (kept_top : List ℕ) → IsCut l.key_length old gone kept_top l.fn.volume l.levels l.fn.start
      → IsCut l.key_length old gone kept_top l.volume (l.levels - l.counter) l.stand;
}
