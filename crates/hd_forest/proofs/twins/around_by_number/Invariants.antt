use Rattle.std.proofs.Common.{ℕ, ◌≤◌, IsTrue, Ok}
use Rattle.hd_dbd.specs.Forest.{Forest}
use Rattle.hd_volume.specs.Calls.{IsRead}
use Rattle.hd_links.specs.Placed.{Placed, Holds}
use Rattle.hd_image.specs.Records.{links_of}
use Rattle.hd_forest.proofs.BlockTwins.{HasCome}
use Rattle.hd_forest.proofs.twins.around_by_number.Given as goal

-- it has read, and passed over a twin a turn at least
abbrev pub invariant-loop-count : goal.invariant-loop-count
invariant-loop-count g l = record {
  read : IsRead {T = ℕ} l.fn.volume (Ok 0) l.volume;
  come : (f : Forest Placed) → IsTrue l.fn.volume.is_sound → Holds l.dbd.types (links_of l.dbd.types l.fn.volume) f
      → (turns : ℕ) × (l.count ≤ turns) × HasCome l.dbd.types (links_of l.dbd.types l.fn.volume) f l.key l.address turns l.before l.twin;
}
