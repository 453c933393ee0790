use Rattle.std.proofs.Common.{ℕ, ◌<◌}
use Rattle.hd_dbd.specs.Hierarchy.{Database}
use Rattle.hd_volume.specs.Volumes.{VolumeState}
use Rattle.hd_image.specs.Records.{links_of}
use Rattle.hd_check_pointers.specs.Tables.{place_at, AreOwners}
use Rattle.hd_check_pointers.specs.Matched.{IsMatched}
use Rattle.hd_check_pointers.proofs.Reaching.{IsFound}
use Rattle.hd_check_pointers.proofs.reached.reached_fault.Given as goal

-- the segments before are reached
abbrev pub invariant-loop-number : goal.invariant-loop-number
invariant-loop-number l = (d : Database) (v : VolumeState) (M : IsMatched d v l.places) → AreOwners d.types (links_of d.types v) l.places l.owners
    → (j : ℕ) → j < l.number → IsFound d v l.places M (place_at l.places j).address
