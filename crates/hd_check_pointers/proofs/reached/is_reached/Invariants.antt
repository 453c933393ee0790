use Rattle.std.proofs.Common.{◌+◌, ◌<◌, ◌≤◌, length}
use Rattle.hd_dbd.specs.Hierarchy.{Database}
use Rattle.hd_volume.specs.Volumes.{VolumeState}
use Rattle.hd_image.specs.Records.{links_of}
use Rattle.hd_check_pointers.specs.Tables.{place_at, AreOwners}
use Rattle.hd_check_pointers.specs.Matched.{IsMatched}
use Rattle.hd_check_pointers.proofs.Reaching.{IsFound}
use Rattle.hd_check_pointers.proofs.reached.is_reached.Given as goal

-- the segment is reached just where the one in hand is, and the codes fall
abbrev pub invariant-loop-step : goal.invariant-loop-step
invariant-loop-step l = record {
  within : l.number < length l.places;
  up : (d : Database) (v : VolumeState) (M : IsMatched d v l.places) → AreOwners d.types (links_of d.types v) l.places l.owners
      → IsFound d v l.places M (place_at l.places l.number).address → IsFound d v l.places M (place_at l.places l.first).address;
  down : (d : Database) (v : VolumeState) (M : IsMatched d v l.places) → AreOwners d.types (links_of d.types v) l.places l.owners
      → IsFound d v l.places M (place_at l.places l.first).address → IsFound d v l.places M (place_at l.places l.number).address;
  falls : (d : Database) (v : VolumeState) → IsMatched d v l.places → AreOwners d.types (links_of d.types v) l.places l.owners
      → (links_of d.types v).code (place_at l.places l.number).address + l._step ≤ 255;
}
