use Rattle.std.proofs.Common.{◌<◌, ◌-◌}
use Rattle.hd_dbd.specs.Hierarchy.{Database}
use Rattle.hd_volume.specs.Volumes.{VolumeState}
use Rattle.hd_image.specs.Records.{links_of}
use Rattle.hd_check_blocks.proofs.Listing.{AreStandingAmong, IsSeen}
use Rattle.hd_check_pointers.specs.Tables.{AreOwners}
use Rattle.hd_check_pointers.specs.Matched.{IsMatched}
use Rattle.hd_check_pointers.specs.Listed.{TellsReached}
use Rattle.hd_check_pointers.proofs.reached.reached_faults.Given as goal

-- the segments before that are not reached are listed, and of the last it is known
abbrev pub invariant-loop-number : goal.invariant-loop-number
invariant-loop-number l = record {
  last : (d : Database) (v : VolumeState) → IsMatched d v l.places → AreOwners d.types (links_of d.types v) l.places l.owners → 0 < l.number → TellsReached d v l.places (l.number - 1) l.is_found;
  listed : (d : Database) (v : VolumeState) → IsMatched d v l.places → AreOwners d.types (links_of d.types v) l.places l.owners
      → AreStandingAmong d v 7 (λ k a. IsSeen l.places l.number a) l.faults.items;
}
