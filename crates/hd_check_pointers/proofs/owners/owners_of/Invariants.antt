use Rattle.std.proofs.Common.{◌≡◌, length}
use Rattle.hd_dbd.specs.Hierarchy.{Database}
use Rattle.hd_volume.specs.Volumes.{VolumeState}
use Rattle.hd_image.specs.Records.{links_of}
use Rattle.hd_check_pointers.specs.Tables.{AreForwards, ArePredecessors}
use Rattle.hd_check_pointers.specs.Matched.{IsMatched}
use Rattle.hd_check_pointers.proofs.Owning.{AreOwnersTo}
use Rattle.hd_check_pointers.proofs.owners.owners_of.Given as goal

-- the chains that begin before the segment in hand have their owners
abbrev pub invariant-loop-first : goal.invariant-loop-first
invariant-loop-first l = record {
  as_many : length l.owners.items ≡ length l.places;
  owned : (d : Database) (v : VolumeState) → IsMatched d v l.places → ArePredecessors d.types (links_of d.types v) l.places l.namings
      → AreForwards (links_of d.types v) l.places l.forwards → AreOwnersTo d.types (links_of d.types v) l.places l.owners.items l.first;
}
