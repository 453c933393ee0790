use Rattle.std.proofs.Common.{◌≡◌, ◌≢◌, ◌⊎◌, ℕ, ◌<◌, length, slice_index}
use Rattle.hd_dbd.specs.Hierarchy.{Database}
use Rattle.hd_volume.specs.Volumes.{VolumeState}
use Rattle.hd_image.specs.Records.{links_of}
use Rattle.hd_check_pointers.specs.Tables.{place_at, nobody, AreForwards, IsOwner}
use Rattle.hd_check_pointers.specs.Matched.{IsMatched, OwnersAreRight, OwnersAreClosed}
use Rattle.hd_check_pointers.proofs.Owning.{unknown, IsOpenAt}
use Rattle.hd_check_pointers.proofs.owners.own_twins.Given as goal

-- the owner is written up to the twin in hand
abbrev pub invariant-loop-owners : goal.invariant-loop-owners
invariant-loop-owners l = record {
  inside : l.number < length l.places;
  as_many : length l.owners.items ≡ length l.places;
  kept : (i : ℕ) → slice_index l.fn.owners.items i ≢ nobody → slice_index l.owners.items i ≢ nobody;
  first : (l.first ≡ l.number) ⊎ (slice_index l.owners.items l.first ≢ nobody);
  own : (d : Database) (v : VolumeState) → IsMatched d v l.places → AreForwards (links_of d.types v) l.places l.forwards
      → IsOwner d.types (links_of d.types v) l.owner (place_at l.places l.first).address → IsOwner d.types (links_of d.types v) l.owner (place_at l.places l.number).address;
  right : (d : Database) (v : VolumeState) → IsMatched d v l.places → AreForwards (links_of d.types v) l.places l.forwards
      → IsOwner d.types (links_of d.types v) l.owner (place_at l.places l.first).address → OwnersAreRight d.types (links_of d.types v) l.places l.fn.owners.items
      → OwnersAreRight d.types (links_of d.types v) l.places l.owners.items;
  ahead : (d : Database) (v : VolumeState) → IsMatched d v l.places → AreForwards (links_of d.types v) l.places l.forwards
      → OwnersAreClosed (links_of d.types v) l.places l.fn.owners.items → IsOpenAt (links_of d.types v) l.places l.owners.items l.number;
}

abbrev pub decreases-loop-owners : goal.decreases-loop-owners
decreases-loop-owners l = unknown l.owners.items
