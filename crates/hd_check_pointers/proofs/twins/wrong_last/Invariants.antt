use Rattle.hd_volume.specs.Volumes.{VolumeState}
use Rattle.hd_image.specs.Records.{links_of}
use Rattle.hd_check_blocks.specs.Lending.{IsLent}
use Rattle.hd_check_pointers.specs.Matched.{IsMatched}
use Rattle.hd_check_pointers.specs.Tables.{place_at, AreForwards, AreOwners}
use Rattle.hd_check_pointers.proofs.LastChildren.{IsLeftOrRight}
use Rattle.hd_check_pointers.proofs.twins.wrong_last.Given as goal

-- the last children of the types before are right
abbrev pub invariant-loop-child : goal.invariant-loop-child
invariant-loop-child l = (v : VolumeState) → IsMatched l.dbd v l.places → AreForwards (links_of l.dbd.types v) l.places l.forwards → AreOwners l.dbd.types (links_of l.dbd.types v) l.places l.owners
    → IsLent l.dbd.types v (place_at l.places l.number).address l.segment
    → IsLeftOrRight l.dbd.types (links_of l.dbd.types v) (place_at l.places l.number).address l.types l.child-index
