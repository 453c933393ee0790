use Rattle.std.proofs.Common.{◌≡◌, ◌≢◌, ℕ, drop}
use Rattle.hd_volume.specs.Volumes.{VolumeState}
use Rattle.hd_image.specs.Records.{links_of, stored_at}
use Rattle.hd_image.specs.PointerFaults.{child_pointers}
use Rattle.hd_check_blocks.specs.Places.{ArePlaces}
use Rattle.hd_check_pointers.specs.Judging.{wrong_among, wrong_or}
use Rattle.hd_check_pointers.proofs.record_pointers.judge_children.Given as goal

-- what is wrong with the types that are left, behind what was found, is what is wrong with all
abbrev pub invariant-loop-child : goal.invariant-loop-child
invariant-loop-child l = (v : VolumeState) (a : ℕ) → ArePlaces l.dbd.types v l.places → stored_at v a ≡ l.segment → a ≢ 0
    → wrong_or l.found (wrong_among (links_of l.dbd.types v) (child_pointers l.dbd.types (links_of l.dbd.types v) a (drop l.child-index l.types)))
    ≡ wrong_or l.fn.wrong (wrong_among (links_of l.dbd.types v) (child_pointers l.dbd.types (links_of l.dbd.types v) a l.types))
