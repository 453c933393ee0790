use Rattle.std.proofs.Common.{◌≡◌, ◌≢◌, ◌++◌, drop}
use Rattle.hd_volume.specs.Volumes.{VolumeState}
use Rattle.hd_image.specs.Records.{links_of, stored_at}
use Rattle.hd_check_pointers.specs.Namings.{first_namings}
use Rattle.hd_check_pointers.proofs.namings.note_first_children.Given as goal

-- what is noted, with the pointers of the types that are left, is what is noted of all
abbrev pub invariant-loop-child : goal.invariant-loop-child
invariant-loop-child l = (v : VolumeState) → stored_at v l.address ≡ l.segment → l.address ≢ 0
    → l.namings.items ++ first_namings (links_of l.dbd.types v) l.address (drop l.child-index l.types)
    ≡ l.fn.namings.items ++ first_namings (links_of l.dbd.types v) l.address l.types
