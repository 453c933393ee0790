-- A get without arguments that goes on to a row that is known.
use Rattle.std.specs.Prelude.{◌≡◌, IsTrue, ℕ, List, true, false, Option, Some, IfSome}
use Rattle.hd_dbd.specs.Types.{SegmentType, View}
use Rattle.hd_dbd.specs.Hierarchy.{Database}
use Rattle.hd_dbd.specs.Letters.{gives_get}
use Rattle.hd_dbd.specs.Views.{may}
use Rattle.hd_calls.specs.Access.{loads}
use Rattle.hd_calls.specs.Runs.{view_of}
use Rattle.hd_volume.specs.Volumes.{VolumeState}
use Rattle.hd_image.specs.Records.{links_of}
use Rattle.hd_position.specs.Kept.{Kept}
use Rattle.hd_position.specs.Behind.{IsBehind}
use Rattle.hd_get.specs.Searches.{IsOf}
use Rattle.hd_get.specs.Gets.{HasPosition}
use Rattle.hd_session.specs.LastGiven.{Given, AreKeysOf}
use Rattle.hd_session.specs.declared.next_twin.Readable.{Readable}

-- the PCB may read the type of a code, and does not load
abbrev pub IsReadable : List SegmentType → View → ℕ → Type 0
IsReadable types pcb code = (may (record { types = types; pcb = pcb }) gives_get code ≡ true) × (loads pcb ≡ false)

-- so it is with the type that is noted, if one is
abbrev pub AreReadable : List SegmentType → View → Option ℕ → Type 0
AreReadable types pcb noted = IfSome noted (IsReadable types pcb)

-- so it is with the type that is noted of the PCB of a number
abbrev pub IsReadableOf : List SegmentType → List View → Readable → Type 0
IsReadableOf types pcbs noted = (pcb : View) → view_of pcbs noted.pcb ≡ Some pcb → AreReadable types pcb noted.code

-- wherever what is known is so, the row just behind those passed is the one at an address, of a type
abbrev pub IsKnownBehind : Database → Kept → Given → ℕ → ℕ → Type 0
IsKnownBehind d k above a code = (v : VolumeState) → IsOf d v → HasPosition d v k → AreKeysOf d v above → IsTrue v.is_sound → IsBehind d.types (links_of d.types v) k a code
