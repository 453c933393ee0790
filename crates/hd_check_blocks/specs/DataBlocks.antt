-- What is told by the bytes of a data block.
use Rattle.std.specs.Prelude.{◌≡◌, ℕ, ◌*◌, List, Some, take}
use Rattle.hd_dbd.specs.Hierarchy.{Database}
use Rattle.hd_volume.specs.Volumes.{VolumeState, block_at}
use Rattle.hd_volume.specs.Records.{find}
use Rattle.hd_image.specs.Records.{IsVolumeOf}
use Rattle.hd_check_blocks.specs.declared.places.Place.{Place}
use Rattle.hd_check_blocks.specs.Places.{ArePlaces}

-- the fact holds of each volume that has this block at an address
abbrev pub OfBlockAt : List ℕ → ℕ → (VolumeState → Type 0) → Type 0
OfBlockAt bytes first fact = (v : VolumeState) (n : ℕ) → bytes ≡ block_at v n → first ≡ n * v.size → fact v

-- the bytes begin with the segment at an address
abbrev pub BeginThere : VolumeState → ℕ → List ℕ → Type 0
BeginThere v address bytes = (n : ℕ) × (find v address ≡ Some (take n bytes))

-- the fact holds of each volume of a database that has its segments at these places, and this block at an address
abbrev pub OfDataBlock : Database → List Place → List ℕ → ℕ → (VolumeState → Type 0) → Type 0
OfDataBlock d places bytes first fact = (v : VolumeState) (n : ℕ) → IsVolumeOf d v → ArePlaces d.types v places → bytes ≡ block_at v n → first ≡ n * v.size → fact v
