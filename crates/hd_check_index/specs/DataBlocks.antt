-- What is told of entries by a data block in which the roots that they name stand.
use Rattle.std.specs.Prelude.{◌≡◌, ℕ, ◌++◌, List, map, true}
use Rattle.std.specs.List.{list_all}
use Rattle.hd_dbd.specs.Hierarchy.{Database}
use Rattle.hd_volume.specs.Volumes.{VolumeState}
use Rattle.hd_volume.specs.Entries.{entries_at}
use Rattle.hd_image.specs.IndexFaults.{names_a_root}
use Rattle.hd_image.specs.Records.{links_of}

-- the first of the entries of a block name roots of their keys, so many of them
abbrev pub FirstNameRoots : Database → VolumeState → ℕ → List ℕ → ℕ → Type 0
FirstNameRoots d v key_length bytes count = list_all (λ e. names_a_root d (links_of d.types v) e) (entries_at key_length bytes 12 count) ≡ true

-- what they name is noted behind what was noted before
abbrev pub AreFirstNoted : List ℕ → ℕ → List ℕ → ℕ → List ℕ → Type 0
AreFirstNoted before key_length bytes count named = named ≡ before ++ map (λ e. e.address) (entries_at key_length bytes 12 count)
