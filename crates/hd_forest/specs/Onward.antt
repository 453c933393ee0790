-- The path of a row behind another.
use Rattle.std.specs.Prelude.{ℕ, ◌-◌, List, [], ◌∷◌, ◌++◌, take}
use Rattle.hd_dbd.specs.Types.{SegmentType}
use Rattle.hd_dbd.specs.Hierarchy.{level_of}

-- the path of a row at an address, of a type, just behind what a path leads to: as much of the path as is above the row's level, and the row
abbrev pub onward : List SegmentType → List ℕ → ℕ → ℕ → List ℕ
onward types path a code = take (level_of types code - 1) path ++ a ∷ []
