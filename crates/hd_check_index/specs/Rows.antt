-- The blocks of an index set, row by row from the top down, each row from left to right.
use Rattle.std.specs.Prelude.{◌≡◌, ℕ, zero, suc, List, [], ◌∷◌, ◌++◌}
use Rattle.hd_volume.specs.Volumes.{VolumeState}
use Rattle.hd_index_blocks.specs.Levels.{IndexBlocks, across, named}
use Rattle.hd_index_blocks.specs.IndexSets.{index_blocks, top_blocks, top_level}
use Rattle.hd_check_index.specs.declared.rows.Standing.{Standing}

-- the blocks of a row, with its level
abbrev pub row_of : ℕ → List ℕ → List Standing
row_of l [] = []
row_of l (n ∷ ns) = record { number = n; level = l } ∷ row_of l ns

-- these blocks of a level, and those of each level below them
abbrev pub rows_of : IndexBlocks → ℕ → List ℕ → List Standing
rows_of c zero ns = row_of 0 ns
rows_of c (suc l) ns = row_of (suc l) ns ++ rows_of c l (named (across c ns))

-- These are the rows of a volume's index set.
abbrev pub AreRows : ℕ → VolumeState → List Standing → Type 0
AreRows key_length v rows = rows ≡ rows_of (index_blocks key_length v) (top_level v) (top_blocks v)
