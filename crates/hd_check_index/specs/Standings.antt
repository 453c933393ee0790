-- The blocks of an index set as they are noted: row by row, and by their numbers.
use Rattle.std.specs.Prelude.{◌==◌, Bool, true, ◌≡◌, ℕ, ◌+◌, ◌<◌, List, [], ◌∷◌, ◌++◌, length, cond, drop, slice_index_or, Some}
use Rattle.hd_volume.specs.Indexes.{IsAmong}
use Rattle.hd_volume.specs.Volumes.{VolumeState}
use Rattle.hd_index_blocks.specs.Levels.{IndexBlocks}
use Rattle.hd_index_blocks.specs.IndexSets.{index_blocks, top_blocks, top_level}
use Rattle.hd_check_index.specs.declared.rows.Standing.{Standing}
use Rattle.hd_check_index.specs.declared.table.NotedBlock.{NotedBlock}
use Rattle.hd_check_index.specs.NotedBlocks.{noted_at}
use Rattle.hd_check_index.specs.Rows.{row_of, rows_of}
use Rattle.hd_check_index.specs.Marks.{mark_at}

-- the block at an index of some rows
abbrev pub standing_at : List Standing → ℕ → Standing
standing_at rows i = slice_index_or rows i (record { number = 0; level = 0 })

-- all rows of a volume's index set
abbrev pub all_rows : ℕ → VolumeState → List Standing
all_rows key_length v = rows_of (index_blocks key_length v) (top_level v) (top_blocks v)

-- From the top down the rows are noted to one of a level, which begins at an index.
pub record AreNotedTo (c : IndexBlocks) (whole : List Standing) (l from : ℕ) (rows : List Standing) : Type 0 where
  pub front : List Standing
  pub row : List ℕ
  pub begins : length front ≡ from
  pub is : rows ≡ front ++ row_of l row
  pub on_level : (n : ℕ) → IsAmong n row → c.level n ≡ Some l
  pub goes_on : whole ≡ front ++ rows_of c l row

-- the numbers of some blocks
abbrev pub numbers_of : List Standing → List ℕ
numbers_of [] = []
numbers_of (s ∷ rows) = s.number ∷ numbers_of rows

-- Just the blocks of these numbers are marked.
pub record AreMarks (blocks : List NotedBlock) (ns : List ℕ) (marks : List Bool) : Type 0 where
  pub passed : (i : ℕ) → i < length blocks → mark_at marks i ≡ true → IsAmong (noted_at blocks i).number ns
  pub marked : (i : ℕ) → i < length blocks → IsAmong (noted_at blocks i).number ns → mark_at marks i ≡ true

-- the first of some blocks, if it is of a level, and else 0
abbrev pub first_on : ℕ → List Standing → ℕ
first_on l [] = 0
first_on l (s ∷ rows) = cond (s.level == l) s.number 0

-- the block that follows one of its level in some rows, 0 where there is none
abbrev pub follower : List Standing → ℕ → ℕ
follower rows i = first_on (standing_at rows i).level (drop (i + 1) rows)
