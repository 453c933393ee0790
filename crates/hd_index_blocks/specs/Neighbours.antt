-- The left neighbour of a block on its level.
use Rattle.std.specs.Prelude.{◌≡◌, ℕ, suc, ◌==◌, cond, List, [], ◌∷◌, Option, None}
use Rattle.hd_volume.specs.Entries.{Entry}
use Rattle.hd_index_blocks.specs.Levels.{IndexBlocks, named, AreOnLevel}
use Rattle.hd_index_blocks.specs.Ways.{IsNamed}

-- the last of some numbers, or else another
abbrev pub last_of : ℕ → List ℕ → ℕ
last_of other [] = other
last_of other (n ∷ ns) = last_of n ns

-- the block that the last entry of block n names; 0 where n is 0
abbrev pub last_child : IndexBlocks → ℕ → ℕ
last_child c n = cond (n == 0) 0 (last_of 0 (named (c.entries n)))

-- The left neighbour of a block, 0 for none, is what the entry before its own names in the same upper block, or else the last block that the
-- left neighbour of the upper block names.
abbrev pub LeftNeighboursAreNamed : Type 0
LeftNeighboursAreNamed =
    (c : IndexBlocks) (l : ℕ) (left : List ℕ) (n : ℕ) (right left_up : List ℕ) (p : ℕ) (right_up : List ℕ)
    → (s : IsNamed c left n right left_up p right_up) → AreOnLevel c (suc l) left_up → c.level 0 ≡ None
    → last_of 0 left ≡ last_of (last_child c (last_of 0 left_up)) (named s.front)
