-- The extents of the blocks of a row, and what is said of a block by those of the row below.
use Rattle.std.specs.Prelude.{◌≡◌, ℕ, zero, suc, List, [], ◌∷◌, ◌++◌}
use Rattle.hd_volume.specs.Entries.{Entry}
use Rattle.hd_index_blocks.specs.Levels.{IndexBlocks, named, entries_below}
use Rattle.hd_check_index.specs.declared.extents.Extent.{Extent}
use Rattle.hd_check_index.specs.Extents.{IsExtent}

-- these are the extents of some blocks of a level, one for each
abbrev pub AreExtents : ℕ → IndexBlocks → ℕ → List ℕ → List Extent → Type 0
AreExtents key_length c l [] [] = Unit {0}
AreExtents key_length c l [] (x ∷ xs) = ⊥
AreExtents key_length c l (n ∷ ns) [] = ⊥
AreExtents key_length c l (n ∷ ns) (x ∷ xs) = IsExtent key_length x (entries_below c l (n ∷ [])) × AreExtents key_length c l ns xs

-- above level 0, these are the extents of the blocks that some entries of a level name
abbrev pub AreBelow : ℕ → IndexBlocks → ℕ → List Entry → List Extent → Type 0
AreBelow key_length c zero es below = Unit {0}
AreBelow key_length c (suc l) es below = AreExtents key_length c l (named es) below

-- Where a block of a level has these entries, and these are the extents below them and below others to their right, this is its extent.
abbrev pub IsExtentBelow : ℕ → ℕ → List Entry → List Extent → Extent → Type 0
IsExtentBelow key_length level es below extent =
    (c : IndexBlocks) (n : ℕ) (rs : List Entry) → c.entries n ≡ es → AreBelow key_length c level (es ++ rs) below → IsExtent key_length extent (entries_below c level (n ∷ []))
