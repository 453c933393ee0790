-- A worked index of three levels: over the upper key 5 of the top the last upper key of the level below is 8.
use Rattle.std.specs.Prelude.{◌≡◌, ℕ, List, [], ◌∷◌, ◌++◌, Option, Some, None, slice_get, unwrap_or}
use Rattle.hd_volume.specs.Entries.{Entry}
use Rattle.hd_index_blocks.specs.Maps.{greatest_below}
use Rattle.hd_index_blocks.specs.Levels.{IndexBlocks, entries_below, IsIndexSet}
use Rattle.hd_index_blocks.specs.Ways.{leaf_of}

-- an entry with a key of one byte
abbrev pub at_byte : ℕ → ℕ → Entry
at_byte byte address = record { key = byte ∷ []; address = address }

-- the entries of blocks 0 to 6: block 1 is the top, 2 and 3 are of level 1, 4 to 6 are the sequence set
abbrev pub worked_entries : List (List Entry)
worked_entries =
    []
    ∷ (at_byte 5 2 ∷ at_byte 20 3 ∷ [])
    ∷ (at_byte 3 4 ∷ at_byte 8 5 ∷ [])
    ∷ (at_byte 20 6 ∷ [])
    ∷ (at_byte 1 100 ∷ at_byte 3 300 ∷ [])
    ∷ (at_byte 4 400 ∷ at_byte 5 500 ∷ [])
    ∷ (at_byte 10 1000 ∷ at_byte 20 2000 ∷ [])
    ∷ []

-- their levels
abbrev pub worked_levels : List (Option ℕ)
worked_levels = None ∷ Some 2 ∷ Some 1 ∷ Some 1 ∷ Some 0 ∷ Some 0 ∷ Some 0 ∷ []

abbrev pub worked : IndexBlocks
worked = record { entries = λ n. unwrap_or (slice_get worked_entries n) []; level = λ n. unwrap_or (slice_get worked_levels n) None }

-- It is an index set. The key 7 leads to block 6 and is not to come in there, since then 8 would no longer be less than all keys
-- behind; the greatest key below it, 5, leads to block 5.
abbrev pub UpperKeysNeedNotAgree : Type 0
UpperKeysNeedNotAgree =
    IsIndexSet worked 2 (1 ∷ []) × (entries_below worked 2 (1 ∷ []) ≡ worked.entries 4 ++ (worked.entries 5 ++ worked.entries 6))
    × (leaf_of worked (7 ∷ []) 2 1 ≡ 6) × (greatest_below (7 ∷ []) (7 ∷ []) (entries_below worked 2 (1 ∷ [])) ≡ 5 ∷ []) × (leaf_of worked (5 ∷ []) 2 1 ≡ 5)
