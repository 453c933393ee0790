-- The chains of all levels of an index, where it changes.
use Rattle.std.specs.Prelude.{◌≡◌, ◌≢◌, ◌⊎◌, ℕ, suc, ◌<◌, List, [], ◌∷◌, ◌++◌, Some}
use Rattle.hd_volume.specs.Indexes.{IsAmong}
use Rattle.hd_index_blocks.specs.Levels.{IndexBlocks, IsIndexSet}
use Rattle.hd_index_blocks.specs.Ways.{IsNamed, IsWayDown}
use Rattle.hd_index_blocks.specs.Changes.{OthersStay, UpperStay, IsDivided, IsLeft, entry_left}
use Rattle.hd_index_blocks.specs.Neighbours.{last_of}
use Rattle.hd_index_blocks.specs.Chains.{IsLinked, first_of, AreLevelsLinked}

-- A block is divided: on each level from its parent's down the blocks stay a chain, where the first half names the second, which names what
-- the block named, and each other block names what it named.
abbrev pub DivisionsStayLinked : Type 0
DivisionsStayLinked =
    (c d : IndexBlocks) (old new : ℕ → ℕ) (l n m p : ℕ) (left right : List ℕ) → IsDivided c d l n m p → IsIndexSet c (suc l) (left ++ (p ∷ right))
    → AreLevelsLinked c old (suc l) (left ++ (p ∷ right)) → m ≢ 0 → new n ≡ m → new m ≡ old n → ((x j : ℕ) → c.level x ≡ Some j → x ≢ n → new x ≡ old x)
    → AreLevelsLinked d new (suc l) (left ++ (p ∷ right))

-- Where the levels from one down are chains still, and the blocks above stay and name what they named, all levels are.
abbrev pub WaysStayLinked : Type 0
WaysStayLinked =
    (c d : IndexBlocks) (old new : ℕ → ℕ) (h top : ℕ) (key : List ℕ) (steps l : ℕ) (left : List ℕ) (n : ℕ) (right : List ℕ)
    → IsWayDown c h top key steps l left n right → AreLevelsLinked c old h (top ∷ []) → UpperStay c d l
    → ((x j : ℕ) → c.level x ≡ Some j → l < j → new x ≡ old x) → AreLevelsLinked d new l (left ++ (n ∷ right)) → AreLevelsLinked d new h (top ∷ [])

-- Of block n between others of its level this is left. If it is gone, its left neighbour names what it named; each other block names what it
-- named.
pub record IsRelinked (old new : ℕ → ℕ) (left : List ℕ) (n : ℕ) (right kept : List ℕ) : Type 0 where
  pub left_is : (kept ≡ []) ⊎ (kept ≡ n ∷ [])
  pub gone : kept ≡ [] → left ≢ [] → new (last_of 0 left) ≡ old n
  pub others : (x : ℕ) → IsAmong x (left ++ (kept ++ right)) → (kept ≡ [] → x ≢ last_of 0 left) → new x ≡ old x

-- So a level stays a chain where a block goes from it.
abbrev pub ChainsStayLinked : Type 0
ChainsStayLinked =
    (old new : ℕ → ℕ) (start : ℕ) (left : List ℕ) (n : ℕ) (right kept : List ℕ) → IsRelinked old new left n right kept → IsLinked old start (left ++ (n ∷ right))
    → IsLinked new (first_of (left ++ (kept ++ right))) (left ++ (kept ++ right))

-- And where the levels below are chains after a block has gone or stays, so are they with the level above, of whose block this is left.
abbrev pub LevelsStayLinked : Type 0
LevelsStayLinked =
    (c d : IndexBlocks) (old new : ℕ → ℕ) (l start : ℕ) (left : List ℕ) (n : ℕ) (right kept left_up : List ℕ) (p : ℕ) (right_up kept_up : List ℕ)
    → (s : IsNamed c left n right left_up p right_up) → (kept ≡ []) ⊎ (kept ≡ n ∷ [])
    → IsLeft d (suc l) p (s.front ++ (entry_left kept s.entry ++ s.back)) kept_up → OthersStay c d (suc l) p → IsIndexSet c (suc l) (left_up ++ (p ∷ right_up))
    → IsRelinked old new left_up p right_up kept_up → IsLinked old start (left_up ++ (p ∷ right_up)) → AreLevelsLinked d new l (left ++ (kept ++ right))
    → AreLevelsLinked d new (suc l) (left_up ++ (kept_up ++ right_up))
