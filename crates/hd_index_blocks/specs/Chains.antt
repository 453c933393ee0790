-- The chain of a level: each block names the next one on its level, and the last names none.
use Rattle.std.specs.Prelude.{◌≡◌, ◌≢◌, ℕ, zero, suc, List, [], ◌∷◌, ◌++◌}
use Rattle.hd_volume.specs.Indexes.{IsAmong}
use Rattle.hd_index_blocks.specs.Levels.{IndexBlocks, across, named}

-- These blocks are the chain from a number on, where `next` says what each names.
abbrev pub IsLinked : (ℕ → ℕ) → ℕ → List ℕ → Type 0
IsLinked next start [] = start ≡ 0
IsLinked next start (n ∷ ns) = (start ≡ n) × (n ≢ 0) × IsLinked next (next n) ns

-- the first of some numbers, 0 where there is none
abbrev pub first_of : List ℕ → ℕ
first_of [] = 0
first_of (n ∷ ns) = n

-- Some blocks of a level are a chain from left to right, and so are those of each level below.
abbrev pub AreLevelsLinked : IndexBlocks → (ℕ → ℕ) → ℕ → List ℕ → Type 0
AreLevelsLinked c next zero ns = IsLinked next (first_of ns) ns
AreLevelsLinked c next (suc l) ns = IsLinked next (first_of ns) ns × AreLevelsLinked c next l (named (across c ns))

-- Of some blocks each but one names what it named.
abbrev pub OthersName : (ℕ → ℕ) → (ℕ → ℕ) → ℕ → List ℕ → Type 0
OthersName old new n ns = (x : ℕ) → IsAmong x ns → x ≢ n → new x ≡ old x

-- A chain that ends has each of its blocks once.
abbrev pub ChainsHaveBlocksOnce : Type 0
ChainsHaveBlocksOnce =
    (next : ℕ → ℕ) (start : ℕ) (left : List ℕ) (n : ℕ) (right : List ℕ) → IsLinked next start (left ++ (n ∷ right))
    → (IsAmong n left → ⊥) × (IsAmong n right → ⊥)

-- A new block comes in behind one that then names it.
abbrev pub ChainsTakeBlocks : Type 0
ChainsTakeBlocks =
    (old new : ℕ → ℕ) (start : ℕ) (left : List ℕ) (n m : ℕ) (right : List ℕ) → IsLinked old start (left ++ (n ∷ right))
    → m ≢ 0 → new n ≡ m → new m ≡ old n → OthersName old new n (left ++ (n ∷ right)) → IsLinked new start (left ++ (n ∷ m ∷ right))

-- A block goes from behind one that then names what it named.
abbrev pub ChainsLoseBlocks : Type 0
ChainsLoseBlocks =
    (old new : ℕ → ℕ) (start : ℕ) (left : List ℕ) (m n : ℕ) (right : List ℕ) → IsLinked old start (left ++ (m ∷ n ∷ right))
    → new m ≡ old n → OthersName old new m (left ++ (m ∷ right)) → IsLinked new start (left ++ (m ∷ right))
