-- The table of a volume's index blocks, which the first phase notes.
use Rattle.std.specs.Prelude.{◌≡◌, ◌⊎◌, ℕ, ◌<◌, List, [], ◌∷◌, slice_index}
use Rattle.hd_bytes.specs.Numbers.{number_at}
use Rattle.hd_volume.specs.Volumes.{VolumeState, block_at, IsKind}
use Rattle.hd_check_index.specs.declared.table.NotedBlock.{NotedBlock}

-- index block n as it is noted: its number and what its first bytes say
abbrev pub noted : VolumeState → ℕ → NotedBlock
noted v n = record { number = n; level = slice_index (block_at v n) 3; count = number_at 2 (block_at v n) 4; next = number_at 4 (block_at v n) 8 }

-- each block is behind the one before, and all are behind a number
abbrev pub BlocksAscend : ℕ → List NotedBlock → Type 0
BlocksAscend n [] = Unit {0}
BlocksAscend n (b ∷ bs) = (n < b.number) × BlocksAscend b.number bs

-- the block is one of these
abbrev pub IsBlockOf : NotedBlock → List NotedBlock → Type 0
IsBlockOf b [] = ⊥
IsBlockOf b (c ∷ cs) = (b ≡ c) ⊎ IsBlockOf b cs

-- These are the index blocks of a volume, in order of their numbers: each is one, and each index block is one of them.
pub record AreIndexBlocks (v : VolumeState) (blocks : List NotedBlock) : Type 0 where
  pub ascend : BlocksAscend 0 blocks
  pub there : (b : NotedBlock) → IsBlockOf b blocks → IsKind v 2 b.number × (b ≡ noted v b.number)
  pub all : (n : ℕ) → IsKind v 2 n → IsBlockOf (noted v n) blocks
