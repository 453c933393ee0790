-- Room in a volume: blocks to spare, and holes in data blocks.
use Rattle.std.specs.Prelude.{ℕ, zero, suc, ◌+◌, ◌-◌, ◌≤◌, ◌==◌, ◌&&◌, not, cond, Bool, List, [], ◌∷◌, max}
use Rattle.hd_block.specs.Walk.{parts_in}
use Rattle.hd_block.specs.declared.parts.Part.{Part}
use Rattle.hd_block.specs.declared.parts.Part.TheVariants.{Free, Used}
use Rattle.hd_bytes.specs.Blocks.{block_of}
use Rattle.hd_volume.specs.Headers.{header_of}
use Rattle.hd_volume.specs.Volumes.{VolumeState, block_at, kind_of, IsKind}

-- block n, behind block 0, is free
abbrev pub is_free : ℕ → List ℕ → ℕ → Bool
is_free size image n = not (n == 0) && kind_of (block_of size image n) == 3

-- 1 where it holds, else 0
abbrev pub one_if : Bool → ℕ
one_if holds = cond holds 1 0

-- how many of the first n blocks are free
abbrev pub free_below : ℕ → List ℕ → ℕ → ℕ
free_below size image zero = 0
free_below size image (suc n) = free_below size image n + one_if (is_free size image n)

-- the blocks to spare: those by which the volume may still grow, and the free ones
abbrev pub spare : VolumeState → ℕ
spare v = (header_of v.image).largest - (header_of v.image).count + free_below v.size v.image (header_of v.image).count

-- the length of the largest free element among the parts of a block
abbrev pub largest_hole : List Part → ℕ
largest_hole [] = 0
largest_hole (Free p n ∷ parts) = max n (largest_hole parts)
largest_hole (Used p n ∷ parts) = largest_hole parts

-- some data block has a hole of at least n bytes
pub record HasHole (v : VolumeState) (n : ℕ) : Type 0 where
  pub block : ℕ
  pub is_data : IsKind v 1 block
  pub large : n ≤ largest_hole (parts_in v.sizes (block_at v block))

-- how many blocks are free
abbrev pub free_blocks : VolumeState → ℕ
free_blocks v = free_below v.size v.image (header_of v.image).count

-- some block is free
abbrev pub HasFreeBlock : VolumeState → Type 0
HasFreeBlock v = (n : ℕ) × IsKind v 3 n
