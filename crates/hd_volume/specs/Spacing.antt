-- What a volume keeps free as it grows: whole blocks, and bytes in each data block.
use Rattle.std.specs.Prelude.{◌≡◌, ◌≢◌, ◌⊎◌, ℕ, ◌+◌, ◌*◌, ◌/◌, ◌%◌, ◌<◌, ◌≤◌, IsTrue, List, [], ◌∷◌, None}
use Rattle.hd_bytes.specs.Blocks.{HasBlock}
use Rattle.hd_block.specs.Walk.{parts_in}
use Rattle.hd_block.specs.declared.parts.Part.{Part}
use Rattle.hd_block.specs.declared.parts.Part.TheVariants.{Free, Used}
use Rattle.hd_dbd.specs.declared.hierarchy.FreeSpace.{FreeSpace}
use Rattle.hd_dbd.specs.declared.facts.SegmentSize.{SegmentSize}
use Rattle.hd_volume.specs.Headers.{header_of}
use Rattle.hd_volume.specs.Volumes.{VolumeState, block_at, IsKind}
use Rattle.hd_volume.specs.Records.{segment_in}

-- nothing is kept free
abbrev pub no_spacing : FreeSpace
no_spacing = record { fbff = 0; fspf = 0 }

-- a volume that keeps nothing free
abbrev pub IsPlain : VolumeState → Type 0
IsPlain v = v.spacing ≡ no_spacing

-- Block n is to be kept free: its number is a multiple of the first factor, which is at least 2.
abbrev pub IsLeftOut : FreeSpace → ℕ → Type 0
IsLeftOut spacing n = (1 < spacing.fbff) × (n % spacing.fbff ≡ 0)

-- the bytes to be kept free in a data block: so many percent of it as the second factor says, rounded down
abbrev pub bytes_to_leave : ℕ → FreeSpace → ℕ
bytes_to_leave size spacing = size * spacing.fspf / 100

-- the bytes of all free elements among the parts of a block
abbrev pub free_bytes : List Part → ℕ
free_bytes [] = 0
free_bytes (Free p n ∷ parts) = n + free_bytes parts
free_bytes (Used p n ∷ parts) = free_bytes parts

-- a block has no two segments
abbrev pub HasNoTwo : List SegmentSize → List ℕ → Type 0
HasNoTwo sizes block = (p q : ℕ) → segment_in sizes block p ≢ None → segment_in sizes block q ≢ None → p ≡ q

-- a data block has no two segments, or so many bytes free
abbrev pub HasBytesFree : List SegmentSize → ℕ → List ℕ → Type 0
HasBytesFree sizes need block = HasNoTwo sizes block ⊎ (need ≤ free_bytes (parts_in sizes block))

-- What the volume is to keep free is free: these blocks, and so many bytes of each data block that has two segments or more.
pub record HasSpace (v : VolumeState) : Type 0 where
  pub blocks : (n : ℕ) → HasBlock v.size v.image n → 0 < n → IsLeftOut v.spacing n → IsKind v 3 n
  pub bytes : (n : ℕ) → IsKind v 1 n → HasBytesFree v.sizes (bytes_to_leave v.size v.spacing) (block_at v n)

-- So it is as long as the volume may grow by two blocks.
abbrev pub HasLeft : VolumeState → Type 0
HasLeft v = (header_of v.image).count + 2 ≤ (header_of v.image).largest → HasSpace v

-- Where the store is sound, and this is what the volume is to keep free, it is free, as long as the volume may grow by two blocks.
pub record LeavesSpace (spacing : FreeSpace) (v : VolumeState) : Type 0 where
  pub left : IsTrue v.is_sound → v.spacing ≡ spacing → HasLeft v
