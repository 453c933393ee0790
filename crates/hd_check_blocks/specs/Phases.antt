-- What the phases of a check find.
use Rattle.std.specs.Prelude.{◌≡◌, ◌≢◌, ◌⊎◌, ℕ, ◌+◌, ◌*◌, ◌<◌, ◌≤◌, List, length, codes, slice_index}
use Rattle.hd_dbd.specs.Hierarchy.{Database}
use Rattle.hd_volume.specs.Headers.{Header, HasHeader, header_of}
use Rattle.hd_volume.specs.Volumes.{VolumeState, block_at, kind_of, IsKind, HasExtents, HasKinds}
use Rattle.hd_image.specs.BlockFaults.{IsKnownVersion, HasFreeElements, IsNoSegment, IsReadTo}
use Rattle.hd_image.specs.Right.{IsKnown}
use Rattle.hd_image.specs.Standing.{Stands, phase_of, ComesBefore}
use Rattle.hd_image.specs.declared.line.Line.{Line}
use Rattle.hd_check_blocks.specs.declared.fault.Fault.{Fault}
use Rattle.hd_image.specs.declared.line.Line.TheVariants.{AnotherDatabase, NoKind, NoVersion, NoVolume, WrongChain, WrongPlace}
use Rattle.hd_volume.specs.declared.load.TheConstants.{MOST_BLOCKS}
use Rattle.hd_dbd.specs.declared.facts.SegmentSize.{SegmentSize}

-- The header counts an image of so many bytes, in blocks of a size: all that it must say but that it is there.
pub record CountsImage (size len : ℕ) (h : Header) : Type 0 where
  pub mark : h.mark ≡ codes "HDVOLUME"
  pub whole : len ≡ h.count * size
  pub within : h.count ≤ h.largest
  pub bound : h.largest ≤ MOST_BLOCKS

-- the header is of the database
abbrev pub IsNamed : Database → Header → Type 0
IsNamed d h = (h.name ≡ d.name) × (h.block_size ≡ d.block_size)

-- What is wrong with a header by itself, the least number first.
abbrev pub IsWrongHeader : Database → ℕ → ℕ → Header → Fault → Type 0
IsWrongHeader d size len h f =
    ((f ≡ record { line = NoVolume; address = 0; other = 0 }) × (CountsImage size len h → ⊥))
    ⊎ (((f ≡ record { line = NoVersion; address = 0; other = h.version }) × CountsImage size len h × (IsKnownVersion d.types h.version → ⊥))
    ⊎ ((f ≡ record { line = AnotherDatabase; address = 0; other = 0 }) × CountsImage size len h × IsKnownVersion d.types h.version × ((h.name ≢ d.name) ⊎ (h.block_size ≢ d.block_size))))

-- a header counts the image, is of a version that is known, and names the database
abbrev pub IsRightHead : Database → ℕ → ℕ → Header → Type 0
IsRightHead d size len h = CountsImage size len h × IsKnownVersion d.types h.version × IsNamed d h

-- The header is one of the database, and of a version that is known.
pub record IsHeaderRight (d : Database) (v : VolumeState) : Type 0 where
  pub header : HasHeader d.block_size v.image
  pub known : IsKnown d (header_of v.image)

-- A block has a kind, and extents where it is one for data.
pub record IsRightBlock (sizes : List SegmentSize) (block : List ℕ) : Type 0 where
  pub kind : (kind_of block ≡ 1) ⊎ ((kind_of block ≡ 2) ⊎ (kind_of block ≡ 3))
  pub divided : kind_of block ≡ 1 → HasExtents sizes block

-- A data block whose chain is right, read from offset 8, comes to a place with neither a free element nor a segment.
abbrev pub IsWrongAt : List SegmentSize → List ℕ → ℕ → Type 0
IsWrongAt sizes block place =
    (places way : List ℕ) × HasFreeElements block places × IsReadTo sizes block places 8 way place × (place < length block) × IsNoSegment sizes block places place

-- What is wrong with a block by itself, which begins at an address.
abbrev pub IsWrongBlock : List SegmentSize → List ℕ → ℕ → Fault → Type 0
IsWrongBlock sizes block first f =
    ((f ≡ record { line = WrongChain; address = first; other = 0 }) × (kind_of block ≡ 1) × ((places : List ℕ) → HasFreeElements block places → ⊥))
    ⊎ (((place : ℕ) × (f ≡ record { line = WrongPlace; address = first + place; other = 0 }) × (kind_of block ≡ 1) × IsWrongAt sizes block place)
    ⊎ ((f ≡ record { line = NoKind; address = first; other = 0 }) × (kind_of block ≢ 1) × (kind_of block ≢ 2) × (kind_of block ≢ 3)))

-- Each block has a kind, and extents where it is one for data.
pub record AreBlocksRight (v : VolumeState) : Type 0 where
  pub divided : (n : ℕ) → IsKind v 1 n → HasExtents v.sizes (block_at v n)
  pub kinds : HasKinds v

-- The fault stands in a volume, and of the faults of its phase none comes before it.
pub record IsLeastOf (d : Database) (v : VolumeState) (phase : ℕ) (fault : Fault) : Type 0 where
  pub of : phase_of fault.line ≡ phase
  pub stands : Stands d v fault.line fault.address fault.other
  pub least : (k : Line) (a o : ℕ) → phase_of k ≡ phase → Stands d v k a o → ComesBefore k a fault.line fault.address → ⊥
