-- What can be wrong with a volume's header and blocks: one word for each line of the fault table, with where the fault stands
-- and what else it names, 0 where it names nothing.
use Rattle.std.specs.Prelude.{◌≡◌, ◌≢◌, ◌⊎◌, ℕ, ◌+◌, ◌*◌, ◌%◌, ◌<◌, ◌≤◌, List, [], ◌∷◌, length, false}
use Rattle.hd_block.specs.Extents.{IsFreeElement}
use Rattle.hd_bytes.specs.Blocks.{HasBlock}
use Rattle.hd_bytes.specs.Numbers.{number_at}
use Rattle.hd_dbd.specs.Types.{SegmentType}
use Rattle.hd_dbd.specs.Hierarchy.{Database}
use Rattle.hd_dbd.specs.Lengths.{some_vary}
use Rattle.hd_volume.specs.declared.header.TheConstants.{NEWEST_VERSION}
use Rattle.hd_volume.specs.Headers.{header_of, HasHeader}
use Rattle.hd_volume.specs.Volumes.{VolumeState, block_at, kind_of, IsKind}
use Rattle.hd_volume.specs.Indexes.{IsAmong}
use Rattle.hd_dbd.specs.declared.facts.SegmentSize.{SegmentSize}
use Rattle.hd_block.specs.Sizes.{size_at}

-- ---- phase 1: the header

-- 1: there is no header, or it does not count the image's blocks
abbrev pub IsNoVolume : Database → VolumeState → ℕ → ℕ → Type 0
IsNoVolume d v address other = (HasHeader d.block_size v.image → ⊥) × (address ≡ 0) × (other ≡ 0)

-- a version that is known: the newest, and where no segments vary also 1, where the index is a chain, and 2
abbrev pub IsKnownVersion : List SegmentType → ℕ → Type 0
IsKnownVersion types version = (version ≡ NEWEST_VERSION) ⊎ ((some_vary types ≡ false) × ((version ≡ 1) ⊎ (version ≡ 2)))

-- 2: its version is not known
abbrev pub IsOfNoVersion : Database → VolumeState → ℕ → ℕ → Type 0
IsOfNoVersion d v address other = (IsKnownVersion d.types (header_of v.image).version → ⊥) × (address ≡ 0) × (other ≡ (header_of v.image).version)

-- 3: it is of another database
abbrev pub IsOfAnother : Database → VolumeState → ℕ → ℕ → Type 0
IsOfAnother d v address other = (((header_of v.image).name ≢ d.name) ⊎ ((header_of v.image).block_size ≢ d.block_size)) × (address ≡ 0) × (other ≡ 0)

-- ---- phase 2: the blocks

-- A free element of as many bytes as it says stands at a place of a block, which is a multiple of 8, and ends within the block.
pub record IsElementAt (block : List ℕ) (place : ℕ) : Type 0 where
  pub whole : place % 8 ≡ 0
  pub within : place + number_at 2 block (place + 2) ≤ length block
  pub element : IsFreeElement block place (number_at 2 block (place + 2))

-- From the number that names the first, the free elements of a block are at these places, each past the end of the one before.
abbrev pub AreFreeElements : List ℕ → ℕ → ℕ → List ℕ → Type 0
AreFreeElements block end next [] = next ≡ 0
AreFreeElements block end next (place ∷ places) =
    (next ≡ place) × (end < place) × IsElementAt block place
    × AreFreeElements block (place + number_at 2 block (place + 2)) (number_at 2 block place) places

-- the free elements of a data block, as its first two bytes name them, from offset 8 on
abbrev pub HasFreeElements : List ℕ → List ℕ → Type 0
HasFreeElements block places = AreFreeElements block 7 (number_at 2 block 0) places

-- 4: the chain of free elements of a data block is wrong
abbrev pub IsWrongChain : VolumeState → ℕ → ℕ → Type 0
IsWrongChain v address other =
    (n : ℕ) × IsKind v 1 n × ((places : List ℕ) → HasFreeElements (block_at v n) places → ⊥) × (address ≡ n * v.size) × (other ≡ 0)

-- no free element begins at a place, and none of the segments that may be there ends within the block and before the next free element
pub record IsNoSegment (sizes : List SegmentSize) (block places : List ℕ) (place : ℕ) : Type 0 where
  pub apart : IsAmong place places → ⊥
  pub fits : 0 < size_at sizes block place → place + size_at sizes block place ≤ length block
      → ((next : ℕ) → IsAmong next places → place < next → place + size_at sizes block place ≤ next) → ⊥

-- a free element or a segment stands at a place, and so many bytes behind it is another place
pub record IsStep (sizes : List SegmentSize) (block places : List ℕ) (place next : ℕ) : Type 0 where
  pub some : place < length block
  pub right : IsNoSegment sizes block places place → ⊥
  pub free : IsAmong place places → next ≡ place + number_at 2 block (place + 2)
  pub used : (IsAmong place places → ⊥) → next ≡ place + size_at sizes block place

-- a block that is read from one place on comes to another, by way of these
abbrev pub IsReadTo : List SegmentSize → List ℕ → List ℕ → ℕ → List ℕ → ℕ → Type 0
IsReadTo sizes block places from [] place = from ≡ place
IsReadTo sizes block places from (next ∷ way) place = IsStep sizes block places from next × IsReadTo sizes block places next way place

-- 5: a data block whose chain is right, read from offset 8, comes to a place with neither a free element nor a segment
abbrev pub IsWrongPlace : VolumeState → ℕ → ℕ → Type 0
IsWrongPlace v address other =
    (n place : ℕ) × (places way : List ℕ) × IsKind v 1 n × HasFreeElements (block_at v n) places × IsReadTo v.sizes (block_at v n) places 8 way place
    × (place < length (block_at v n)) × IsNoSegment v.sizes (block_at v n) places place × (address ≡ n * v.size + place) × (other ≡ 0)

-- 19: a block is of no kind
abbrev pub IsOfNoKind : VolumeState → ℕ → ℕ → Type 0
IsOfNoKind v address other =
    (n : ℕ) × HasBlock v.size v.image n × (0 < n) × (kind_of (block_at v n) ≢ 1) × (kind_of (block_at v n) ≢ 2) × (kind_of (block_at v n) ≢ 3)
    × (address ≡ n * v.size) × (other ≡ 0)
