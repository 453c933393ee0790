-- Laws of volumes: on what segments and entries depend.
use Rattle.std.specs.Prelude.{◌≡◌, ℕ, ◌<◌}
use Rattle.hd_volume.specs.Headers.{header_of}
use Rattle.hd_volume.specs.Volumes.{VolumeState, block_at, kind_of, IsKind, IsFormatted}
use Rattle.hd_volume.specs.Records.{find}
use Rattle.hd_volume.specs.Entries.{entries}
use Rattle.hd_volume.specs.Indexes.{HasIndex, index_growth}
use Rattle.hd_volume.specs.Calls.{KeepsIndex}

-- Segments depend on the data blocks alone: where these stay, and no other block has become one, all segments stay.
abbrev pub SegmentsFrame : Type 0
SegmentsFrame =
    (v w : VolumeState) → w.size ≡ v.size → w.sizes ≡ v.sizes
    → ((n : ℕ) → 0 < n → kind_of (block_at v n) ≡ 1 → block_at w n ≡ block_at v n)
    → ((n : ℕ) → 0 < n → kind_of (block_at w n) ≡ 1 → kind_of (block_at v n) ≡ 1)
    → (address : ℕ) → find w address ≡ find v address

-- The index depends on the index blocks, and on the header's top and height, alone: where these stay and no other block has
-- become one, the volume has the same index, which may need as much room.
abbrev pub IndexStays : Type 0
IndexStays =
    (key_length : ℕ) (v w : VolumeState) → HasIndex key_length v → IsFormatted w → w.size ≡ v.size
    → header_of w.image ≡ record (header_of v.image) { count = (header_of w.image).count; first_root = (header_of w.image).first_root; last_root = (header_of w.image).last_root }
    → KeepsIndex v w → ((n : ℕ) → IsKind w 2 n → IsKind v 2 n)
    → HasIndex key_length w × (entries key_length w ≡ entries key_length v) × (index_growth w ≡ index_growth v)
