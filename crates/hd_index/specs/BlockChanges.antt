-- What a change of the index does to the rest of a volume.
use Rattle.std.specs.Prelude.{◌≡◌, ℕ, ◌+◌, ◌*◌, ◌≤◌}
use Rattle.hd_volume.specs.Headers.{header_of}
use Rattle.hd_volume.specs.Volumes.{VolumeState, block_at, IsKind, HasKinds}
use Rattle.hd_volume.specs.Calls.{KeepsSegments, KeepsHoles}

-- The index has changed: all segments and data blocks stay, no other block has become one for data, the volume has grown by at
-- most so many blocks, before each of which one may have been passed over, and of the header all but the count, the top and the
-- height stay.
pub record IsIndexChange (old : VolumeState) (more : ℕ) (new : VolumeState) : Type 0 where
  pub segments : KeepsSegments old new
  pub data_blocks : (n : ℕ) → IsKind old 1 n → block_at new n ≡ block_at old n
  pub others : (n : ℕ) → IsKind new 1 n → IsKind old 1 n
  pub kinds : HasKinds old → HasKinds new
  pub count : (header_of old.image).count ≤ (header_of new.image).count
  pub grows : (header_of new.image).count ≤ (header_of old.image).count + 2 * more
  pub header : header_of new.image ≡ record (header_of old.image) { count = (header_of new.image).count; top = (header_of new.image).top; height = (header_of new.image).height }
  pub holes : KeepsHoles old new
