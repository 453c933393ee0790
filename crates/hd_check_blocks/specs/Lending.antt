-- A segment that a volume lends.
use Rattle.std.specs.Prelude.{◌≡◌, ◌≢◌, ℕ, ◌<◌, List, length}
use Rattle.hd_dbd.specs.Types.{SegmentType}
use Rattle.hd_volume.specs.Volumes.{VolumeState}
use Rattle.hd_prefix.specs.Fields.{code_of, IsWhole}
use Rattle.hd_image.specs.Records.{stored_at}

-- The bytes are those of the segment at an address, which has a type.
pub record IsLent (types : List SegmentType) (v : VolumeState) (a : ℕ) (segment : List ℕ) : Type 0 where
  pub some : a ≢ 0
  pub stored : stored_at v a ≡ segment
  pub typed : code_of segment ≢ 0
  pub two : 1 < length segment
  pub whole : IsWhole types (code_of segment) segment
