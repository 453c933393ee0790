-- What is read of a segment.
use Rattle.std.specs.Prelude.{◌≡◌, ◌≤◌, ◌<◌, ℕ, List, ◌++◌, take, replicate, slice_index, true}
use Rattle.hd_dbd.specs.Types.{SegmentType}
use Rattle.hd_dbd.specs.Hierarchy.{Database}
use Rattle.hd_dbd.specs.Rows.{key_of}
use Rattle.hd_prefix.specs.Fields.{bytes_of, IsWhole}
use Rattle.hd_volume.specs.Volumes.{VolumeState}
use Rattle.hd_links.specs.Links.{Links, segment_at, is_child_type}
use Rattle.hd_image.specs.Records.{links_of, IsVolumeOf}
use Rattle.hd_check_blocks.specs.Lending.{IsLent}
use Rattle.hd_check_walk.specs.declared.segments.Seen.{Seen}

-- all bytes from one place to before another are 0
abbrev pub AreZero : List ℕ → ℕ → ℕ → Type 0
AreZero bytes start end = (i : ℕ) → start ≤ i → i < end → slice_index bytes i ≡ 0

-- the segment names no children
abbrev pub IsChildless : List SegmentType → Links → ℕ → Type 0
IsChildless types m a = (t : ℕ) → is_child_type types (m.code a) t ≡ true → (m.first_child a t ≡ 0) × (m.last_child a t ≡ 0)

-- the fact holds of the records of each volume of the database that lends these bytes of a segment of the code, at the address
abbrev pub OfRead : Database → ℕ → ℕ → List ℕ → (Links → Type 0) → Type 0
OfRead d a code segment fact =
    (v : VolumeState) → IsVolumeOf d v → IsLent d.types v a segment → (links_of d.types v).code a ≡ code → fact (links_of d.types v)

-- where the bytes are a whole segment of the type of a code, the key is that of its row
abbrev pub IsKeyOf : List SegmentType → ℕ → List ℕ → List ℕ → Type 0
IsKeyOf types code segment key = IsWhole types code segment → key ≡ key_of types (record { code = code; bytes = bytes_of types code segment })

-- the first eight bytes of a key, zeros behind a shorter one
abbrev pub key_front : List ℕ → List ℕ
key_front key = take 8 (key ++ replicate 8 0)

-- What is seen of the segment a is what it says, and its delete byte is 0.
pub record IsAsSeen (types : List SegmentType) (m : Links) (seen : Seen) (a : ℕ) : Type 0 where
  pub delete_byte : m.delete_byte a ≡ 0
  pub forward : seen.forward ≡ m.forward a
  pub backward : seen.backward ≡ m.backward a
  pub front : seen.front ≡ key_front (key_of types (segment_at m a))
  pub childless : seen.is_childless ≡ true → IsChildless types m a
