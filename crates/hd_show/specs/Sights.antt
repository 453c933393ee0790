-- What is seen at an address of a volume, whatever the bytes of the volume are.
use Rattle.std.specs.Prelude.{ℕ, ◌/◌, ◌+◌, ◌*◌, Bool, ◌&&◌, nat_le, is_some, cond, List, length, Option, None, Some, option_and_then}
use Rattle.hd_dbd.specs.Types.{SegmentType}
use Rattle.hd_dbd.specs.Hierarchy.{type_of}
use Rattle.hd_dbd.specs.Prefixes.{prefix_length}
use Rattle.hd_dbd.specs.Rows.{key_of}
use Rattle.hd_volume.specs.Volumes.{VolumeState}
use Rattle.hd_volume.specs.Records.{find}
use Rattle.hd_prefix.specs.Fields.{code_of, length_of, bytes_of}
use Rattle.hd_show.specs.declared.seen.Seen.{Seen}

-- a segment as it is seen: the code of its type, and its key, without bytes where the type has none
pub record Sight : Type 0 where
  pub code : ℕ
  pub key : List ℕ

-- what a reader is told of a segment
abbrev pub sight_of : Seen → Sight
sight_of seen = record { code = seen.code; key = seen.key.items }

-- the key of a stored segment of the type of a code
abbrev pub stored_key : List SegmentType → ℕ → List ℕ → List ℕ
stored_key types c segment = key_of types (record { code = c; bytes = bytes_of types c segment })

-- a stored segment of the type of a code has its prefix and all of its own bytes
abbrev pub is_whole : List SegmentType → ℕ → List ℕ → Bool
is_whole types c segment = nat_le (prefix_length types c + length_of types c segment) (length segment)

-- what is seen of a stored segment of a code: nothing where the code has no type, or where the segment has not all of its bytes
abbrev pub sight_by : List SegmentType → ℕ → List ℕ → Option Sight
sight_by types c segment =
    cond (is_some (type_of types c) && is_whole types c segment) (Some (record { code = c; key = stored_key types c segment })) None

-- what is seen of a stored segment
abbrev pub sight_in : List SegmentType → List ℕ → Option Sight
sight_in types segment = sight_by types (code_of segment) segment

-- What is seen at an address: the segment that is one of the parts of a data block there, if the block is a whole one behind block 0.
abbrev pub sight_at : List SegmentType → VolumeState → ℕ → Option Sight
sight_at types v a = cond (nat_le (a / v.size * v.size + v.size) (length v.image)) (option_and_then (sight_in types) (find v a)) None
