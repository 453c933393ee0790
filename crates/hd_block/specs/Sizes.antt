-- The bytes that a segment takes in a block: as many as its type's segments take, or as many as it says itself.
use Rattle.std.specs.Prelude.{ℕ, ◌+◌, ◌&&◌, nat_le, cond, List, slice_index, slice_index_or}
use Rattle.hd_bytes.specs.Numbers.{number_at}
use Rattle.hd_dbd.specs.Prefixes.{rounded_up}
use Rattle.hd_dbd.specs.declared.facts.SegmentSize.{SegmentSize}
use Rattle.hd_dbd.specs.declared.facts.SegmentSize.TheVariants.{Fixed, Varying}

-- The bytes that a segment takes which says how many bytes stand behind its prefix: 0, and it is none, where these are fewer than
-- the two that say so, fewer than the least, or more than the most.
abbrev pub size_said : (prefix least most said : ℕ) → ℕ
size_said prefix least most said = cond (nat_le 2 said && nat_le least said && nat_le said most) (rounded_up (prefix + said)) 0

-- the bytes that the segment at a place takes, where segments of its type take these
abbrev pub size_by : SegmentSize → List ℕ → ℕ → ℕ
size_by (Fixed n) bytes place = n
size_by (Varying prefix least most) bytes place = size_said prefix least most (number_at 2 bytes (place + prefix))

-- the bytes that the segment at a place takes, by the code in its first byte; 0 where no segment is there
abbrev pub size_at : List SegmentSize → List ℕ → ℕ → ℕ
size_at sizes bytes place = size_by (slice_index_or sizes (slice_index bytes place) (Fixed 0)) bytes place
