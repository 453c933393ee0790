-- A stored segment has room for its prefix and its own bytes.
use Rattle.std.proofs.Common.{◌≡◌, ℕ, ◌+◌, ◌≤◌, List, arith, ap, Option}
use Rattle.std.specs.Option.{option_map_or}
use Rattle.hd_dbd.specs.Types.{SegmentType}
use Rattle.hd_dbd.specs.Hierarchy.{type_of}
use Rattle.hd_dbd.specs.Prefixes.{prefix_length, size_with, stored_size}

-- the size of the longest of a type's segments
pub size_is : (types : List SegmentType) (c : ℕ) (o : Option SegmentType) → type_of types c ≡ o
    → stored_size types c ≡ option_map_or (λ t. size_with types c t.length) o 0
size_is types c o is = ap (λ (o : Option SegmentType). option_map_or (λ t. size_with types c t.length) o 0) is

-- a segment takes its prefix and its own bytes, and more than these by fewer than 8
pub size_long : (types : List SegmentType) (c count : ℕ) → (prefix_length types c + count ≤ size_with types c count) × (size_with types c count ≤ prefix_length types c + count + 7)
size_long types c count = (omega arith, omega arith)
