-- The fields of a stored segment of the type of code c: its prefix, its own bytes, and padding.
use Rattle.std.specs.Prelude.{◌≡◌, ◌≢◌, ℕ, ◌+◌, ◌-◌, ◌≤◌, ◌<◌, cond, List, ◌∷◌, ◌++◌, length, take, drop, replicate, slice_index}
use Rattle.std.specs.Option.{option_map_or}
use Rattle.hd_bytes.specs.Ranges.{bytes_at}
use Rattle.hd_bytes.specs.Numbers.{number_at}
use Rattle.hd_dbd.specs.Types.{SegmentType}
use Rattle.hd_dbd.specs.Lengths.{length_in}
use Rattle.hd_dbd.specs.Prefixes.{is_backward_kept, prefix_length, size_with}
use Rattle.hd_prefix.specs.declared.pointer.Pointer.{Pointer}
use Rattle.hd_prefix.specs.Pointers.{place_of}

-- the code is the first byte
abbrev pub code_of : List ℕ → ℕ
code_of segment = slice_index segment 0

-- the delete byte is the second
abbrev pub delete_byte_of : List ℕ → ℕ
delete_byte_of segment = slice_index segment 1

-- twin forward is the number in the four bytes behind it, in the segments of every type
abbrev pub twin_forward_of : List ℕ → ℕ
twin_forward_of segment = number_at 4 segment 2

-- a pointer is the number in the four bytes at its place; 0 where it is not kept
abbrev pub pointer_of : List SegmentType → ℕ → Pointer → List ℕ → ℕ
pointer_of types c pointer segment = option_map_or (λ place. number_at 4 segment place) (place_of types c pointer) 0

-- how many bytes a stored segment has of its own: as its type says, or as those behind the prefix do; 0 for no type
abbrev pub length_of : List SegmentType → ℕ → List ℕ → ℕ
length_of types c segment = length_in types c (drop (prefix_length types c) segment)

-- the segment's own bytes stand behind the prefix
abbrev pub bytes_of : List SegmentType → ℕ → List ℕ → List ℕ
bytes_of types c segment = bytes_at segment (prefix_length types c) (length_of types c segment)

-- a stored segment has its prefix and all of its own bytes
abbrev pub IsWhole : List SegmentType → ℕ → List ℕ → Type 0
IsWhole types c segment = prefix_length types c + length_of types c segment ≤ length segment

-- where the twin pointers of the prefix end
abbrev pub twins_end : List SegmentType → ℕ → ℕ
twins_end types c = cond (is_backward_kept types c) 10 6

-- a segment names no children: all bytes of its prefix behind the twin pointers are 0
abbrev pub NamesNoChildren : List SegmentType → ℕ → List ℕ → Type 0
NamesNoChildren types c segment = (i : ℕ) → twins_end types c ≤ i → i < prefix_length types c → slice_index segment i ≡ 0

-- A row as a whole stored segment that stands nowhere yet: its code, delete byte and all pointers 0, its bytes, and 0 up to
-- the size that it takes.
abbrev pub new_segment : List SegmentType → ℕ → List ℕ → List ℕ
new_segment types c bytes =
    c ∷ (replicate (prefix_length types c - 1) 0 ++ (bytes ++ replicate (size_with types c (length bytes) - prefix_length types c - length bytes) 0))

-- A stored segment with other bytes of its own: its prefix, these bytes, and 0 up to the size that they take.
abbrev pub segment_with : List SegmentType → ℕ → List ℕ → List ℕ → List ℕ
segment_with types c segment bytes =
    take (prefix_length types c) segment ++ (bytes ++ replicate (size_with types c (length bytes) - prefix_length types c - length bytes) 0)

-- A pointer of a segment was written: it is the address, and the code, the delete byte, every other pointer and the
-- segment's own bytes are as they were.
pub record IsPointerSet (types : List SegmentType) (c : ℕ) (pointer : Pointer) (address : ℕ) (old new : List ℕ) : Type 0 where
  pub len : length new ≡ length old
  pub is : pointer_of types c pointer new ≡ address
  pub others : (other : Pointer) → other ≢ pointer → pointer_of types c other new ≡ pointer_of types c other old
  pub code : code_of new ≡ code_of old
  pub delete_byte : delete_byte_of new ≡ delete_byte_of old
  pub bytes : bytes_of types c new ≡ bytes_of types c old

-- A segment has other bytes of its own, and the size that they take: the code, the delete byte and every pointer are as they were.
pub record IsSegmentWith (types : List SegmentType) (c : ℕ) (bytes old new : List ℕ) : Type 0 where
  pub size : length new ≡ size_with types c (length bytes)
  pub is : bytes_of types c new ≡ bytes
  pub code : code_of new ≡ code_of old
  pub delete_byte : delete_byte_of new ≡ delete_byte_of old
  pub pointers : (pointer : Pointer) → pointer_of types c pointer new ≡ pointer_of types c pointer old

-- A segment is a row that stands nowhere yet: of the size that the row takes, with the row's code and bytes, and 0 in delete byte
-- and pointers.
pub record IsNewSegment (types : List SegmentType) (c : ℕ) (row segment : List ℕ) : Type 0 where
  pub size : length segment ≡ size_with types c (length row)
  pub code : code_of segment ≡ c
  pub delete_byte : delete_byte_of segment ≡ 0
  pub pointers : (pointer : Pointer) → pointer_of types c pointer segment ≡ 0
  pub bytes : bytes_of types c segment ≡ row
