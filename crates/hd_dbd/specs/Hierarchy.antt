-- The types of a database. A type's code is its place in the list, from 1; the first is the root.
use Rattle.std.specs.Prelude.{ℕ, zero, suc, ◌+◌, ◌-◌, List, [], ◌∷◌, ◌++◌, take, drop, max, Bool, false, ◌||◌, ◌==◌, cond, Option, None, option_and_then, slice_get, slice_index}
use Rattle.std.specs.Option.{option_map_or}
use Rattle.hd_dbd.specs.declared.hierarchy.FreeSpace.{FreeSpace}
use Rattle.hd_dbd.specs.Types.{SegmentType}

-- What callers see of a database.
pub record Database : Type 0 where
  pub name : List ℕ
  pub block_size : ℕ
  pub frspc : FreeSpace
  pub types : List SegmentType

-- the type of a code
abbrev pub type_of : List SegmentType → ℕ → Option SegmentType
type_of types c = cond (c == 0) None (slice_get types (c - 1))

-- the code of the type's parent
abbrev pub parent_of : List SegmentType → ℕ → Option ℕ
parent_of types c = option_and_then (λ t. t.parent) (type_of types c)

-- For each type, what the types from the root down to it weigh together.
abbrev pub weights_from : (SegmentType → ℕ) → List ℕ → List SegmentType → List ℕ
weights_from weight so_far [] = so_far
weights_from weight so_far (t ∷ ts) =
    weights_from weight (so_far ++ (weight t + option_map_or (λ p. slice_index so_far (p - 1)) t.parent 0) ∷ []) ts

-- the same from no type on
abbrev pub weights : (SegmentType → ℕ) → List SegmentType → List ℕ
weights weight types = weights_from weight [] types

-- the levels of the types: in a well-formed list the root's is 1, and every other type's is one more than its parent's
abbrev pub levels_of : List SegmentType → List ℕ
levels_of types = weights (λ _. 1) types

-- the level of the type of a code, 0 where there is none
abbrev pub level_of : List SegmentType → ℕ → ℕ
level_of types c = cond (c == 0) 0 (slice_index (levels_of types) (c - 1))

-- one of the next n types above a type is the other
abbrev pub is_under_within : List SegmentType → ℕ → ℕ → ℕ → Bool
is_under_within types zero c above = false
is_under_within types (suc n) c above = option_map_or (λ p. p == above || is_under_within types n p above) (parent_of types c) false

-- the type stands below the other, at any level: fewer types than its level says stand above it
abbrev pub is_under : List SegmentType → ℕ → ℕ → Bool
is_under types c above = is_under_within types (level_of types c) c above

-- the greatest of some numbers
abbrev pub greatest : List ℕ → ℕ
greatest [] = 0
greatest (x ∷ xs) = max x (greatest xs)

-- the bytes that the longest path from a root down takes
abbrev pub longest_path : List SegmentType → ℕ
longest_path types = greatest (weights (λ t. t.length) types)

-- so many bytes of a segment, from a place that counts from 1
abbrev pub part_of : List ℕ → ℕ → ℕ → List ℕ
part_of bytes start count = take count (drop (start - 1) bytes)

-- a type's key in a segment: no bytes where it has none
abbrev pub key_in : SegmentType → List ℕ → List ℕ
key_in t bytes = option_map_or (λ k. part_of bytes k.start k.length) t.key []
