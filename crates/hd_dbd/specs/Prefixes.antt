-- The prefix of a segment as it is stored: its code, its delete byte and its pointers, of four bytes each. The segment's
-- own bytes follow it, and padding up to a multiple of 8.
use Rattle.std.specs.Prelude.{ℕ, ◌+◌, ◌-◌, ◌*◌, ◌/◌, List, [], ◌∷◌, take, Bool, false, ◌||◌, ◌==◌, cond, sum_by}
use Rattle.std.specs.Option.{option_map_or}
use Rattle.hd_dbd.specs.Types.{SegmentType}
use Rattle.hd_dbd.specs.Hierarchy.{type_of, parent_of}

-- twin backward is kept by the root, and by every other type whose POINTER says so
abbrev pub keeps_backward : ℕ → SegmentType → Bool
keeps_backward c t = c == 1 || t.backward

-- the segments of the type of a code keep twin backward
abbrev pub is_backward_kept : List SegmentType → ℕ → Bool
is_backward_kept types c = option_map_or (λ t. keeps_backward c t) (type_of types c) false

-- the parents of the type's segments keep last child; above a root the header always keeps last root
abbrev pub is_last_kept : List SegmentType → ℕ → Bool
is_last_kept types c = c == 1 || option_map_or (λ t. t.last_pointer) (type_of types c) false

-- code, delete byte, twin forward and, where it is kept, twin backward
abbrev pub twin_part : ℕ → SegmentType → ℕ
twin_part c t = cond (keeps_backward c t) 10 6

-- what a parent keeps for one child type: first child and, where it is kept, last child
abbrev pub child_part : SegmentType → ℕ
child_part t = cond t.last_pointer 8 4

-- the type's parent is the type of this code
abbrev pub is_child_of : ℕ → SegmentType → Bool
is_child_of p t = option_map_or (λ q. q == p) t.parent false

-- what the type of code p keeps for those of these types that are its children
abbrev pub child_parts : ℕ → List SegmentType → ℕ
child_parts p types = sum_by (λ t. cond (is_child_of p t) (child_part t) 0) types

-- the length of a type's prefix
abbrev pub prefix_length : List SegmentType → ℕ → ℕ
prefix_length types c = option_map_or (λ t. twin_part c t + child_parts c types) (type_of types c) 0

-- where in the prefix of its parent the pointers to a type's twins stand; 0 for the root
abbrev pub pointers_at : List SegmentType → ℕ → ℕ
pointers_at types c =
    option_map_or (λ p. option_map_or (λ t. twin_part p t) (type_of types p) 0 + child_parts p (take (c - 1) types)) (parent_of types c) 0

-- of types whose codes begin at c, the codes of the children of the type of code p
abbrev pub children_from : ℕ → ℕ → List SegmentType → List ℕ
children_from p c [] = []
children_from p c (t ∷ ts) = cond (is_child_of p t) (c ∷ children_from p (c + 1) ts) (children_from p (c + 1) ts)

-- the codes of the children of the type of code p, in order
abbrev pub children_of : List SegmentType → ℕ → List ℕ
children_of types p = children_from p 1 types

-- the least multiple of 8 that is not less
abbrev pub rounded_up : ℕ → ℕ
rounded_up n = (n + 7) / 8 * 8

-- the bytes that a segment of the type takes in a block, with so many bytes of its own
abbrev pub size_with : List SegmentType → ℕ → ℕ → ℕ
size_with types c count = rounded_up (prefix_length types c + count)

-- the bytes that the longest segment of the type takes in a block
abbrev pub stored_size : List SegmentType → ℕ → ℕ
stored_size types c = option_map_or (λ t. size_with types c t.length) (type_of types c) 0
