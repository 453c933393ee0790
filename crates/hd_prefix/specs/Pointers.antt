-- The pointers of a segment: which of them its type keeps, and where they stand in the prefix.
use Rattle.std.specs.Prelude.{◌⊎◌, ℕ, ◌+◌, ◌≤◌, List, Bool, false, ◌&&◌, ◌==◌, cond, Option, Some, None, option_map}
use Rattle.std.specs.Option.{option_map_or}
use Rattle.hd_dbd.specs.Types.{SegmentType}
use Rattle.hd_dbd.specs.Hierarchy.{type_of, parent_of}
use Rattle.hd_dbd.specs.Prefixes.{is_backward_kept, is_last_kept, pointers_at}
use Rattle.hd_prefix.specs.declared.pointer.Pointer.{Pointer}
use Rattle.hd_prefix.specs.declared.pointer.Pointer.TheVariants.{TwinForward, TwinBackward, FirstChild, LastChild}

-- the type of code t is a child type of that of code c
abbrev pub is_child : List SegmentType → ℕ → ℕ → Bool
is_child types c t = option_map_or (λ p. p == c) (parent_of types t) false

-- Where a pointer stands in the prefix of the segments of the type of code c, if they keep it: twin forward behind code and
-- delete byte, twin backward behind it, and behind the twin pointers, for each child type in order, first and last child.
abbrev pub place_of : List SegmentType → ℕ → Pointer → Option ℕ
place_of types c TwinForward = option_map (λ _. 2) (type_of types c)
place_of types c TwinBackward = cond (is_backward_kept types c) (Some 6) None
place_of types c (FirstChild t) = cond (is_child types c t) (Some (pointers_at types t)) None
place_of types c (LastChild t) = cond (is_child types c t && is_last_kept types t) (Some (pointers_at types t + 4)) None

-- two places of pointers have no byte in common
abbrev pub IsApart : ℕ → ℕ → Type 0
IsApart x y = (x + 4 ≤ y) ⊎ (y + 4 ≤ x)
