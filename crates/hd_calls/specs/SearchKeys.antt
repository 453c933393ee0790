-- Keys that are past what a qualification asks of them.
use Rattle.std.specs.Prelude.{ℕ, List, Bool, false, ◌&&◌, ◌==◌}
use Rattle.std.specs.Option.{option_map_or}
use Rattle.std.specs.List.{list_all, list_any}
use Rattle.std.specs.declared.cmp.Ordering.{Ordering}
use Rattle.std.specs.Ordering.{nat_cmp, is_gt, is_ge}
use Rattle.std.specs.Cmp.Lexicographic.{slice_cmp}
use Rattle.hd_dbd.specs.declared.hierarchy.Key.{Key}
use Rattle.hd_dbd.specs.Types.{SegmentType}
use Rattle.hd_dbd.specs.Segment.{Segment}
use Rattle.hd_dbd.specs.Hierarchy.{type_of, part_of}
use Rattle.hd_calls.specs.declared.call.Operator.{Operator}
use Rattle.hd_calls.specs.declared.call.Operator.TheVariants.{Equal, AtLeast, AtMost, Greater, Less, NotEqual}
use Rattle.hd_calls.specs.Ssas.{Comparison, Ssa}

-- the operator accepts neither a field in this order to its value nor a greater one
abbrev pub refuses_from : Operator → Ordering → Bool
refuses_from Equal order = is_gt order
refuses_from AtMost order = is_gt order
refuses_from Less order = is_ge order
refuses_from AtLeast order = false
refuses_from Greater order = false
refuses_from NotEqual order = false

-- the comparison's field is the whole key
abbrev pub is_of_key : Key → Comparison → Bool
is_of_key k c = c.field.start == k.start && c.field.length == k.length

-- the comparison is of the whole key, and is true neither of these bytes nor of any with a greater key
abbrev pub is_comparison_past : Key → List ℕ → Comparison → Bool
is_comparison_past k bytes c =
    is_of_key k c && refuses_from c.operator (slice_cmp nat_cmp (part_of bytes c.field.start c.field.length) c.value)

-- each group has such a comparison
abbrev pub are_groups_past : Key → List ℕ → List (List Comparison) → Bool
are_groups_past k bytes groups = list_all (λ group. list_any (λ c. is_comparison_past k bytes c) group) groups

-- The key of a segment's bytes is past what an SSA of its type asks: the type has a key, the SSA a qualification, and each of its
-- groups a comparison of the key that is past.
abbrev pub is_key_past : SegmentType → Ssa → List ℕ → Bool
is_key_past t a bytes = option_map_or (λ k. option_map_or (λ groups. are_groups_past k bytes groups) a.groups false) t.key false

-- the SSA is of the row's type, and the row's key is past what it asks
abbrev pub is_ssa_past : List SegmentType → Segment → Ssa → Bool
is_ssa_past types r a = a.code == r.code && option_map_or (λ t. is_key_past t a r.bytes) (type_of types r.code) false

-- the row's key is past what some SSA of its type asks
abbrev pub is_past : List SegmentType → List Ssa → Segment → Bool
is_past types ssas r = list_any (λ a. is_ssa_past types r a) ssas
