-- Where ISRT puts a row: its parent, and its place below it.
use Rattle.std.specs.Prelude.{ℕ, List, length, Bool, true, false, not, ◌&&◌, ◌||◌, nat_lt, nat_le, ◌==◌, cond, Option, None, is_none, is_some, unwrap_or}
use Rattle.std.specs.Option.{option_map_or, option_or}
use Rattle.std.specs.List.{list_all}
use Rattle.std.specs.Ordering.{nat_cmp, is_eq, is_gt}
use Rattle.std.specs.Cmp.Lexicographic.{slice_cmp}
use Rattle.hd_dbd.specs.declared.hierarchy.Rule.{Rule}
use Rattle.hd_dbd.specs.declared.hierarchy.Rule.TheVariants.{First, Last, Here}
use Rattle.hd_dbd.specs.Types.{SegmentType}
use Rattle.hd_calls.specs.declared.call.Commands.{Commands}
use Rattle.hd_dbd.specs.Segment.{Segment}
use Rattle.hd_dbd.specs.Hierarchy.{type_of}
use Rattle.hd_dbd.specs.Rows.{key_of}
use Rattle.hd_dbd.specs.Paths.{row_at, end_of}
use Rattle.hd_calls.specs.Ssas.{Ssa}
use Rattle.hd_dbd.specs.Searches.{first_from}
use Rattle.hd_dbd.specs.Loads.{has_unique_key}
use Rattle.hd_calls.specs.Satisfies.{on_path_at, is_child, is_named}

-- ---- the parent

-- an SSA that names no more than a type: neither a qualification nor L
abbrev pub is_plain : Ssa → Bool
is_plain a = is_none a.groups && not a.commands.last

-- the first row that the SSAs name, as by GU, whether it may be read or not; none without SSAs
abbrev pub first_named : List SegmentType → List Segment → List Ssa → Option ℕ
first_named types rows above = cond (length above == 0) None (first_from (is_named types rows above) 0 (length rows))

-- The parent of an inserted row; `code` is the parent's type. With plain SSAs above or none it is the row of that type on the
-- path where the PCB stands, if there is one; else the first that the SSAs above name, if there are any.
abbrev pub insert_parent : List SegmentType → List Segment → Option ℕ → List Ssa → ℕ → Option ℕ
insert_parent types rows standing above code =
    cond (list_all is_plain above)
    (option_or (on_path_at types rows code standing) (first_named types rows above))
    (first_named types rows above)

-- ---- the place

-- a type's rule under F, which overrides HERE
abbrev pub rule_under_first : Rule → Rule
rule_under_first First = First
rule_under_first Last = Last
rule_under_first Here = First

-- a type's rule under command codes: L overrides FIRST and HERE, F overrides HERE; where both stand, L is disregarded
abbrev pub rule_under : Commands → Rule → Rule
rule_under c rule = cond c.first (rule_under_first rule) (cond c.last Last rule)

-- the rule of a type
abbrev pub rule_of : List SegmentType → ℕ → Rule
rule_of types code = option_map_or (λ t. t.rule) (type_of types code) Last

-- row j would be a twin of a new row, of equal key or, without keys, at all
abbrev pub is_equal_twin : List SegmentType → List Segment → Option ℕ → Segment → ℕ → Bool
is_equal_twin types rows parent new j =
    is_child types rows parent j && (row_at rows j).code == new.code
    && is_eq (slice_cmp nat_cmp (key_of types (row_at rows j)) (key_of types new))

-- the type's key is unique, and a twin has the new row's
abbrev pub is_key_taken : List SegmentType → List Segment → Option ℕ → Segment → Bool
is_key_taken types rows parent new =
    has_unique_key types new.code && is_some (first_from (is_equal_twin types rows parent new) 0 (length rows))

-- An equal twin must come after the new row: FIRST all of them, LAST none, HERE the one on which the PCB stands and
-- those behind it, or all where it stands on none.
abbrev pub equal_after : List SegmentType → List Segment → Option ℕ → Option ℕ → Rule → Segment → ℕ → Bool
equal_after types rows parent standing First new j = true
equal_after types rows parent standing Last new j = false
equal_after types rows parent standing Here new j =
    option_map_or (λ i. not (is_equal_twin types rows parent new i) || nat_le i j) standing true

-- Child j must come after the new row: its code is greater, or it is a twin of greater key, or an equal twin that
-- must.
abbrev pub comes_after : List SegmentType → List Segment → Option ℕ → Option ℕ → Rule → Segment → ℕ → Bool
comes_after types rows parent standing rule new j =
    is_child types rows parent j
    && (nat_lt new.code (row_at rows j).code
    || (row_at rows j).code == new.code
    && (is_gt (slice_cmp nat_cmp (key_of types (row_at rows j)) (key_of types new))
    || is_equal_twin types rows parent new j && equal_after types rows parent standing rule new j))

-- where the parent's dependents end, or all rows
abbrev pub end_below : List SegmentType → List Segment → Option ℕ → ℕ
end_below types rows parent = option_map_or (λ q. end_of types rows q) parent (length rows)

-- A new row goes before the first row of its parent, or the first root, that must come after it, or behind all that depends on the
-- parent, or behind all rows.
abbrev pub insertion_point : List SegmentType → List Segment → Option ℕ → Option ℕ → Rule → Segment → ℕ
insertion_point types rows parent standing rule new =
    unwrap_or (first_from (comes_after types rows parent standing rule new) 0 (length rows)) (end_below types rows parent)
