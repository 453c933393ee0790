-- Which rows satisfy a call.
use Rattle.std.specs.Prelude.{ℕ, ◌+◌, List, length, Bool, true, false, not, ◌&&◌, ◌||◌, ◌==◌, Option, None, is_none, find}
use Rattle.std.specs.Option.{option_map_or, option_eq}
use Rattle.std.specs.List.{list_any, list_all}
use Rattle.std.specs.declared.cmp.Ordering.{Ordering}
use Rattle.std.specs.Ordering.{nat_cmp, is_eq, is_ne, is_lt, is_gt, is_le, is_ge}
use Rattle.std.specs.Cmp.Lexicographic.{slice_cmp}
use Rattle.hd_dbd.specs.Types.{SegmentType}
use Rattle.hd_calls.specs.declared.call.Operator.{Operator}
use Rattle.hd_calls.specs.declared.call.Operator.TheVariants.{Equal, AtLeast, AtMost, Greater, Less, NotEqual}
use Rattle.hd_dbd.specs.Segment.{Segment}
use Rattle.hd_dbd.specs.Hierarchy.{part_of}
use Rattle.hd_dbd.specs.Paths.{row_at, parent_row, path_of, is_twin}
use Rattle.hd_dbd.specs.Letters.{gives_get}
use Rattle.hd_dbd.specs.Views.{Setting, may}
use Rattle.hd_dbd.specs.Searches.{first_from}
use Rattle.hd_calls.specs.Ssas.{Comparison, Ssa, target_code}

-- ---- qualifications

-- what an operator asks of the order of a field's bytes and a value
abbrev pub accepts : Operator → Ordering → Bool
accepts Equal order = is_eq order
accepts AtLeast order = is_ge order
accepts AtMost order = is_le order
accepts Greater order = is_gt order
accepts Less order = is_lt order
accepts NotEqual order = is_ne order

-- a comparison is true of a row where its operator accepts the field's bytes beside the value
abbrev pub is_true_of : List ℕ → Comparison → Bool
is_true_of bytes c = accepts c.operator (slice_cmp nat_cmp (part_of bytes c.field.start c.field.length) c.value)

-- A qualification is true of a row where all comparisons of one of its groups are; a lacking one always is.
abbrev pub qualifies : Ssa → Segment → Bool
qualifies a r = option_map_or (λ groups. list_any (λ group. list_all (λ c. is_true_of r.bytes c) group) groups) a.groups true

-- ---- rows

-- the row of a type on the path of row i
abbrev pub on_path : List SegmentType → List Segment → ℕ → ℕ → Option ℕ
on_path types rows code i = find (λ k. (row_at rows k).code == code) (path_of types rows i)

-- the row of a type on the path of a row, if there is one
abbrev pub on_path_at : List SegmentType → List Segment → ℕ → Option ℕ → Option ℕ
on_path_at types rows code place = option_map_or (λ i. on_path types rows code i) place None

-- row j stands directly below a parent, or among the roots
abbrev pub is_child : List SegmentType → List Segment → Option ℕ → ℕ → Bool
is_child types rows parent j = option_eq (λ p q. p == q) (parent_row types rows j) parent

-- L: no later twin of the row has the qualification
abbrev pub is_last_so : List SegmentType → List Segment → Ssa → ℕ → Bool
is_last_so types rows a i = is_none (first_from (λ j. is_twin types rows i j && qualifies a (row_at rows j)) (i + 1) (length rows))

-- Row i has the qualification of an SSA, and is the last so where the SSA has L and is not the root's.
abbrev pub meets : List SegmentType → List Segment → Ssa → ℕ → Bool
meets types rows a i =
    qualifies a (row_at rows i) && (not a.commands.last || a.code == 1 || is_last_so types rows a i)

-- On the path of row i, the row of the SSA's type meets it.
abbrev pub meets_on_path : List SegmentType → List Segment → ℕ → Ssa → Bool
meets_on_path types rows i a = option_map_or (λ k. meets types rows a k) (on_path types rows a.code i) false

-- Row i is of the last SSA's type, and meets each SSA on its path.
abbrev pub is_named : List SegmentType → List Segment → List Ssa → ℕ → Bool
is_named types rows ssas i =
    (row_at rows i).code == target_code ssas && list_all (λ a. meets_on_path types rows i a) ssas

-- Row i satisfies a call: the SSAs, where there are any, name it, and its type is seen and may be read.
abbrev pub satisfies : Setting → List Segment → List Ssa → ℕ → Bool
satisfies s rows ssas i =
    (length ssas == 0 || is_named s.types rows ssas i) && may s gives_get (row_at rows i).code
