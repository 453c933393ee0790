-- A qualification judged by its text.
use Rattle.std.specs.Prelude.{ℕ, List, [], ◌∷◌, Bool, false, ◌&&◌, ◌||◌, cond, Option, Some, None, option_map, option_and_then}
use Rattle.std.specs.List.{list_any, list_all}
use Rattle.std.specs.Result.{result_ok, result_unwrap_or}
use Rattle.hd_dbd.specs.Types.{SegmentType}
use Rattle.hd_calls.specs.Ssas.{Comparison, ComparisonRead, read_comparison, read_groups, read_qualification, begins_with, is_close}

-- the groups of a text that is a qualification
abbrev pub groups_in : SegmentType → List ℕ → List (List Comparison)
groups_in t text = result_unwrap_or (read_qualification t text) []

-- the groups of a text of fewer than n comparisons
abbrev pub groups_within : SegmentType → ℕ → List ℕ → List (List Comparison)
groups_within t n text = result_unwrap_or (read_groups t n text) []

-- some group passes a test, where the first has begun with this truth
abbrev pub passes_behind : (Comparison → Bool) → Bool → List (List Comparison) → Bool
passes_behind test so_far [] = false
passes_behind test so_far (group ∷ groups) = so_far && list_all test group || list_any (λ g. list_all test g) groups

-- the only element of a list
abbrev pub only_of : {X : Type 0} → List X → Option X
only_of [] = None
only_of (x ∷ []) = Some x
only_of (x ∷ y ∷ xs) = None

-- the comparison of groups that are one group of one comparison
abbrev pub single_of : List (List Comparison) → Option Comparison
single_of groups = option_and_then (λ group. only_of group) (only_of groups)

-- the comparison that a qualification's closing bracket follows
abbrev pub closed_of : ComparisonRead → Option Comparison
closed_of c = cond (begins_with is_close c.behind) (Some c.comparison) None

-- the comparison at the front of a text, where the closing bracket follows it
abbrev pub closed_comparison : SegmentType → List ℕ → Option Comparison
closed_comparison t text = option_and_then closed_of (result_ok (read_comparison t text))

-- the groups of a text that is a qualification of one comparison
abbrev pub single_groups : SegmentType → List ℕ → Option (List (List Comparison))
single_groups t text = option_map (λ c. (c ∷ []) ∷ []) (closed_comparison t text)
