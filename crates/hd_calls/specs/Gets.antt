-- The get calls: where they begin to look, which row they find, and where that leaves the PCB.
use Rattle.std.specs.Prelude.{ℕ, ◌+◌, List, [], ◌∷◌, ◌++◌, length, flat_map, filter_map, Bool, not, ◌&&◌, nat_lt, ◌==◌, cond, min, max, fold, Option, Some, None, is_none}
use Rattle.std.specs.Option.{option_map_or}
use Rattle.std.specs.List.{list_all}
use Rattle.hd_dbd.specs.Types.{SegmentType}
use Rattle.hd_dbd.specs.declared.answer.Status.{Status}
use Rattle.hd_dbd.specs.declared.answer.Status.TheVariants.{Blank, GA, GK, GB, GE}
use Rattle.hd_calls.specs.declared.call.GetKind.{GetKind}
use Rattle.hd_calls.specs.declared.call.GetKind.TheVariants.{Unique, Next, NextInParent}
use Rattle.hd_dbd.specs.Segment.{Segment}
use Rattle.hd_dbd.specs.Searches.{first_from}
use Rattle.hd_dbd.specs.Hierarchy.{parent_of}
use Rattle.hd_dbd.specs.Paths.{row_at, level_at, end_of}
use Rattle.hd_dbd.specs.Positions.{Position, Place, at_start}
use Rattle.hd_dbd.specs.Views.{Setting}
use Rattle.hd_dbd.specs.Calls.{Reply, bare, row_reply}
use Rattle.hd_calls.specs.Ssas.{Ssa, above_target}
use Rattle.hd_calls.specs.Satisfies.{on_path, on_path_at, is_child, satisfies}

-- ---- where to begin

-- the first child of a row that is of a type
abbrev pub first_child : List SegmentType → List Segment → ℕ → ℕ → Option ℕ
first_child types rows code q =
    first_from (λ j. (row_at rows j).code == code && is_child types rows (Some q) j) (q + 1) (end_of types rows q)

-- F, but at the root: the first child of the SSA's type below the row of its parent type on the path where the PCB stands
abbrev pub first_occurrence : List SegmentType → List Segment → Option ℕ → Ssa → Option ℕ
first_occurrence types rows standing a =
    cond (a.commands.first && not (a.code == 1))
    (option_map_or (λ p. option_map_or (λ q. first_child types rows a.code q) (on_path_at types rows p standing) None)
    (parent_of types a.code) None) None

-- a start of a search, lowered by each SSA with F
abbrev pub lowered_start : List SegmentType → List Segment → Option ℕ → List Ssa → ℕ → ℕ
lowered_start types rows standing ssas begin =
    fold (λ b a. option_map_or (λ j. min b j) (first_occurrence types rows standing a) b) begin ssas

-- the row behind the parent
abbrev pub behind_parent : Position → ℕ
behind_parent p = option_map_or (λ q. q + 1) p.parent 0

-- GU looks from the first row on; GN from the rows passed on, lowered by F; GNP likewise, but never before the row behind the parent.
abbrev pub search_start : List SegmentType → List Segment → Position → GetKind → List Ssa → ℕ
search_start types rows p Unique ssas = 0
search_start types rows p Next ssas = lowered_start types rows p.standing ssas p.passed
search_start types rows p NextInParent ssas =
    max (lowered_start types rows p.standing ssas (max p.passed (behind_parent p))) (behind_parent p)

-- GU and GN look up to the last row, GNP up to the last dependent of the parent.
abbrev pub search_end : List SegmentType → List Segment → Position → GetKind → ℕ
search_end types rows p Unique = length rows
search_end types rows p Next = length rows
search_end types rows p NextInParent = option_map_or (λ q. end_of types rows q) p.parent 0

-- the least row from the start of the search on that satisfies
abbrev pub sought : Setting → List Segment → Position → GetKind → List Ssa → Option ℕ
sought s rows p kind ssas =
    first_from (satisfies s rows ssas) (search_start s.types rows p kind ssas) (search_end s.types rows p kind)

-- ---- what is found

-- the D rows of the SSAs above the last, and the row itself
abbrev pub path_rows : List SegmentType → List Segment → List Ssa → ℕ → List ℕ
path_rows types rows ssas i =
    filter_map (λ a. cond a.commands.path (on_path types rows a.code i) None) (above_target ssas) ++ i ∷ []

-- the bytes of some rows, joined
abbrev pub bytes_of : List Segment → List ℕ → List ℕ
bytes_of rows numbers = flat_map (λ k. (row_at rows k).bytes) numbers

-- GA where the row's level is less than that of the row last returned or inserted, GK where it is the same and the type another
abbrev pub crossing : Option Place → ℕ → ℕ → Status
crossing None level code = Blank
crossing (Some p) level code = cond (nat_lt level p.level) GA (cond (level == p.level && not (code == p.code)) GK Blank)

-- only GN and GNP without an SSA tell of a crossing
abbrev pub get_status : List SegmentType → List Segment → Position → GetKind → List Ssa → ℕ → Status
get_status types rows p Unique ssas i = Blank
get_status types rows p Next ssas i = cond (length ssas == 0) (crossing p.last (level_at types rows i) (row_at rows i).code) Blank
get_status types rows p NextInParent ssas i = cond (length ssas == 0) (crossing p.last (level_at types rows i) (row_at rows i).code) Blank

-- GU and GN make the row the parent; GNP leaves parentage
abbrev pub parent_after : GetKind → Position → ℕ → Option ℕ
parent_after Unique p i = Some i
parent_after Next p i = Some i
parent_after NextInParent p i = p.parent

-- A get leaves its PCB behind the row, on it, and holding what it returned where it is a hold form.
abbrev pub onto : List SegmentType → List Segment → Position → GetKind → Bool → List ℕ → ℕ → Position
onto types rows p kind hold taken i = record {
  passed = i + 1;
  standing = Some i;
  last = Some (record { level = level_at types rows i; code = (row_at rows i).code });
  parent = parent_after kind p i;
  held = cond hold taken [];
}

-- the position as it was, with no row held
abbrev pub unheld : Position → Position
unheld p = record p { held = [] }

-- Where no row satisfies, GU and GNP answer GE. So does GN where an SSA is qualified; else it answers GB, and the PCB is back at
-- the start.
abbrev pub get_missing : Position → GetKind → List Ssa → Reply × Position
get_missing p Unique ssas = (bare GE, unheld p)
get_missing p Next ssas = cond (list_all (λ a. is_none a.groups) ssas) (bare GB, at_start) (bare GE, unheld p)
get_missing p NextInParent ssas = (bare GE, unheld p)

-- a row that satisfies is answered with its path's D rows, and the PCB stands on it
abbrev pub get_found : Setting → List Segment → Position → GetKind → Bool → List Ssa → ℕ → Reply × Position
get_found s rows p kind hold ssas i =
    let taken : List ℕ = path_rows s.types rows ssas i in
    (row_reply s rows i (get_status s.types rows p kind ssas i) (bytes_of rows taken), onto s.types rows p kind hold taken i)

-- what GU, GN, GNP and their hold forms answer, and where they leave the PCB
abbrev pub get_step : Setting → List Segment → Position → GetKind → Bool → List Ssa → Reply × Position
get_step s rows p kind hold ssas =
    option_map_or (λ i. get_found s rows p kind hold ssas i) (sought s rows p kind ssas) (get_missing p kind ssas)
