-- The load step: a row goes in behind the last row, or a fault says why it may not; and the log of a load.
use Rattle.std.specs.Prelude.{◌≡◌, ℕ, ◌-◌, List, [], ◌∷◌, ◌++◌, map, Bool, true, false, not, ◌&&◌, ◌==◌, nat_lt, cond, Option, Some, None, option_and_then, slice_get}
use Rattle.std.specs.Option.{option_map_or}
use Rattle.std.specs.List.{list_any}
use Rattle.std.specs.Ordering.{nat_cmp, is_eq, is_gt}
use Rattle.std.specs.Cmp.Lexicographic.{slice_cmp}
use Rattle.hd_dbd.specs.declared.answer.Status.{Status}
use Rattle.hd_dbd.specs.declared.answer.Status.TheVariants as status
use Rattle.hd_dbd.specs.declared.answer.LoadFault.{LoadFault}
use Rattle.hd_dbd.specs.declared.answer.LoadFault.TheVariants.{LB, LC, LD, LE}
use Rattle.hd_dbd.specs.Types.{SegmentType}
use Rattle.hd_dbd.specs.Segment.{Segment}
use Rattle.hd_dbd.specs.Hierarchy.{type_of, parent_of}
use Rattle.hd_dbd.specs.Rows.{level, key_of, row_fits, next_path}

-- ---- the load step

-- the path behind some rows that follow a path
abbrev pub path_after : List SegmentType → List Segment → List Segment → List Segment
path_after types path [] = path
path_after types path (r ∷ rows) = path_after types (next_path types path r) rows

-- the last row and its parents, root first
abbrev pub last_path : List SegmentType → List Segment → List Segment
last_path types rows = path_after types [] rows

-- the type of a code has a unique key
abbrev pub has_unique_key : List SegmentType → ℕ → Bool
has_unique_key types c = option_map_or (λ t. option_map_or (λ k. k.unique) t.key false) (type_of types c) false

-- LD: the parent type is not on the path of the last row
abbrev pub lacks_parent : List SegmentType → List Segment → Segment → Bool
lacks_parent types path new = option_map_or (λ p. not (list_any (λ q. q.code == p) path)) (parent_of types new.code) false

-- behind the row before it below its parent, or among the roots: LE after a greater code; LB after an equal unique key, LC
-- after a greater key
abbrev pub order_fault : List SegmentType → Segment → Segment → Option LoadFault
order_fault types before new =
    cond (nat_lt new.code before.code) (Some LE)
    (cond (nat_lt before.code new.code) None
    (cond (has_unique_key types new.code && is_eq (slice_cmp nat_cmp (key_of types before) (key_of types new))) (Some LB)
    (cond (is_gt (slice_cmp nat_cmp (key_of types before) (key_of types new))) (Some LC) None)))

-- why a row may not be loaded behind the last row of a path, if there is a reason
abbrev pub load_fault : List SegmentType → List Segment → Segment → Option LoadFault
load_fault types path new =
    cond (lacks_parent types path new) (Some LD) (option_and_then (λ before. order_fault types before new) (slice_get path (level types new - 1)))

-- the status that says so
abbrev pub status_of_load : LoadFault → Status
status_of_load LB = status.LB
status_of_load LC = status.LC
status_of_load LD = status.LD
status_of_load LE = status.LE

-- ---- the log of a load

-- A row that was loaded, with the image before.
pub record Loading (Image : Type 0) : Type 0 where
  pub before : Image
  pub row : Segment

-- the rows that were loaded
abbrev pub rows_loaded : {Image : Type 0} → List (Loading Image) → List Segment
rows_loaded loadings = map (λ l. l.row) loadings

-- the image before the first of these loadings, or the last image where there is none
abbrev pub image_before : {Image : Type 0} → List (Loading Image) → Image → Image
image_before [] last = last
image_before (l ∷ ls) last = l.before

-- A load from some rows on is legal: each image holds the rows so far, each row has its type's length and may be loaded behind
-- the last, and each image follows by its row from the one before.
abbrev pub IsLegalLoad : {Image : Type 0} → (Image → List Segment → Type 0) → (Image → Segment → Image → Type 0)
    → List SegmentType → List Segment → List (Loading Image) → Image → Type 0
IsLegalLoad Holds Follows types rows [] last = Holds last rows
IsLegalLoad Holds Follows types rows (l ∷ ls) last =
    Holds l.before rows × (row_fits types l.row ≡ true) × (load_fault types (last_path types rows) l.row ≡ None)
    × Follows l.before l.row (image_before ls last)
    × IsLegalLoad Holds Follows types (rows ++ l.row ∷ []) ls last
