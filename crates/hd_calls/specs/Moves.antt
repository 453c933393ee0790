-- What a call changes in the rows, and the renumbering: how every PCB's position moves with it.
use Rattle.std.specs.Prelude.{ℕ, ◌+◌, ◌-◌, List, [], ◌∷◌, ◌++◌, length, take, drop, map, Bool, ◌&&◌, ◌==◌, nat_lt, nat_le, cond, Option, Some, None, option_map, option_and_then, slice_set}
use Rattle.std.specs.List.{list_any}
use Rattle.hd_dbd.specs.Types.{SegmentType}
use Rattle.hd_dbd.specs.Segment.{Segment}
use Rattle.hd_dbd.specs.Paths.{row_at, parent_row}
use Rattle.hd_dbd.specs.Positions.{Position}

-- The new bytes of a row.
pub record Rewrite : Type 0 where
  pub number : ℕ
  pub bytes : List ℕ

-- What one call does to the list: nothing, rows that begin at a number, the rows from one number to before
-- another taken out, or rows with new bytes.
pub data Change : Type 0 where
  unchanged : Change
  inserted : ℕ → List Segment → Change
  deleted : ℕ → ℕ → Change
  rewritten : List Rewrite → Change

-- ---- the rows

-- a list with some put in at a number
abbrev pub put_in : {A : Type 0} → ℕ → List A → List A → List A
put_in at_number new xs = take at_number xs ++ new ++ drop at_number xs

-- a list without those from one number to before another
abbrev pub taken_out : {A : Type 0} → ℕ → ℕ → List A → List A
taken_out from to xs = take from xs ++ drop to xs

-- the rows with the new bytes of some of them
abbrev pub rewrite_rows : List Rewrite → List Segment → List Segment
rewrite_rows [] rows = rows
rewrite_rows (w ∷ ws) rows =
    rewrite_rows ws (slice_set rows w.number (record { code = (row_at rows w.number).code; bytes = w.bytes }))

-- the rows behind a change
abbrev pub rows_after : Change → List Segment → List Segment
rows_after unchanged rows = rows
rows_after (inserted p new) rows = put_in p new rows
rows_after (deleted from to) rows = taken_out from to rows
rows_after (rewritten ws) rows = rewrite_rows ws rows

-- ---- the positions

-- k rows at p: a row's number that is p or more rises by k
abbrev pub number_after_insert : ℕ → ℕ → ℕ → ℕ
number_after_insert p k n = cond (nat_le p n) (n + k) n

-- a number of rows passed rises where it is more than p
abbrev pub passed_after_insert : ℕ → ℕ → ℕ → ℕ
passed_after_insert p k n = cond (nat_lt p n) (n + k) n

-- a position behind an insertion of k rows at p
abbrev pub position_after_insert : ℕ → ℕ → Position → Position
position_after_insert p k q = record {
  passed = passed_after_insert p k q.passed;
  standing = option_map (λ n. number_after_insert p k n) q.standing;
  last = q.last;
  parent = option_map (λ n. number_after_insert p k n) q.parent;
  held = map (λ n. number_after_insert p k n) q.held;
}

-- the rows from one number to before another: a row's number behind them falls by so many
abbrev pub number_after_delete : ℕ → ℕ → ℕ → ℕ
number_after_delete from to n = cond (nat_le to n) (n - (to - from)) n

-- the number is one of those taken out
abbrev pub is_inside : ℕ → ℕ → ℕ → Bool
is_inside from to n = nat_le from n && nat_lt n to

-- a number of rows passed that is above the first number and at most the second becomes the first
abbrev pub passed_after_delete : ℕ → ℕ → ℕ → ℕ
passed_after_delete from to n = cond (nat_lt from n && nat_le n to) from (number_after_delete from to n)

-- Who stood inside stands on the parent of the first row taken out, if there is one; a parentage inside ends, and
-- so does a hold with any row inside.
abbrev pub position_after_delete : ℕ → ℕ → Option ℕ → Position → Position
position_after_delete from to above q = record {
  passed = passed_after_delete from to q.passed;
  standing = option_and_then (λ n. cond (is_inside from to n) above (Some (number_after_delete from to n))) q.standing;
  last = q.last;
  parent = option_and_then (λ n. cond (is_inside from to n) None (Some (number_after_delete from to n))) q.parent;
  held = cond (list_any (λ n. is_inside from to n) q.held) [] (map (λ n. number_after_delete from to n) q.held);
}

-- row n gets new bytes, equal ones or not
abbrev pub is_rewritten : List Rewrite → ℕ → Bool
is_rewritten ws n = list_any (λ w. w.number == n) ws

-- a hold of a row that gets new bytes ends
abbrev pub position_after_rewrite : List Rewrite → Position → Position
position_after_rewrite ws q = record q { held = cond (list_any (λ n. is_rewritten ws n) q.held) [] q.held }

-- how a change of these rows moves a PCB's position
abbrev pub position_after : List SegmentType → List Segment → Change → Position → Position
position_after types rows unchanged q = q
position_after types rows (inserted p new) q = position_after_insert p (length new) q
position_after types rows (deleted from to) q = position_after_delete from to (parent_row types rows from) q
position_after types rows (rewritten ws) q = position_after_rewrite ws q
