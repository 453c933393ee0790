-- How the calls that change a volume move all that is kept of its PCBs.
use Rattle.std.specs.Prelude.{ℕ, ◌-◌, List, [], ◌∷◌, map, slice_set}
use Rattle.hd_position.specs.Kept.{Kept, without_hold, after_rewrite, without_row, moved_row}
use Rattle.hd_update.specs.States.{kept_of}
use Rattle.hd_update.specs.declared.replaced.ReplacedRow.{ReplacedRow}

-- these rows got new bytes, one after the other: a hold of one of them ends, and the path names it where it stands then
abbrev pub after_rewrites : List ReplacedRow → Kept → Kept
after_rewrites [] k = k
after_rewrites (r ∷ rs) k = after_rewrites rs (moved_row r.from r.to (after_rewrite r.from k))

-- what is kept of all PCBs, where these rows got new bytes
abbrev pub all_after_rewrites : List ReplacedRow → List Kept → List Kept
all_after_rewrites rows kept = map (λ k. after_rewrites rows k) kept

-- what is kept of all PCBs, where the span of the row at an address, of a level, was taken out
abbrev pub all_without_row : ℕ → ℕ → List ℕ → List Kept → List Kept
all_without_row a level before kept = map (λ k. without_row a level before k) kept

-- what is kept of all PCBs, where that of a number holds no row any more
abbrev pub unheld_at : ℕ → List Kept → List Kept
unheld_at number kept = slice_set kept (number - 1) (without_hold (kept_of kept number))
