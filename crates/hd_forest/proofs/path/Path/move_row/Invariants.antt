use Rattle.std.proofs.Common.{◌≡◌, ℕ, ◌<◌, ◌≤◌, List, get_or}
use Rattle.hd_links.specs.Moves.{moved_to}
use Rattle.hd_forest.proofs.path.Path.move_row.Given as goal

-- The addresses before a place name the row at its new address, and those behind are as they were.
pub record MovedUpTo (a b n : ℕ) (old new : List ℕ) : Type 0 where
  pub before : (k : ℕ) → k < n → get_or new k 0 ≡ moved_to a b (get_or old k 0)
  pub behind : (k : ℕ) → n ≤ k → get_or new k 0 ≡ get_or old k 0

abbrev pub invariant-loop-own : goal.invariant-loop-own
invariant-loop-own l = MovedUpTo l.from l.to l.own-index l.initial.own-items l.own-items
