-- What callers see of a writer that counts the answers.
use Rattle.std.specs.Prelude.{ℕ, ◌+◌, ◌-◌, ◌^◌, List, min, length, Bool, cond, nat_lt, ◌&&◌, ◌==◌, slice_index_or}

-- one more, at most to the greatest number of 64 bits
abbrev pub one_more : ℕ → ℕ
one_more n = min (n + 1) (2 ^ 64 - 1)

-- the writer behind, and the calls whose lines are written
pub record Answered (W : Type 0) : Type 0 where
  pub inner : W
  pub answered : ℕ

-- whether bytes end in a line feed
abbrev pub ends_line : List ℕ → Bool
ends_line bytes = nat_lt 0 (length bytes) && slice_index_or bytes (length bytes - 1) 0 == 10

-- one call more, if a line ends with these bytes
abbrev pub answered_with : List ℕ → ℕ → ℕ
answered_with bytes n = cond (ends_line bytes) (one_more n) n
