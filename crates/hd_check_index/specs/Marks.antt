-- Numbers that stand twice in a list, and marks: what a chain and an index set are judged by.
use Rattle.std.specs.Prelude.{◌≡◌, ℕ, ◌<◌, Bool, true, false, List, length, slice_index, slice_index_or}

-- the number stands twice among these
abbrev pub IsTwice : ℕ → List ℕ → Type 0
IsTwice n names = (i j : ℕ) × (i < j) × (j < length names) × (slice_index names i ≡ n) × (slice_index names j ≡ n)

-- the mark of a number, none past the last
abbrev pub mark_at : List Bool → ℕ → Bool
mark_at marks i = slice_index_or marks i false

-- the marks before one are all made
abbrev pub AreMarkedBefore : ℕ → List Bool → Type 0
AreMarkedBefore i marks = (j : ℕ) → j < i → mark_at marks j ≡ true
