-- A row: one segment of the hierarchic sequence, by its type's code and its bytes.
use Rattle.std.specs.Prelude.{ℕ, List}

pub record Segment : Type 0 where
  pub code : ℕ
  pub bytes : List ℕ
