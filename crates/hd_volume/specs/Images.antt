-- Changes of an image of blocks.
use Rattle.std.specs.Prelude.{◌≡◌, ◌≢◌, ℕ, ◌≤◌, List, length}
use Rattle.hd_bytes.specs.Blocks.{block_of, HasBlock}

-- as many bytes, and the same in every block but block n
pub record ChangesBlock (size n : ℕ) (old new : List ℕ) : Type 0 where
  pub len : length new ≡ length old
  pub others : (m : ℕ) → HasBlock size old m → m ≢ n → block_of size new m ≡ block_of size old m

-- the bytes grow no shorter, and block 0, if there is one, stays
pub record KeepsFirst (size : ℕ) (old new : List ℕ) : Type 0 where
  pub len : length old ≤ length new
  pub first : HasBlock size old 0 → block_of size new 0 ≡ block_of size old 0
