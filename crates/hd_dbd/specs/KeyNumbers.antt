-- Keys of at most eight bytes, and the numbers that they make.
use Rattle.std.specs.Prelude.{◌≡◌, ℕ, ◌≤◌, List, ◌++◌, length, take, drop, replicate}
use Rattle.std.specs.Int.{from_be_bytes, w64}

-- a key with zeros behind it up to eight bytes
abbrev pub with_zeros : List ℕ → List ℕ
with_zeros key = key ++ drop (length key) (replicate 8 0)

-- A number stands for a key of n bytes, eight at most: it is that of the key with zeros behind it.
pub record IsNumberOf (n : ℕ) (key : List ℕ) (number : ℕ) : Type 0 where
  pub long : length key ≡ n
  pub short : n ≤ 8
  pub is : number ≡ from_be_bytes w64 (take 8 (with_zeros key))
