-- What a store in memory holds.
use Rattle.std.specs.Prelude.{ℕ, ◌+◌, ◌*◌, ◌<◌, ◌≤◌, List}

-- the bytes of a block, all bytes in order, and the blocks reserved
pub record Bytes : Type 0 where
  pub size : ℕ
  pub contents : List ℕ
  pub room : ℕ

-- blocks of this size, and capacity for the length and the blocks reserved
pub record HasCapacity (size len room capacity : ℕ) : Type 0 where
  pub some : 0 < size
  pub small : size ≤ 32768
  pub fits : len + room * size ≤ capacity
