-- The bytes of an answer: the concatenated key and the I/O area, and how many bytes the area may take.
use Rattle.std.specs.Prelude.{ℕ, List}

pub record Buffer : Type 0 where
  pub key : List ℕ
  pub area : List ℕ
  pub room : ℕ

-- the bytes of a key of 255 bytes on each of 15 levels, and of one more
abbrev pub KEY_ROOM : ℕ
KEY_ROOM = 4080
