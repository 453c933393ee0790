-- The letters of TYPE of a field.
use Rattle.std.specs.Prelude.{ℕ}
use Rattle.hd_dbd.specs.declared.hierarchy.DataType.{DataType}
use Rattle.hd_dbd.specs.declared.hierarchy.DataType.TheVariants.{Character, Hexadecimal, Packed, Fullword, Halfword}

-- C, X, P, F and H
abbrev pub type_letter : DataType → ℕ
type_letter Character = 67
type_letter Hexadecimal = 88
type_letter Packed = 80
type_letter Fullword = 70
type_letter Halfword = 72
