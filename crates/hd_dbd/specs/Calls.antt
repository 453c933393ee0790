-- What a call hands over, and what it answers.
use Rattle.std.specs.Prelude.{ℕ, List, [], Option, None, option_map}
use Rattle.hd_dbd.specs.declared.answer.Status.{Status}
use Rattle.hd_dbd.specs.Segment.{Segment}
use Rattle.hd_dbd.specs.Hierarchy.{type_of}
use Rattle.hd_dbd.specs.Paths.{row_at, level_at, path_of, keys_of}
use Rattle.hd_dbd.specs.Views.{Setting}

-- What a program hands over: the function in four bytes, the segment search arguments, and the I/O area.
pub record CallText : Type 0 where
  pub function : List ℕ
  pub ssas : List (List ℕ)
  pub area : List ℕ

-- What a call answers. Level, name and key are of the row that is given, if one is; the area is empty but for gets.
pub record Reply : Type 0 where
  pub status : Status
  pub level : ℕ
  pub segment : Option (List ℕ)
  pub key : List ℕ
  pub area : List ℕ

-- a status that gives no row
abbrev pub bare : Status → Reply
bare status = record { status = status; level = 0; segment = None; key = []; area = [] }

-- the answer that gives a row: its level, its type's name, its concatenated key, and an area
abbrev pub row_reply : Setting → List Segment → ℕ → Status → List ℕ → Reply
row_reply s rows i status area = record {
  status = status;
  level = level_at s.types rows i;
  segment = option_map (λ t. t.name) (type_of s.types (row_at rows i).code);
  key = keys_of s.types rows (path_of s.types rows i);
  area = area;
}
