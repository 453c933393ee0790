use Rattle.std.proofs.Common.{◌≡◌, ◌≤◌}
use Rattle.std.specs.Prelude.{vec_len}
use Rattle.std.specs.Io.KnownBytes.{Consumes}
use Rattle.hd_files.proofs.input.read_whole.Given as goal

-- what was read so far stands in the text
abbrev pub invariant-loop : goal.invariant-loop
invariant-loop g l = record {
  read : Consumes (g.I.Read.remaining l.fn.input) (g.I.Read.remaining l.input) l.text.items;
  few : vec_len l.text ≤ 1073741824;
  room : vec_len l.piece ≡ 65536;
}
