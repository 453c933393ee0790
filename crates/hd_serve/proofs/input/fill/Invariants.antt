use Rattle.std.proofs.Common.{◌≡◌, length}
use Rattle.std.specs.Io.KnownBytes.{Keeps, prepend_known}
use Rattle.hd_serve.proofs.input.fill.Given as goal

-- what was read stands behind what was there
abbrev pub invariant-reads : goal.invariant-reads
invariant-reads g l = record {
  kept : Keeps (prepend_known l.fn.bytes.items (g.I.Read.remaining l.fn.input)) (prepend_known l.bytes.items (g.I.Read.remaining l.input));
  room : length l.piece ≡ length l.fn.piece;
}
