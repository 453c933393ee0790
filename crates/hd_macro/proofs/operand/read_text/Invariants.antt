use Rattle.std.proofs.Common.{◌≡◌, drop}
use Rattle.hd_macro.specs.Operands.{read_text}
use Rattle.hd_macro.specs.Views.{reading_of}
use Rattle.hd_macro.proofs.operand.read_text.Given as goal

abbrev pub invariant-loop-byte : goal.invariant-loop-byte
invariant-loop-byte l = read_text (reading_of l.now) (drop l.byte-index l.piece) ≡ read_text (reading_of l.fn.reading) l.piece
