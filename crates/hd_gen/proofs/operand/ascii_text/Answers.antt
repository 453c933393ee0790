use Rattle.std.proofs.Common.{sym}
use Rattle.hd_gen.proofs.Ascii.{ascii_is_utf8}
use Rattle.hd_gen.proofs.operand.ascii_text.Goals as goal

-- src/operand.rt:295:1
pub returns-in-Err : goal.returns-in-Err
returns-in-Err c = absurd (c.in-Err.ensures.cases.0 (ascii_is_utf8 c.args.letters.now (sym c.if-not-is_ascii.ensures)))
