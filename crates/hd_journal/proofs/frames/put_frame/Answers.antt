use Rattle.std.proofs.Common.{◌∙◌, arith}
use Rattle.hd_bytes.proofs.NumberLemmas.{number-below}
use Rattle.hd_journal.proofs.frames.put_frame.Goals as goal

pub returns-clause-number : goal.returns-clause-number
returns-clause-number c = number-below 4 0 c.write_bytes.ensures.changes (omega arith) ∙ c.write_u32.ensures.reads_back
