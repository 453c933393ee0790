use Rattle.std.proofs.Common.{◌∙◌, arith}
use Rattle.hd_bytes.proofs.NumberLemmas.{number-below}
use Rattle.hd_journal.proofs.following.put_next.Goals as goal

pub returns-clause-count : goal.returns-clause-count
returns-clause-count c = number-below 4 0 c.write_u64.ensures.changes (omega arith) ∙ c.write_u32.ensures.reads_back
