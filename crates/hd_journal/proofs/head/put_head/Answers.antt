use Rattle.std.proofs.Common.{◌∙◌, arith}
use Rattle.hd_bytes.proofs.NumberLemmas.{number-below}
use Rattle.hd_journal.proofs.head.put_head.Goals as goal

pub returns-clause-numbers : goal.returns-clause-numbers
returns-clause-numbers c = record {
  mark_is = number-below 8 0 c.write_u64-5.ensures.changes (omega arith) ∙ number-below 8 0 c.write_u64-4.ensures.changes (omega arith) ∙ number-below 8 0 c.write_u64-3.ensures.changes (omega arith) ∙ number-below 8 0 c.write_u64-2.ensures.changes (omega arith) ∙ number-below 8 0 c.write_u32-2.ensures.changes (omega arith) ∙ number-below 8 0 c.write_u32.ensures.changes (omega arith) ∙ number-below 8 0 c.write_u16.ensures.changes (omega arith) ∙ c.write_u64.ensures.reads_back;
  version_is = number-below 2 8 c.write_u64-5.ensures.changes (omega arith) ∙ number-below 2 8 c.write_u64-4.ensures.changes (omega arith) ∙ number-below 2 8 c.write_u64-3.ensures.changes (omega arith) ∙ number-below 2 8 c.write_u64-2.ensures.changes (omega arith) ∙ number-below 2 8 c.write_u32-2.ensures.changes (omega arith) ∙ number-below 2 8 c.write_u32.ensures.changes (omega arith) ∙ c.write_u16.ensures.reads_back;
  size_is = number-below 4 10 c.write_u64-5.ensures.changes (omega arith) ∙ number-below 4 10 c.write_u64-4.ensures.changes (omega arith) ∙ number-below 4 10 c.write_u64-3.ensures.changes (omega arith) ∙ number-below 4 10 c.write_u64-2.ensures.changes (omega arith) ∙ number-below 4 10 c.write_u32-2.ensures.changes (omega arith) ∙ c.write_u32.ensures.reads_back;
  count_is = number-below 4 14 c.write_u64-5.ensures.changes (omega arith) ∙ number-below 4 14 c.write_u64-4.ensures.changes (omega arith) ∙ number-below 4 14 c.write_u64-3.ensures.changes (omega arith) ∙ number-below 4 14 c.write_u64-2.ensures.changes (omega arith) ∙ c.write_u32-2.ensures.reads_back;
  base_is = number-below 8 18 c.write_u64-5.ensures.changes (omega arith) ∙ number-below 8 18 c.write_u64-4.ensures.changes (omega arith) ∙ number-below 8 18 c.write_u64-3.ensures.changes (omega arith) ∙ c.write_u64-2.ensures.reads_back;
  len_is = number-below 8 26 c.write_u64-5.ensures.changes (omega arith) ∙ number-below 8 26 c.write_u64-4.ensures.changes (omega arith) ∙ c.write_u64-3.ensures.reads_back;
  device_is = number-below 8 34 c.write_u64-5.ensures.changes (omega arith) ∙ c.write_u64-4.ensures.reads_back;
  number_is = c.write_u64-5.ensures.reads_back;
}
