use Rattle.std.proofs.Common.{arith}
use Rattle.hd_bytes.proofs.NumberLemmas.{number-with}
use Rattle.hd_journal.proofs.head.write_u64.Goals as goal

pub returns-clause-reads_back : goal.returns-clause-reads_back
returns-clause-reads_back c =
    rw c.put_u64.ensures (number-with c.args.bytes.now 8 c.args.number c.args.place c.requires (omega arith))
