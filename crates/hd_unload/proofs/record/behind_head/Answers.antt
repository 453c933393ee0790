use Rattle.hd_unload.proofs.Spelling.{head-found}
use Rattle.hd_unload.proofs.record.behind_head.Goals as goal

pub returns-then-eq-clause-ok : goal.returns-then-eq-clause-ok
returns-then-eq-clause-ok c = head-found c.args.dbd.now c.args.stream.now _ c.if-stream-lt18.false c.if-eq.ensures c.head_of.ensures
