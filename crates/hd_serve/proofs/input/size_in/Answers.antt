use Rattle.std.proofs.Common.{arith}
use Rattle.hd_serve.proofs.Frames.{four-spelled}
use Rattle.hd_serve.proofs.input.size_in.Goals as goal

pub returns-clause-spelled : goal.returns-clause-spelled
returns-clause-spelled c = four-spelled c.args.bytes.now c.from_be_bytes.result (λ i. let f = c.type_inv.bytes i in omega arith) c.if-bytes-lt4.false c.from_be_bytes.ensures
