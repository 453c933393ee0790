use Rattle.std.proofs.Common.{arith}
use Rattle.hd_serve.proofs.RequestFrames.{request-right}
use Rattle.hd_serve.proofs.request.read_request.Goals as goal

pub returns-clause-right : goal.returns-clause-right
returns-clause-right c = request-right c.args.limits c.in_ok-request.request c.args.body.now (λ i. let f = c.type_inv.body i in omega arith) c.in_ok-request.ensures.ok
