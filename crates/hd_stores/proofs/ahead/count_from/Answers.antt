use Rattle.std.proofs.Common.{◌+◌, ◌*◌, ◌≤◌, arith}
use Rattle.hd_stores.proofs.RunLemmas.{blocks-left}
use Rattle.hd_stores.proofs.ahead.count_from.Goals as goal

pub returns-clause-there : goal.returns-clause-there
returns-clause-there g c more sound =
    let len = c.length.ensures sound in
    let own = c.block_size-size.ensures.value in
    let some = c.block_size-size.ensures.some in
    let all : c.args.n * c.block_size-size.result + c.max.result * c.block_size-size.result ≤ c.length.result =
    blocks-left c.block_size-size.result c.args.n c.max.result c.length.result some (omega arith) (omega arith) in
    rw (own, len) at all
