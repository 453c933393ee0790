use Rattle.std.proofs.Common.{arith}
use Rattle.hd_index_blocks.proofs.RoomLemmas.{root-fits}
use Rattle.hd_index_blocks.proofs.format.root_key_length.Goals as goal

pub returns-clause-short : goal.returns-clause-short
returns-clause-short c =
    let d = c.args.dbd.now in
    let fits = root-fits d.block_size d.frspc d.types c.key_length_of_root.ensures.fit in
    let value = c.key_length_of_root.ensures.value in omega arith

pub returns-clause-three : goal.returns-clause-three
returns-clause-three c =
    let d = c.args.dbd.now in
    let fits = root-fits d.block_size d.frspc d.types c.key_length_of_root.ensures.fit in
    let value = c.key_length_of_root.ensures.value in omega arith
