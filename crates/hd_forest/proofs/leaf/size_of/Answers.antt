use Rattle.std.proofs.Common.{length, arith}
use Rattle.hd_dbd.specs.Segment.{Segment}
use Rattle.hd_dbd.proofs.StoredSizes.{block_size-bounds, stored_size-fits}
use Rattle.hd_dbd.proofs.TypeLengths.{row-size}
use Rattle.hd_prefix.proofs.Sizes.{size_long}
use Rattle.hd_forest.proofs.leaf.size_of.Goals as goal

pub size_with-requires : goal.size_with-requires
size_with-requires c =
    let d = c.args.dbd.now in
    let row : Segment = record { code = c.args.code; bytes = c.args.bytes.now } in
    omega (arith, row-size d.types row c.requires.fits, (size_long d.types c.args.code (length c.args.bytes.now)).0, stored_size-fits d.block_size d.frspc d.types c.args.code c.types.ensures.fit, (block_size-bounds d.block_size d.frspc d.types c.types.ensures.fit).1)

pub returns-clause-bound : goal.returns-clause-bound
returns-clause-bound c =
    let d = c.args.dbd.now in
    let row : Segment = record { code = c.args.code; bytes = c.args.bytes.now } in
    omega (arith, c.size_with.ensures, row-size d.types row c.requires.fits, stored_size-fits d.block_size d.frspc d.types c.args.code c.types.ensures.fit, (block_size-bounds d.block_size d.frspc d.types c.types.ensures.fit).1)
