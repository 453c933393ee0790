use Rattle.std.proofs.Common.{◌≡◌, ◌≤◌, length, true, arith}
use Rattle.hd_dbd.specs.Hierarchy.{Database}
use Rattle.hd_dbd.specs.DatabaseRules.{well_formed}
use Rattle.hd_dbd.specs.Prefixes.{size_with, stored_size}
use Rattle.hd_dbd.specs.Rows.{row_fits}
use Rattle.hd_dbd.specs.Segment.{Segment}
use Rattle.hd_dbd.proofs.Fitting.{size_bound, size_fits, types_fit}
use Rattle.hd_dbd.proofs.TypeLengths.{row-size}
use Rattle.std.specs.Prelude.{IsTrue}
use Rattle.hd_changes.proofs.room.row_size.Goals as goal

-- no row takes more than a block has
row_small : (d : Database) (row : Segment) → IsTrue (well_formed d.block_size d.frspc d.types) → row_fits d.types row ≡ true → (size_with d.types row.code (length row.bytes) ≤ 65535) × (length row.bytes ≤ 65535)
row_small d row formed fits =
    let most : size_with d.types row.code (length row.bytes) ≤ stored_size d.types row.code = row-size d.types row fits in
    let bound : stored_size d.types row.code ≤ 65535 = size_bound d.block_size d.types row.code (types_fit d.block_size d.frspc d.types formed) (size_fits d.block_size d.frspc d.types formed) in
    (omega arith, omega arith)

pub size_with-requires : goal.size_with-requires
size_with-requires c =
    let small = row_small c.args.dbd.now (record { code = c.args.code; bytes = c.args.bytes.now }) c.types.ensures.fit c.requires.fits in
    omega (arith, small.1)

pub overflow_cast-result : goal.overflow_cast-result
overflow_cast-result c =
    let small = row_small c.args.dbd.now (record { code = c.args.code; bytes = c.args.bytes.now }) c.types.ensures.fit c.requires.fits in
    omega (arith, small.0, c.size_with.ensures)

pub returns-clause-small : goal.returns-clause-small
returns-clause-small c =
    let small = row_small c.args.dbd.now (record { code = c.args.code; bytes = c.args.bytes.now }) c.types.ensures.fit c.requires.fits in
    omega (arith, small.0, c.size_with.ensures)
