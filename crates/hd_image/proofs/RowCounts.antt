-- The rows of a volume are few.
use Rattle.std.proofs.Common.{◌*◌, ◌<◌, ◌≤◌, length, arith}
use Rattle.std.proofs.lemmas.Nat.{mul-le}
use Rattle.hd_dbd.proofs.StoredSizes.{block_size-bounds}
use Rattle.hd_volume.specs.Headers.{header_of}
use Rattle.hd_links.proofs.Numbers.{rows_addressed}
use Rattle.hd_links.proofs.RowBounds.{fewer_rows}
use Rattle.hd_image.specs.Records.{links_of}
use Rattle.hd_image.specs.Laws.{RowsOfAVolumeAreFew}
use Rattle.hd_image.proofs.Found.{records-link}

-- the rows of a volume are fewer than the bytes of the image, and than 2 to the 32
pub few-rows : RowsOfAVolumeAreFew
few-rows d v f of holds =
    let bounds = block_size-bounds d.block_size d.frspc d.types of.fit in
    let header = of.formatted.header in
    let whole = header.whole in
    let within = header.within in
    let bound = header.bound in
    let size : v.size ≤ 32768 = (let b = bounds.1 in let own = of.size in omega arith) in
    let some : 0 < length v.image = (let first = header.first in let b = bounds.0 in let own = of.size in omega arith) in
    let most : (header_of v.image).count * v.size ≤ 65536 * 32768 = mul-le (header_of v.image).count v.size 65536 32768 (omega arith) size in
    let rows = fewer_rows d.types (length v.image) (links_of d.types v) (records-link d v of.fit of) some f (rows_addressed d.types (links_of d.types v) f holds) in
    (rows, omega arith)
