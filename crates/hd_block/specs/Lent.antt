-- What a contract sees of a `Block`.
use Rattle.std.specs.Prelude.{◌≡◌, ℕ, List}
use Rattle.std.specs.Borrow.{GName}
use Rattle.hd_block.specs.declared.block.Block.{Block}
use Rattle.hd_dbd.specs.declared.facts.SegmentSize.{SegmentSize}

-- the block's bytes
abbrev pub bytes_of : Block → List ℕ
bytes_of b = b.bytes.now

-- the bytes that the segments of each type take, by code
abbrev pub sizes_of : Block → List SegmentSize
sizes_of b = b.sizes.now

-- the ghost name of the reference to the bytes
abbrev pub lender_of : Block → GName
lender_of b = b.bytes.ghost_name

-- two blocks borrow the same bytes, with the same sizes
pub record IsSameBlock (old new : Block) : Type 0 where
  pub lender : lender_of new ≡ lender_of old
  pub sizes : sizes_of new ≡ sizes_of old
