use Rattle.std.proofs.Common.{◌≡◌, length}
use Rattle.hd_image.specs.Records.{links_of}
use Rattle.hd_check_blocks.specs.DataBlocks.{OfDataBlock}
use Rattle.hd_check_walk.specs.GoingOn.{GoesOn}
use Rattle.hd_check_walk.proofs.beside.walk_block.Given as goal

-- the walk has gone on to the twin behind which it is
abbrev pub invariant-loop-number : goal.invariant-loop-number
invariant-loop-number l = record {
  as_many : length l.holders.items ≡ length l.places;
  goes : OfDataBlock l.dbd l.places l.bytes l.first
      (λ v. GoesOn l.dbd.types (links_of l.dbd.types v) l.places l.code l.fn.from l.fn.holders.items (record { twin = l.twin; next = l.next; near = l.number }) l.holders.items);
}
