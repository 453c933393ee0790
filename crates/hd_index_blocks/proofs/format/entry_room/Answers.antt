use Rattle.std.proofs.Common.{◌+◌, arith}
use Rattle.hd_index_blocks.proofs.RoomLemmas.{room-most, room-within}
use Rattle.hd_index_blocks.proofs.format.entry_room.Goals as goal

pub returns-clause-most : goal.returns-clause-most
returns-clause-most c count fits = room-most c.args.key_length c.args.size count fits

pub returns-clause-more : goal.returns-clause-more
returns-clause-more c count low = room-within c.args.key_length c.args.size (count + 1) c.requires.least (omega arith)
