use Rattle.hd_index_blocks.proofs.Dividing.{divided}
use Rattle.hd_index_blocks.proofs.law.law_blocks_may_be_divided.Goals as goal

pub returns : goal.returns
returns g c d l n m p left right h set = divided c d l n m p h left right set
