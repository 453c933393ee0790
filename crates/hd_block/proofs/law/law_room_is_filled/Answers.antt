use Rattle.std.proofs.Common.{arith}
use Rattle.hd_bytes.specs.Numbers.{number_at}
use Rattle.hd_bytes.proofs.NumberLemmas.{number-below}
use Rattle.hd_block.proofs.LawLemmas.{fill-filled, taken-ahead}
use Rattle.hd_block.proofs.law.law_room_is_filled.Goals as goal

pub returns : goal.returns
returns c = λ sizes old new xs place n h u c e. rw (number-below 2 0 c (let l = taken-ahead 8 xs place n u in omega arith)) (fill-filled sizes old new 8 (number_at 2 old 0) xs place n h u c e)
