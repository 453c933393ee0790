use Rattle.std.proofs.Common.{arith}
use Rattle.hd_bytes.specs.Numbers.{number_at}
use Rattle.hd_bytes.proofs.NumberLemmas.{number-below}
use Rattle.hd_block.proofs.FrameLemmas.{used-ahead}
use Rattle.hd_block.proofs.LawLemmas.{fill-shrunk}
use Rattle.hd_block.proofs.law.law_segments_shrink.Goals as goal

pub returns : goal.returns
returns c = λ sizes old new xs place n m h u c e some whole less. rw (number-below 2 0 c (let l = used-ahead 8 xs place n u in omega arith)) (fill-shrunk sizes old new 8 (number_at 2 old 0) xs place n m (omega arith) h u c e some whole less)
