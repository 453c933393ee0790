use Rattle.std.proofs.Common.{arith}
use Rattle.hd_bytes.specs.Numbers.{number_at}
use Rattle.hd_block.proofs.LawLemmas.{one-division}
use Rattle.hd_block.proofs.law.law_one_division.Goals as goal

pub returns : goal.returns
returns c = λ sizes bytes xs ys h s i t. one-division sizes bytes 8 (number_at 2 bytes 0) xs ys (omega arith) s t h i
