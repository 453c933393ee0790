use Rattle.hd_block.proofs.LawLemmas.{used-apart}
use Rattle.hd_block.proofs.law.law_segments_are_apart.Goals as goal

pub returns : goal.returns
returns c = λ xs p n q m u v. used-apart 8 xs p n q m u v
