use Rattle.hd_deck.proofs.ReadsBack.{spelling-reads-back}
use Rattle.hd_deck.proofs.law.law_spelling_reads_back.Goals as goal

pub returns : goal.returns
returns c = spelling-reads-back
