use Rattle.hd_dbd.proofs.LevelLaw.{leveled}
use Rattle.hd_dbd.proofs.InSequence.{in_sequence, sequence_valid}
use Rattle.hd_dbd.proofs.law.law_valid_rows_are_in_sequence.Goals as goal

pub returns : goal.returns
returns c block_size frspc types rows formed =
    let levels = leveled block_size frspc types formed in
    (λ valid. in_sequence types levels rows valid, λ ordered. sequence_valid types levels rows ordered)
