use Rattle.std.proofs.Common.{List, [], ap, sym, ◌∙◌, refl, None}
use Rattle.std.proofs.lemmas.List.{append-nil}
use Rattle.hd_dbd.specs.Segment.{Segment}
use Rattle.hd_dbd.specs.Rows.{valid}
use Rattle.hd_dbd.specs.Forest.{sequence}
use Rattle.hd_dbd.proofs.LevelLaw.{leveled}
use Rattle.hd_dbd.proofs.Sequences.{walk}
use Rattle.hd_dbd.proofs.law.law_sequences_are_valid.Goals as goal

pub returns : goal.returns
returns c block_size frspc types f formed fits =
    ap (λ (rows : List Segment). valid types rows) (sym (append-nil (sequence f)))
    ∙ (walk types (leveled block_size frspc types formed) f [] [] [] None None refl tt refl fits).1
