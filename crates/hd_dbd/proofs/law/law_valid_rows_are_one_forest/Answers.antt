use Rattle.std.proofs.Common.{[], sym, ◌∙◌, None}
use Rattle.std.proofs.lemmas.List.{append-nil}
use Rattle.hd_dbd.specs.Forest.{sequence}
use Rattle.hd_dbd.proofs.LevelLaw.{leveled}
use Rattle.hd_dbd.proofs.Forests.{valid_forest, one_forest}
use Rattle.hd_dbd.proofs.law.law_valid_rows_are_one_forest.Goals as goal

pub returns : goal.returns
returns c block_size frspc types rows formed valid =
    let levels = leveled block_size frspc types formed in
    let f = valid_forest types levels rows valid in (
      f.0,
      f.1,
      f.2,
      λ g fits is. (one_forest types levels g f.0 None None None [] [] fits f.1 tt tt
          (append-nil (sequence g) ∙ is ∙ sym f.2 ∙ sym (append-nil (sequence f.0)))).0,
    )
