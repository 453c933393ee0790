use Rattle.std.proofs.Common.{◌≡◌, List, [], ap, sym, ◌∙◌, refl, None, true}
use Rattle.std.proofs.lemmas.List.{append-nil}
use Rattle.hd_dbd.specs.Segment.{Segment}
use Rattle.hd_dbd.specs.Rows.{valid}
use Rattle.hd_dbd.specs.Forest.{sequence}
use Rattle.hd_dbd.proofs.LevelLaw.{leveled}
use Rattle.hd_dbd.proofs.Sequences.{walk}
use Rattle.hd_dbd.proofs.Twins.{twins_ascend}
use Rattle.hd_links.specs.Placed.{forest_of}
use Rattle.hd_links.proofs.law.law_held_twins_ascend.Goals as goal

pub returns : goal.returns
returns c block_size frspc types m f i j formed holds before within twins =
    let levels = leveled block_size frspc types formed in
    let rows : valid types (sequence (forest_of f)) ≡ true =
    ap (λ (rows : List Segment). valid types rows) (sym (append-nil (sequence (forest_of f))))
    ∙ (walk types levels (forest_of f) [] [] [] None None refl tt refl holds.fits).1 in
    twins_ascend types levels (sequence (forest_of f)) i j rows before within twins
