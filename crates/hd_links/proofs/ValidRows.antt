-- The rows of a forest that records hold are valid.
use Rattle.std.proofs.Common.{◌≡◌, List, [], true, None, refl, sym, ap, ◌∙◌}
use Rattle.std.proofs.lemmas.List.{append-nil}
use Rattle.hd_dbd.specs.Types.{SegmentType}
use Rattle.hd_dbd.specs.Segment.{Segment}
use Rattle.hd_dbd.specs.Rows.{valid}
use Rattle.hd_dbd.specs.Forest.{Forest}
use Rattle.hd_dbd.proofs.LevelLaw.{Leveled}
use Rattle.hd_dbd.proofs.Sequences.{walk}
use Rattle.hd_links.specs.Links.{Links}
use Rattle.hd_links.specs.Placed.{Placed, forest_of, Holds}
use Rattle.hd_links.specs.Steps.{rows_of}

-- the rows of a held forest are the hierarchic sequence of a forest of the database
pub held_valid : (types : List SegmentType) (m : Links) (f : Forest Placed) → Leveled types → Holds types m f → valid types (rows_of f) ≡ true
held_valid types m f levels held =
    ap (λ (rows : List Segment). valid types rows) (sym (append-nil (rows_of f)))
    ∙ (walk types levels (forest_of f) [] [] [] None None refl tt refl held.fits).1
