use Rattle.std.proofs.Common.{List, Option, ap, ◌∙◌}
use Rattle.std.specs.Prelude.{option_map, slice_get}
use Rattle.hd_dbd.specs.Segment.{Segment}
use Rattle.hd_salvage.specs.declared.path.Row.{Row}
use Rattle.hd_salvage.specs.Paths.{row_of}
use Rattle.hd_salvage.proofs.PathRows.{row-at}
use Rattle.hd_salvage.proofs.path.RowPath.row.Goals as goal

pub returns : goal.returns
returns c =
    ap (λ (o : Option Row). option_map (λ r. row_of r) o) c.row_in.ensures
    ∙ ap (λ (rows : List Row). option_map (λ r. row_of r) (slice_get rows c.args.place)) c.deref.ensures.value
    ∙ row-at c.self.inside.rows.items c.args.place
    ∙ ap (λ (p : List Segment). slice_get p c.args.place) c.self.view_is
