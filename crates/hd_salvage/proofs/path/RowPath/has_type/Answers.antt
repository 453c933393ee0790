use Rattle.std.proofs.Common.{List, ap, ◌∙◌}
use Rattle.std.specs.Prelude.{◌==◌}
use Rattle.std.specs.List.{list_any}
use Rattle.hd_dbd.specs.Segment.{Segment}
use Rattle.hd_salvage.specs.declared.path.Row.{Row}
use Rattle.hd_salvage.proofs.PathRows.{any-of-type}
use Rattle.hd_salvage.proofs.path.RowPath.has_type.Goals as goal

pub returns : goal.returns
returns c =
    c.any_of_type.ensures
    ∙ ap (λ (rows : List Row). list_any (λ r. r.code == c.args.code) rows) c.deref.ensures.value
    ∙ any-of-type c.args.code c.self.inside.rows.items
    ∙ ap (λ (p : List Segment). list_any (λ q. q.code == c.args.code) p) c.self.view_is
