use Rattle.std.proofs.Common.{List, ap, ◌∙◌}
use Rattle.std.specs.Prelude.{◌==◌}
use Rattle.std.specs.List.{list_any}
use Rattle.hd_links.specs.Placed.{Placed}
use Rattle.hd_links.specs.LastRows.{segments_of}
use Rattle.hd_unload.proofs.PathRows.{any-of-type}
use Rattle.hd_unload.proofs.path.LoadPath.has_type.Goals as goal

pub returns : goal.returns
returns c = c.any_of_type.ensures ∙ any-of-type c.args.code _ ∙ ap (λ (p : List Placed). list_any (λ q. q.code == c.args.code) (segments_of p)) c.self.view_is
