use Rattle.std.proofs.Common.{◌≡◌, ◌-◌, length, take, sym, subst, ◌∙◌}
use Rattle.hd_links.specs.Links.{Links, IsSegment}
use Rattle.hd_image.specs.Records.{links_of}
use Rattle.hd_forest.specs.Walks.{parent_on}
use Rattle.hd_forest.proofs.Climbs.{a-path, take-segments}
use Rattle.hd_forest.proofs.unlink.beside_last.Goals as goal

pub below_later-requires-clause-there : goal.below_later-requires-clause-there
below_later-requires-clause-there g c sound =
    let m : Links = links_of c.args.dbd.now.types c.args.volume.now in
    let path = c.args.path.now in
    let parent : c.parent_on-parent.result ≡ parent_on path = c.parent_on-parent.ensures in
    subst (IsSegment m) (sym parent)
    (a-path m (take (length path - 1) path) (take-segments m (length path - 1) path (c.requires.there sound)) (λ e. (let f = c.if-parent-eq0.false in f (parent ∙ e)))).1
