use Rattle.std.proofs.Common.{ℕ, List, sym, subst, ◌∙◌, ap}
use Rattle.hd_links.specs.Links.{Links}
use Rattle.hd_image.specs.Records.{links_of}
use Rattle.hd_forest.specs.Walks.{AreSegments, next_on}
use Rattle.hd_forest.specs.Onward.{onward}
use Rattle.hd_forest.proofs.RowSteps.{row-steps}
use Rattle.hd_position.specs.Kept.{Kept}
use Rattle.hd_position.proofs.Getting.{begins_there, found_both}
use Rattle.hd_position.proofs.RowsBehind.{is_behind}
use Rattle.hd_position.proofs.gets.begin_at_twin.Goals as goal

pub twin_behind-requires-clause-holds : goal.twin_behind-requires-clause-holds
twin_behind-requires-clause-holds g c sound = (let T = c.requires.there sound in (T.0, T.2.holds))

pub twin_behind-requires-clause-there : goal.twin_behind-requires-clause-there
twin_behind-requires-clause-there g c sound =
    let d = c.args.dbd.now in
    let u = c.args.volume.now in
    let T = c.requires.there sound in
    subst (AreSegments (links_of d.types u)) (sym c.path.ensures)
    (begins_there d.types (links_of d.types u) T.0 (row-steps d u T.0 (c.requires.of sound) T.2.holds) c.args.position.now T.1 T.2.stands)

pub returns-clause-value : goal.returns-clause-value
returns-clause-value g c =
    let d = c.args.dbd.now in
    let u = c.args.volume.now in
    let m : Links = links_of d.types u in
    let k : Kept = c.args.position.now in
    found_both c.twin_behind.result c.twin_behind.ensures.next c.twin_behind.ensures.code (λ r next code sound.
    is_behind d u (c.requires.of sound) k r.0 r.1
    (ap (λ (path : List ℕ). onward d.types path r.0 r.1) (sym c.path.ensures) ∙ next sound ∙ ap (next_on d.types m) c.path.ensures, code sound))
