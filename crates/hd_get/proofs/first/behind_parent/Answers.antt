use Rattle.std.proofs.Common.{◌≡◌, Some, None, sym, ap, subst, ◌∙◌}
use Rattle.hd_links.specs.Steps.{rows_of}
use Rattle.hd_image.specs.Records.{links_of}
use Rattle.hd_forest.specs.Walks.{AreSegments, next_on}
use Rattle.hd_forest.proofs.RowSteps.{row-steps}
use Rattle.hd_position.specs.Kept.{Kept, path_passed, row_on}
use Rattle.hd_get.proofs.Grounds.{grounds, tip_is}
use Rattle.hd_get.proofs.Starts.{parent_there}
use Rattle.hd_get.proofs.KeptPaths.{up_to, up_none}
use Rattle.hd_get.proofs.LoweredStarts.{leads_behind}
use Rattle.hd_get.proofs.first.behind_parent.Goals as goal

pub returns-in_default-clause-value : goal.returns-in_default-clause-value
returns-in_default-clause-value g c f q at =
    let d = c.args.dbd.now in
    let v = c.args.volume.now in
    let k : Kept = c.args.position.now in
    let of = c.requires.of at.sound in
    let none_read : row_on k.path c.parent.result ≡ None = up_none d v f k q of at.at c.parent.result c.path_up_to.result c.path_up_to.ensures c.in_default.is in
    record { parent = parent_there d.types f k q at.at.stands None (subst (λ l. row_on k.path l ≡ None) c.parent.ensures none_read); leads = tt }

pub next_row-requires-clause-holds : goal.next_row-requires-clause-holds
next_row-requires-clause-holds g c sound = (let T = c.requires.there sound in (T.0, T.2.holds))

pub next_row-requires-clause-there : goal.next_row-requires-clause-there
next_row-requires-clause-there g c sound =
    let d = c.args.dbd.now in
    let u = c.args.volume.now in
    let T = c.requires.there sound in
    let of = c.requires.of sound in
    let U = up_to d u T.0 c.args.position.now T.1 of T.2 c.parent.result c.in-Some.path c.path_up_to.result c.path_up_to.ensures c.in-Some.is in
    subst (AreSegments (links_of d.types u)) (sym U.1.is) ((row-steps d u T.0 of T.2.holds).segments U.0 U.1.within)

pub returns-clause-value : goal.returns-clause-value
returns-clause-value g c f q at =
    let d = c.args.dbd.now in
    let u = c.args.volume.now in
    let m = links_of d.types u in
    let k : Kept = c.args.position.now in
    let of = c.requires.of at.sound in
    let G = grounds d u f of at.at.holds in
    let U = up_to d u f k q of at.at c.parent.result c.in-Some.path c.path_up_to.result c.path_up_to.ensures c.in-Some.is in
    let next = c.in_ok-next_row.ensures.value at.sound ∙ ap (next_on d.types m) U.1.is ∙ (row-steps d u f of at.at.holds).next U.0 U.1.within in
    leads_behind d u f k q of at.at U.0 c.tip_of-parent.result c.next_row.new.path c.stay_below.new.path
    (subst (λ l. row_on (path_passed d.types (rows_of f) q.passed) l ≡ Some U.0) c.parent.ensures U.2) (c.tip_of-parent.ensures ∙ tip_is d.types m f G c.in-Some.path U.0 U.1)
    next c.stay_below.ensures
