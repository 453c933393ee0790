use Rattle.std.proofs.Common.{ap, subst, sym, ◌∙◌}
use Rattle.hd_links.specs.Links.{IsSegment, segment_at}
use Rattle.hd_image.specs.Records.{links_of}
use Rattle.hd_volume.proofs.JoinLemmas.{if-ok-map}
use Rattle.hd_forest.specs.Rows.{IsOnSomeRow}
use Rattle.hd_forest.proofs.Reading.{links-kept, volume-kept}
use Rattle.hd_get.specs.Asking.{look_of}
use Rattle.hd_get.proofs.Grounds.{grounds, tip_is, tip_there, told_before}
use Rattle.hd_get.proofs.by_key.admits_tip.Goals as goal

pub look_at-requires-clause-there : goal.look_at-requires-clause-there
look_at-requires-clause-there g c sound =
    let d = c.args.dbd.now in
    let u = c.args.volume.now in
    let T = c.requires.there sound in
    subst (IsSegment (links_of d.types u)) (sym c.tip_of.ensures) (tip_there d.types (links_of d.types u) T.0 (grounds d u T.0 (c.requires.of sound) T.2.holds) c.args.path.now T.1 T.2)

pub admits_seen-requires-clause-of : goal.admits_seen-requires-clause-of
admits_seen-requires-clause-of g c = volume-kept c.args.dbd.now c.args.volume.now c.look_at.new.volume c.in_ok-look.ensures.read c.requires.of

pub admits_seen-requires-clause-there : goal.admits_seen-requires-clause-there
admits_seen-requires-clause-there g c =
    links-kept c.args.dbd.now (λ m. IsOnSomeRow c.args.dbd.now.types m c.args.path.now) c.args.volume.now c.look_at.new.volume c.in_ok-look.ensures.read c.requires.there

pub returns-clause-value : goal.returns-clause-value
returns-clause-value g c = if-ok-map c.admits_seen.result (λ r seen f i at.
    let d = c.args.dbd.now in
    let u = c.args.volume.now in
    let G = grounds d u f (c.requires.of at.sound) at.row.holds in
    seen f i (told_before d u c.look_at.new.volume c.in_ok-look.ensures.read f c.args.path.now i at)
    (c.in_ok-look.ensures.value at.sound
    ∙ ap (look_of d.types c.args.ssas.now) (ap (segment_at (links_of d.types u)) (c.tip_of.ensures ∙ tip_is d.types (links_of d.types u) f G c.args.path.now i at.row) ∙ G.addressed.same i at.row.within)))
    c.admits_seen.ensures.value
