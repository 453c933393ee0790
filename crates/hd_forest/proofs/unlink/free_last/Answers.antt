use Rattle.std.proofs.Common.{◌≢◌, true, false, ℕ, List, ◌∷◌, ◌++◌, [], sym, ap, subst, ◌∙◌}
use Rattle.hd_links.specs.Links.{Links, IsSegment}
use Rattle.hd_image.specs.Records.{links_of}
use Rattle.hd_image.specs.Pointing.{without_record}
use Rattle.hd_forest.specs.Walks.{tip}
use Rattle.hd_forest.specs.Sets.{IsRecorded}
use Rattle.hd_forest.proofs.Climbs.{tip-some}
use Rattle.hd_forest.proofs.Reading.{after-read, links-kept, volume-kept}
use Rattle.hd_forest.proofs.Freed.{recorded-after, last-none, last-some}
use Rattle.hd_forest.proofs.unlink.free_last.Goals as goal

pub free_record-requires-clause-of : goal.free_record-requires-clause-of
free_record-requires-clause-of g c = volume-kept c.args.dbd.now c.args.volume.now c.beside_last.new.volume c.in_ok-next.ensures.read c.requires.of

pub free_record-requires-clause-there : goal.free_record-requires-clause-there
free_record-requires-clause-there g c =
    let d = c.args.dbd.now in
    let u = c.args.volume.now in
    links-kept d (λ (m : Links). IsSegment m c.tip_of.result) u c.beside_last.new.volume c.in_ok-next.ensures.read
    (λ sound. subst (IsSegment (links_of d.types u)) (sym c.tip_of.ensures) (tip-some (links_of d.types u) 0 c.args.path.now (c.requires.there sound) (c.requires.some sound)))

pub returns-then-next-eq0-clause-freed : goal.returns-then-next-eq0-clause-freed
returns-then-next-eq0-clause-freed g c sound =
    let d = c.args.dbd.now in
    let u = c.args.volume.now in
    let v = c.beside_last.new.volume in
    let w = c.free_record.new.volume in
    let path = c.args.path.now in
    let same = after-read d u v c.in_ok-next.ensures.read sound in
    let freed : IsRecorded d v (without_record (links_of d.types u) (tip path)) w =
    subst (λ x. IsRecorded d v (without_record (links_of d.types u) x) w) c.tip_of.ensures
    (subst (λ (m : Links). IsRecorded d v (without_record m c.tip_of.result) w) same.links (c.in_ok-free_record.ensures.freed same.sound)) in
    last-none d u w (links_of d.types u) path c.up.new.self false c.in_ok-next.next (c.in_ok-next.ensures.value sound) c.if-next-eq0.true c.up.ensures.value
    (recorded-after d (without_record (links_of d.types u) (tip path)) u v w c.in_ok-next.ensures.read sound (same.volume (c.requires.of sound)) freed)

pub returns-clause-freed : goal.returns-clause-freed
returns-clause-freed g c sound =
    let d = c.args.dbd.now in
    let u = c.args.volume.now in
    let v = c.beside_last.new.volume in
    let w = c.free_record.new.volume in
    let path = c.args.path.now in
    let same = after-read d u v c.in_ok-next.ensures.read sound in
    let freed : IsRecorded d v (without_record (links_of d.types u) (tip path)) w =
    subst (λ x. IsRecorded d v (without_record (links_of d.types u) x) w) c.tip_of.ensures
    (subst (λ (m : Links). IsRecorded d v (without_record m c.tip_of.result) w) same.links (c.in_ok-free_record.ensures.freed same.sound)) in
    let some : c.in_ok-next.next ≢ 0 = λ e. (let f = c.if-next-eq0.false in f e) in
    last-some d u w (links_of d.types u) path c.push.new.self true c.in_ok-next.next (c.in_ok-next.ensures.value sound) some
    (c.push.ensures c.up.ensures.few ∙ ap (λ (x : List ℕ). x ++ c.in_ok-next.next ∷ []) c.up.ensures.value)
    (recorded-after d (without_record (links_of d.types u) (tip path)) u v w c.in_ok-next.ensures.read sound (same.volume (c.requires.of sound)) freed)
