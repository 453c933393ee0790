use Rattle.std.proofs.Common.{◌≡◌, ◌<◌, length, Ok, Some, ap, sym, subst, ◌∙◌, refl, inl, inr}
use Rattle.hd_links.specs.Links.{Links, IsSegment}
use Rattle.hd_links.specs.Changes.{CanUnlink}
use Rattle.hd_links.proofs.Build.{zero_or}
use Rattle.hd_image.specs.Records.{links_of}
use Rattle.hd_forest.specs.Walks.{tip, parent_on}
use Rattle.hd_forest.proofs.Reading.{after-read, sound-before, links-kept, volume-kept}
use Rattle.hd_forest.proofs.Held.{held, last-below}
use Rattle.hd_volume.proofs.CallSteps.{if-ok, reads-join}
use Rattle.hd_position.specs.Backs.{IsLastOrNone, IsSiblingBefore}
use Rattle.hd_position.proofs.Siblings.{twin_before, child_before, first_root}
use Rattle.hd_position.proofs.back.sibling_before.Goals as goal
use Rattle.hd_position.proofs.back.sibling_before.Goals.{then-twin-ne0-via-then-twin-ne0, then-twin-ne0-via-else-twin-ne0+then-parent-eq0}

pub returns-then-twin-ne0-clause-value : goal.returns-then-twin-ne0-clause-value
returns-then-twin-ne0-clause-value g c sound =
    let d = c.args.dbd.now in
    let u = c.args.volume.now in
    let H = held d u (c.requires.of sound).fit (c.requires.of sound) (c.requires.holds sound) in
    let T = c.requires.there sound in
    let U = c.in_ok-twin.ensures.value sound in
    elim c.then-twin-ne0.branch [
      | then-twin-ne0-via-then-twin-ne0 w ↦ twin_before d.types (length u.image) (links_of d.types u) H.graph H.linked c.args.path.now T.0 T.1 c.in_ok-twin.twin U w.if-twin-ne0.true
      | then-twin-ne0-via-else-twin-ne0+then-parent-eq0 w ↦
          (let none : c.in_ok-twin.twin ≡ 0 = w.if-twin-ne0.false in
          subst (IsSiblingBefore d.types (links_of d.types u) c.args.path.now) (sym none)
          (first_root d.types (length u.image) (links_of d.types u) H.graph H.linked c.args.path.now T.0 T.1 (subst (λ y. CanUnlink d.types (links_of d.types u) (parent_on c.args.path.now) y (tip c.args.path.now)) none U)
          (sym c.parent_on-parent.ensures ∙ w.if-parent-eq0.true)))
    ]

pub code_at-requires-clause-of : goal.code_at-requires-clause-of
code_at-requires-clause-of g c = volume-kept c.args.dbd.now c.args.volume.now c.prev_twin.new.volume c.in_ok-twin.ensures.read c.requires.of

pub code_at-requires-clause-there : goal.code_at-requires-clause-there
code_at-requires-clause-there g c =
    links-kept c.args.dbd.now (λ (m : Links). IsSegment m c.tip_of.result) c.args.volume.now c.prev_twin.new.volume c.in_ok-twin.ensures.read (λ sound.
    let d = c.args.dbd.now in
    let u = c.args.volume.now in
    let H = held d u (c.requires.of sound).fit (c.requires.of sound) (c.requires.holds sound) in
    (last-below d u c.args.path.now c.parent_on-parent.result c.tip_of.result H (c.requires.there sound) c.parent_on-parent.ensures c.tip_of.ensures).there)

pub last_child_before-requires-clause-of : goal.last_child_before-requires-clause-of
last_child_before-requires-clause-of g c = volume-kept c.args.dbd.now c.args.volume.now c.code_at.new.volume (reads-join (Ok c.in_ok-code.code) c.in_ok-twin.ensures.read c.in_ok-code.ensures.read) c.requires.of

pub last_child_before-requires-clause-holds : goal.last_child_before-requires-clause-holds
last_child_before-requires-clause-holds g c now =
    let d = c.args.dbd.now in
    let u = c.args.volume.now in
    let both = reads-join (Ok c.in_ok-code.code) c.in_ok-twin.ensures.read c.in_ok-code.ensures.read in
    let sound = sound-before u c.code_at.new.volume both now in
    (after-read d u c.code_at.new.volume both sound).forest (c.requires.holds sound)

pub last_child_before-requires-clause-there : goal.last_child_before-requires-clause-there
last_child_before-requires-clause-there g c =
    links-kept c.args.dbd.now (λ (m : Links). IsSegment m c.parent_on-parent.result) c.args.volume.now c.code_at.new.volume (reads-join (Ok c.in_ok-code.code) c.in_ok-twin.ensures.read c.in_ok-code.ensures.read) (λ sound.
    let d = c.args.dbd.now in
    let u = c.args.volume.now in
    let H = held d u (c.requires.of sound).fit (c.requires.of sound) (c.requires.holds sound) in
    let B = last-below d u c.args.path.now c.parent_on-parent.result (tip c.args.path.now) H (c.requires.there sound) c.parent_on-parent.ensures refl in
    let some : 0 < c.parent_on-parent.result = elim (zero_or c.parent_on-parent.result) [ inl z ↦ absurd (c.if-parent-eq0.false z) | inr p ↦ p ] in
    record { some = some; here = B.parent })

pub returns-clause-value : goal.returns-clause-value
returns-clause-value g c = if-ok c.last_child_before.result c.last_child_before.ensures.value
    (λ r value sound.
    let d = c.args.dbd.now in
    let u = c.args.volume.now in
    let m : Links = links_of d.types u in
    let both = reads-join (Ok c.in_ok-code.code) c.in_ok-twin.ensures.read c.in_ok-code.ensures.read in
    let mid = after-read d u c.prev_twin.new.volume c.in_ok-twin.ensures.read sound in
    let same = after-read d u c.code_at.new.volume both sound in
    let H = held d u (c.requires.of sound).fit (c.requires.of sound) (c.requires.holds sound) in
    let T = c.requires.there sound in
    let none : c.in_ok-twin.twin ≡ 0 = c.if-twin-ne0.false in
    let code : c.in_ok-code.code ≡ m.code (tip c.args.path.now) = c.in_ok-code.ensures.value mid.sound ∙ ap (λ (k : Links). k.code c.tip_of.result) mid.links ∙ ap m.code c.tip_of.ensures in
    child_before d.types (length u.image) m H.graph H.linked c.args.path.now T.0 T.1
    (subst (λ y. CanUnlink d.types m (parent_on c.args.path.now) y (tip c.args.path.now)) none (c.in_ok-twin.ensures.value sound)) r
    (subst (λ x. IsLastOrNone d.types m (parent_on c.args.path.now) (Some x) r) code
    (subst (λ h. IsLastOrNone d.types m h (Some c.in_ok-code.code) r) c.parent_on-parent.ensures
    (subst (λ (k : Links). IsLastOrNone d.types k c.parent_on-parent.result (Some c.in_ok-code.code) r) same.links (value same.sound)))))
