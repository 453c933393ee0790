use Rattle.std.proofs.Common.{◌≡◌, ℕ, length, true, Ok, ap, sym, subst, ◌∙◌, refl}
use Rattle.hd_dbd.specs.Prefixes.{is_backward_kept}
use Rattle.hd_links.specs.Links.{Links, IsSegment}
use Rattle.hd_links.specs.Changes.{CanUnlink}
use Rattle.hd_links.proofs.Backward.{found}
use Rattle.hd_image.specs.Records.{links_of}
use Rattle.hd_forest.specs.Twins.{IsBehind}
use Rattle.hd_volume.proofs.CallSteps.{reads-join, if-ok}
use Rattle.hd_forest.proofs.Reading.{after-read, sound-before}
use Rattle.hd_forest.proofs.Held.{held, last-below}
use Rattle.hd_forest.proofs.Tips.{within, unlinks}
use Rattle.hd_forest.proofs.read.prev_twin.Goals as goal

pub code_at-requires-clause-there : goal.code_at-requires-clause-there
code_at-requires-clause-there g c sound =
    let d = c.args.dbd.now in
    let u = c.args.volume.now in
    let H = held d u (c.requires.of sound).fit (c.requires.of sound) (c.requires.holds sound) in
    (last-below d u c.args.path.now c.parent_on-parent.result c.tip_of-address.result H (c.requires.there sound) c.parent_on-parent.ensures c.tip_of-address.ensures).there

pub read_pointer-requires-clause-of : goal.read_pointer-requires-clause-of
read_pointer-requires-clause-of g c now =
    let u = c.args.volume.now in
    let sound = sound-before u c.code_at.new.volume c.in_ok-code.ensures.read now in
    (after-read c.args.dbd.now u c.code_at.new.volume c.in_ok-code.ensures.read sound).volume (c.requires.of sound)

pub read_pointer-requires-clause-there : goal.read_pointer-requires-clause-there
read_pointer-requires-clause-there g c now =
    let d = c.args.dbd.now in
    let u = c.args.volume.now in
    let sound = sound-before u c.code_at.new.volume c.in_ok-code.ensures.read now in
    let same = after-read d u c.code_at.new.volume c.in_ok-code.ensures.read sound in
    let H = held d u (c.requires.of sound).fit (c.requires.of sound) (c.requires.holds sound) in
    let B = last-below d u c.args.path.now c.parent_on-parent.result c.tip_of-address.result H (c.requires.there sound) c.parent_on-parent.ensures c.tip_of-address.ensures in
    subst (λ (m : Links). IsSegment m c.tip_of-address.result) (sym same.links) B.there

pub returns-then-keeps_backward-clause-read : goal.returns-then-keeps_backward-clause-read
returns-then-keeps_backward-clause-read g c = reads-join c.read_pointer.result c.in_ok-code.ensures.read c.read_pointer.ensures.read

pub returns-then-keeps_backward-clause-value : goal.returns-then-keeps_backward-clause-value
returns-then-keeps_backward-clause-value g c = if-ok c.read_pointer.result c.read_pointer.ensures.value
    (λ r value sound.
    let d = c.args.dbd.now in
    let u = c.args.volume.now in
    let m : Links = links_of d.types u in
    let same = after-read d u c.code_at.new.volume c.in_ok-code.ensures.read sound in
    let H = held d u (c.requires.of sound).fit (c.requires.of sound) (c.requires.holds sound) in
    let B = last-below d u c.args.path.now c.parent_on-parent.result c.tip_of-address.result H (c.requires.there sound) c.parent_on-parent.ensures c.tip_of-address.ensures in
    let a : ℕ = c.tip_of-address.result in
    let kept : is_backward_kept d.types (m.code a) ≡ true =
    ap (is_backward_kept d.types) (sym (c.in_ok-code.ensures.value sound)) ∙ sym c.keeps_backward.ensures ∙ c.if-keeps_backward.true in
    let e : r ≡ m.backward a = value same.sound ∙ ap (λ (k : Links). k.backward a) same.links in
    let un : CanUnlink d.types m c.parent_on-parent.result r a =
    subst (λ x. CanUnlink d.types m c.parent_on-parent.result x a) (sym e)
    (found d.types H.ordered m H.linked c.parent_on-parent.result (m.code a) B.parent B.typed a refl B.chain kept) in
    rw (← c.parent_on-parent.ensures, ← c.tip_of-address.ensures) un)

pub first_child-requires-clause-of : goal.first_child-requires-clause-of
first_child-requires-clause-of g c now =
    let u = c.args.volume.now in
    let sound = sound-before u c.code_at.new.volume c.in_ok-code.ensures.read now in
    (after-read c.args.dbd.now u c.code_at.new.volume c.in_ok-code.ensures.read sound).volume (c.requires.of sound)

pub first_child-requires-clause-there : goal.first_child-requires-clause-there
first_child-requires-clause-there g c now =
    let d = c.args.dbd.now in
    let u = c.args.volume.now in
    let sound = sound-before u c.code_at.new.volume c.in_ok-code.ensures.read now in
    let same = after-read d u c.code_at.new.volume c.in_ok-code.ensures.read sound in
    let H = held d u (c.requires.of sound).fit (c.requires.of sound) (c.requires.holds sound) in
    let B = last-below d u c.args.path.now c.parent_on-parent.result c.tip_of-address.result H (c.requires.there sound) c.parent_on-parent.ensures c.tip_of-address.ensures in
    subst (λ (m : Links). m.here c.parent_on-parent.result ≡ true) (sym same.links) B.parent

pub twin_before-requires-clause-of : goal.twin_before-requires-clause-of
twin_before-requires-clause-of g c now =
    let d = c.args.dbd.now in
    let u = c.args.volume.now in
    let w = c.first_child.new.volume in
    let both = reads-join (Ok c.in_ok-first.first) c.in_ok-code.ensures.read c.in_ok-first.ensures.read in
    let sound = sound-before u w both now in
    (after-read d u w both sound).volume (c.requires.of sound)

pub twin_before-requires-clause-there : goal.twin_before-requires-clause-there
twin_before-requires-clause-there g c now =
    let d = c.args.dbd.now in
    let u = c.args.volume.now in
    let w = c.first_child.new.volume in
    let m : Links = links_of d.types u in
    let both = reads-join (Ok c.in_ok-first.first) c.in_ok-code.ensures.read c.in_ok-first.ensures.read in
    let sound = sound-before u w both now in
    let mid = after-read d u c.code_at.new.volume c.in_ok-code.ensures.read sound in
    let same = after-read d u w both sound in
    let H = held d u (c.requires.of sound).fit (c.requires.of sound) (c.requires.holds sound) in
    let B = last-below d u c.args.path.now c.parent_on-parent.result c.tip_of-address.result H (c.requires.there sound) c.parent_on-parent.ensures c.tip_of-address.ensures in
    let a : ℕ = c.tip_of-address.result in
    let h : ℕ = c.parent_on-parent.result in
    let first : c.in_ok-first.first ≡ m.first_child h (m.code a) =
    c.in_ok-first.ensures.value mid.sound ∙ ap (λ (k : Links). k.first_child h c.in_ok-code.code) mid.links ∙ ap (m.first_child h) (c.in_ok-code.ensures.value sound) in
    rw (same.links, same.image, first) (within d.types H.ordered (length u.image) m H.graph H.linked h a B)

pub returns-clause-read : goal.returns-clause-read
returns-clause-read g c = reads-join c.twin_before.result (reads-join (Ok c.in_ok-first.first) c.in_ok-code.ensures.read c.in_ok-first.ensures.read) c.twin_before.ensures.read

pub returns-clause-value : goal.returns-clause-value
returns-clause-value g c = if-ok c.twin_before.result c.twin_before.ensures.value
    (λ r value sound.
    let d = c.args.dbd.now in
    let u = c.args.volume.now in
    let w = c.first_child.new.volume in
    let m : Links = links_of d.types u in
    let both = reads-join (Ok c.in_ok-first.first) c.in_ok-code.ensures.read c.in_ok-first.ensures.read in
    let mid = after-read d u c.code_at.new.volume c.in_ok-code.ensures.read sound in
    let same = after-read d u w both sound in
    let H = held d u (c.requires.of sound).fit (c.requires.of sound) (c.requires.holds sound) in
    let B = last-below d u c.args.path.now c.parent_on-parent.result c.tip_of-address.result H (c.requires.there sound) c.parent_on-parent.ensures c.tip_of-address.ensures in
    let a : ℕ = c.tip_of-address.result in
    let h : ℕ = c.parent_on-parent.result in
    let first : c.in_ok-first.first ≡ m.first_child h (m.code a) =
    c.in_ok-first.ensures.value mid.sound ∙ ap (λ (k : Links). k.first_child h c.in_ok-code.code) mid.links ∙ ap (m.first_child h) (c.in_ok-code.ensures.value sound) in
    let at : IsBehind m (m.first_child h (m.code a)) r a =
    subst (λ x. IsBehind m x r a) first (subst (λ (k : Links). IsBehind k c.in_ok-first.first r a) same.links (value same.sound)) in
    rw (← c.parent_on-parent.ensures, ← c.tip_of-address.ensures) (unlinks d.types H.ordered (length u.image) m H.graph H.linked h a B r at))
