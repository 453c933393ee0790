use Rattle.std.proofs.Common.{◌≡◌, ℕ, IsTrue, Result, Ok, Err, OnOk, sym, ap, subst, ◌∙◌}
use Rattle.hd_dbd.specs.declared.answer.Refused.{Refused}
use Rattle.hd_dbd.specs.Forest.{Forest}
use Rattle.hd_links.specs.Links.{Links, IsSegment}
use Rattle.hd_links.specs.Placed.{Placed}
use Rattle.hd_image.specs.Records.{links_of}
use Rattle.hd_forest.specs.Walks.{tip, parent_on}
use Rattle.hd_forest.specs.Sets.{following, preceding, IsTwinPlace, IsRecorded}
use Rattle.hd_forest.specs.Spans.{IsSpan, HasSpan, without_span_of}
use Rattle.hd_volume.proofs.CallSteps.{reads-join}
use Rattle.hd_forest.proofs.Reading.{after-read, sound-before, volume-kept, links-kept}
use Rattle.hd_forest.proofs.Held.{held, last-below}
use Rattle.hd_forest.proofs.UnlinkSpan.{place-before, place-behind, span-there, done}
use Rattle.hd_forest.proofs.unlink.unlink_span.Goals as goal

-- what holds after a call, by what held
on-ok : {A : Type 0} {P Q : Type 0} (r : Result A Refused) → OnOk r P → (P → Q) → OnOk r Q
on-ok (Ok x) h f = f h
on-ok (Err e) h f = tt

-- four numbers, by what they are
by-all : (P : ℕ → ℕ → ℕ → ℕ → Type 0) (h h2 a a2 t t2 w w2 : ℕ) → h ≡ h2 → a ≡ a2 → t ≡ t2 → w ≡ w2 → P h a t w → P h2 a2 t2 w2
by-all P h h2 a a2 t t2 w w2 e f p q x = subst (λ n. P h2 a2 t2 n) q (subst (λ n. P h2 a2 n w) p (subst (λ n. P h2 n t w) f (subst (λ n. P n a t w) e x)))

pub code_at-requires-clause-of : goal.code_at-requires-clause-of
code_at-requires-clause-of g c = volume-kept c.args.dbd.now c.args.volume.now c.prev_twin.new.volume c.in_ok-before.ensures.read c.requires.of

pub code_at-requires-clause-there : goal.code_at-requires-clause-there
code_at-requires-clause-there g c =
    let d = c.args.dbd.now in
    let u = c.args.volume.now in
    links-kept d (λ (m : Links). IsSegment m c.tip_of-address.result) u c.prev_twin.new.volume c.in_ok-before.ensures.read
    (λ sound. (last-below d u c.args.path.now c.parent_on-parent.result c.tip_of-address.result (held d u (c.requires.of sound).fit (c.requires.of sound) (c.requires.holds sound)) (c.requires.there sound)
    c.parent_on-parent.ensures c.tip_of-address.ensures).there)

pub next_twin-requires-clause-of : goal.next_twin-requires-clause-of
next_twin-requires-clause-of g c =
    volume-kept c.args.dbd.now c.args.volume.now c.code_at.new.volume (reads-join (Ok c.in_ok-code.code) c.in_ok-before.ensures.read c.in_ok-code.ensures.read) c.requires.of

pub next_twin-requires-clause-there : goal.next_twin-requires-clause-there
next_twin-requires-clause-there g c =
    let d = c.args.dbd.now in
    let u = c.args.volume.now in
    links-kept d (λ (m : Links). IsSegment m c.tip_of-address.result) u c.code_at.new.volume (reads-join (Ok c.in_ok-code.code) c.in_ok-before.ensures.read c.in_ok-code.ensures.read)
    (λ sound. (last-below d u c.args.path.now c.parent_on-parent.result c.tip_of-address.result (held d u (c.requires.of sound).fit (c.requires.of sound) (c.requires.holds sound)) (c.requires.there sound)
    c.parent_on-parent.ensures c.tip_of-address.ensures).there)

pub set_following-requires-clause-of : goal.set_following-requires-clause-of
set_following-requires-clause-of g c =
    volume-kept c.args.dbd.now c.args.volume.now c.next_twin.new.volume
    (reads-join (Ok c.in_ok-behind.behind) (reads-join (Ok c.in_ok-code.code) c.in_ok-before.ensures.read c.in_ok-code.ensures.read) c.in_ok-behind.ensures.read) c.requires.of

pub set_following-requires-clause-there : goal.set_following-requires-clause-there
set_following-requires-clause-there g c now =
    let d = c.args.dbd.now in
    let u = c.args.volume.now in
    let m : Links = links_of d.types u in
    let path = c.args.path.now in
    let y : ℕ = c.in_ok-before.before in
    let two = reads-join (Ok c.in_ok-code.code) c.in_ok-before.ensures.read c.in_ok-code.ensures.read in
    let all = reads-join (Ok c.in_ok-behind.behind) two c.in_ok-behind.ensures.read in
    let sound = sound-before u c.next_twin.new.volume all now in
    let same = after-read d u c.next_twin.new.volume all sound in
    let one = after-read d u c.prev_twin.new.volume c.in_ok-before.ensures.read sound in
    let F = c.requires.holds sound in
    let code : c.in_ok-code.code ≡ m.code (tip path) = c.in_ok-code.ensures.value one.sound ∙ ap (λ (k : Links). k.code c.tip_of-address.result) one.links ∙ ap m.code c.tip_of-address.ensures in
    let place = place-before d u (c.requires.of sound).fit (c.requires.of sound) path (c.requires.there sound) y (c.in_ok-before.ensures.value sound) F.0 F.1 in
    subst (λ (k : Links). IsTwinPlace d.types k c.parent_on-parent.result c.in_ok-code.code y) (sym same.links)
    (subst (λ x. IsTwinPlace d.types m x c.in_ok-code.code y) (sym c.parent_on-parent.ensures) (subst (λ t. IsTwinPlace d.types m (parent_on path) t y) (sym code) place))

pub set_preceding-requires-clause-there : goal.set_preceding-requires-clause-there
set_preceding-requires-clause-there g c now1 =
    let d = c.args.dbd.now in
    let u = c.args.volume.now in
    let m : Links = links_of d.types u in
    let path = c.args.path.now in
    let y : ℕ = c.in_ok-before.before in
    let v = c.next_twin.new.volume in
    let v1 = c.set_following.new.volume in
    let two = reads-join (Ok c.in_ok-code.code) c.in_ok-before.ensures.read c.in_ok-code.ensures.read in
    let all = reads-join (Ok c.in_ok-behind.behind) two c.in_ok-behind.ensures.read in
    let now : IsTrue v.is_sound = rw (← c.in_ok-set_following.ensures.call.sound) now1 in
    let sound = sound-before u v all now in
    let one = after-read d u c.prev_twin.new.volume c.in_ok-before.ensures.read sound in
    let both = after-read d u c.code_at.new.volume two sound in
    let same = after-read d u v all sound in
    let F = c.requires.holds sound in
    let code : c.in_ok-code.code ≡ m.code (tip path) = c.in_ok-code.ensures.value one.sound ∙ ap (λ (k : Links). k.code c.tip_of-address.result) one.links ∙ ap m.code c.tip_of-address.ensures in
    let behind : c.in_ok-behind.behind ≡ m.forward (tip path) = c.in_ok-behind.ensures.value both.sound ∙ ap (λ (k : Links). k.forward c.tip_of-address.result) both.links ∙ ap m.forward c.tip_of-address.ensures in
    let set : IsRecorded d v (following m (parent_on path) (m.code (tip path)) y (m.forward (tip path))) v1 =
    by-all (λ h a t w. IsRecorded d v (following m h t y w) v1) c.parent_on-parent.result (parent_on path) c.tip_of-address.result (tip path) c.in_ok-code.code (m.code (tip path)) c.in_ok-behind.behind (m.forward (tip path))
    c.parent_on-parent.ensures c.tip_of-address.ensures code behind
    (subst (λ (k : Links). IsRecorded d v (following k c.parent_on-parent.result c.in_ok-code.code y c.in_ok-behind.behind) v1) same.links (c.in_ok-set_following.ensures.set same.sound)) in
    let place = place-behind d u (c.requires.of sound).fit (c.requires.of sound) path (c.requires.there sound) y (c.in_ok-before.ensures.value sound) F.0 F.1 (links_of d.types v1) set.records in
    by-all (λ h a t w. IsTwinPlace d.types (links_of d.types v1) h t w) (parent_on path) c.parent_on-parent.result (tip path) c.tip_of-address.result (m.code (tip path)) c.in_ok-code.code (m.forward (tip path)) c.in_ok-behind.behind
    (sym c.parent_on-parent.ensures) (sym c.tip_of-address.ensures) (sym code) (sym behind) place

pub free_span-requires-clause-there : goal.free_span-requires-clause-there
free_span-requires-clause-there g c now2 =
    let d = c.args.dbd.now in
    let u = c.args.volume.now in
    let m : Links = links_of d.types u in
    let path = c.args.path.now in
    let y : ℕ = c.in_ok-before.before in
    let v = c.next_twin.new.volume in
    let v1 = c.set_following.new.volume in
    let two = reads-join (Ok c.in_ok-code.code) c.in_ok-before.ensures.read c.in_ok-code.ensures.read in
    let all = reads-join (Ok c.in_ok-behind.behind) two c.in_ok-behind.ensures.read in
    let before2 : IsTrue v1.is_sound = rw (← c.in_ok-set_preceding.ensures.call.sound) now2 in
    let now : IsTrue v.is_sound = rw (← c.in_ok-set_following.ensures.call.sound) before2 in
    let sound = sound-before u v all now in
    let one = after-read d u c.prev_twin.new.volume c.in_ok-before.ensures.read sound in
    let both = after-read d u c.code_at.new.volume two sound in
    let same = after-read d u v all sound in
    let F = c.requires.holds sound in
    let code : c.in_ok-code.code ≡ m.code (tip path) = c.in_ok-code.ensures.value one.sound ∙ ap (λ (k : Links). k.code c.tip_of-address.result) one.links ∙ ap m.code c.tip_of-address.ensures in
    let behind : c.in_ok-behind.behind ≡ m.forward (tip path) = c.in_ok-behind.ensures.value both.sound ∙ ap (λ (k : Links). k.forward c.tip_of-address.result) both.links ∙ ap m.forward c.tip_of-address.ensures in
    let set : IsRecorded d v (following m (parent_on path) (m.code (tip path)) y (m.forward (tip path))) v1 =
    by-all (λ h a t w. IsRecorded d v (following m h t y w) v1) c.parent_on-parent.result (parent_on path) c.tip_of-address.result (tip path) c.in_ok-code.code (m.code (tip path)) c.in_ok-behind.behind (m.forward (tip path))
    c.parent_on-parent.ensures c.tip_of-address.ensures code behind
    (subst (λ (k : Links). IsRecorded d v (following k c.parent_on-parent.result c.in_ok-code.code y c.in_ok-behind.behind) v1) same.links (c.in_ok-set_following.ensures.set same.sound)) in
    let m1 : Links = links_of d.types v1 in
    let v2 = c.set_preceding.new.volume in
    let now1 : IsTrue v1.is_sound = rw c.in_ok-set_following.ensures.call.sound same.sound in
    let back : IsRecorded d v1 (preceding m1 (parent_on path) (m.code (tip path)) (m.forward (tip path)) y) v2 =
    by-all (λ h a t w. IsRecorded d v1 (preceding m1 h t w y) v2) c.parent_on-parent.result (parent_on path) c.tip_of-address.result (tip path) c.in_ok-code.code (m.code (tip path)) c.in_ok-behind.behind (m.forward (tip path))
    c.parent_on-parent.ensures c.tip_of-address.ensures code behind (c.in_ok-set_preceding.ensures.set now1) in
    subst (HasSpan d.types (links_of d.types v2)) (sym c.tip_of-address.ensures)
    (span-there d u (c.requires.of sound).fit (c.requires.of sound) path (c.requires.there sound) y (c.in_ok-before.ensures.value sound) F.0 F.1 m1 (links_of d.types v2) set.records back.records)

pub returns-clause-unlinked : goal.returns-clause-unlinked
returns-clause-unlinked g c = on-ok c.free_span.result c.free_span.ensures.freed (λ free sound.
    let d = c.args.dbd.now in
    let u = c.args.volume.now in
    let m : Links = links_of d.types u in
    let path = c.args.path.now in
    let y : ℕ = c.in_ok-before.before in
    let v = c.next_twin.new.volume in
    let v1 = c.set_following.new.volume in
    let two = reads-join (Ok c.in_ok-code.code) c.in_ok-before.ensures.read c.in_ok-code.ensures.read in
    let all = reads-join (Ok c.in_ok-behind.behind) two c.in_ok-behind.ensures.read in
    let one = after-read d u c.prev_twin.new.volume c.in_ok-before.ensures.read sound in
    let both = after-read d u c.code_at.new.volume two sound in
    let same = after-read d u v all sound in
    let F = c.requires.holds sound in
    let code : c.in_ok-code.code ≡ m.code (tip path) = c.in_ok-code.ensures.value one.sound ∙ ap (λ (k : Links). k.code c.tip_of-address.result) one.links ∙ ap m.code c.tip_of-address.ensures in
    let behind : c.in_ok-behind.behind ≡ m.forward (tip path) = c.in_ok-behind.ensures.value both.sound ∙ ap (λ (k : Links). k.forward c.tip_of-address.result) both.links ∙ ap m.forward c.tip_of-address.ensures in
    let set : IsRecorded d v (following m (parent_on path) (m.code (tip path)) y (m.forward (tip path))) v1 =
    by-all (λ h a t w. IsRecorded d v (following m h t y w) v1) c.parent_on-parent.result (parent_on path) c.tip_of-address.result (tip path) c.in_ok-code.code (m.code (tip path)) c.in_ok-behind.behind (m.forward (tip path))
    c.parent_on-parent.ensures c.tip_of-address.ensures code behind
    (subst (λ (k : Links). IsRecorded d v (following k c.parent_on-parent.result c.in_ok-code.code y c.in_ok-behind.behind) v1) same.links (c.in_ok-set_following.ensures.set same.sound)) in
    let m1 : Links = links_of d.types v1 in
    let v2 = c.set_preceding.new.volume in
    let now1 : IsTrue v1.is_sound = rw c.in_ok-set_following.ensures.call.sound same.sound in
    let back : IsRecorded d v1 (preceding m1 (parent_on path) (m.code (tip path)) (m.forward (tip path)) y) v2 =
    by-all (λ h a t w. IsRecorded d v1 (preceding m1 h t w y) v2) c.parent_on-parent.result (parent_on path) c.tip_of-address.result (tip path) c.in_ok-code.code (m.code (tip path)) c.in_ok-behind.behind (m.forward (tip path))
    c.parent_on-parent.ensures c.tip_of-address.ensures code behind (c.in_ok-set_preceding.ensures.set now1) in
    let w = c.free_span.new.volume in
    let now2 : IsTrue v2.is_sound = rw c.in_ok-set_preceding.ensures.call.sound now1 in
    let freed = subst (λ x. (under : Forest Placed) → IsSpan d.types (links_of d.types v2) x under → IsRecorded d v2 (without_span_of (links_of d.types v2) x under) w) c.tip_of-address.ensures (free now2) in
    done d u (c.requires.of sound).fit (c.requires.of sound) path (c.requires.there sound) y (c.in_ok-before.ensures.value sound) v v1 v2 w F.0 F.1 all sound (same.volume (c.requires.of sound)) set back freed)
