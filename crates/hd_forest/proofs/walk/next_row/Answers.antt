use Rattle.std.proofs.Common.{◌≡◌, ◌≢◌, ℕ, List, [], sym, ap, subst, ◌∙◌, refl, arith}
use Rattle.hd_dbd.specs.Types.{SegmentType}
use Rattle.std.proofs.lemmas.Result.{on_ok_weaker}
use Rattle.hd_links.specs.Links.{Links, IsSegment}
use Rattle.hd_links.specs.Steps.{next_row}
use Rattle.hd_image.specs.Records.{links_of}
use Rattle.hd_forest.specs.declared.walk.Ahead.{Ahead}
use Rattle.hd_forest.specs.Walks.{AreSegments, IsAhead, tip, moved, next_on}
use Rattle.hd_volume.proofs.CallSteps.{reads-join}
use Rattle.hd_forest.proofs.Reading.{after-read, sound-before, links-kept, volume-kept}
use Rattle.hd_forest.proofs.Held.{held}
use Rattle.hd_forest.proofs.Climbs.{MayBe, next-may, first-root, no-path, a-path, nothing-ahead}
use Rattle.hd_forest.proofs.walk.next_row.Goals as goal

pub step-requires-clause-there : goal.step-requires-clause-there
step-requires-clause-there g c sound =
    let d = c.args.dbd.now in
    let u = c.args.volume.now in
    let m : Links = links_of d.types u in
    let H = held d u (c.requires.of sound).fit (c.requires.of sound) (c.requires.holds sound) in
    let root : c.first_root-root.result ≡ next_row d.types m [] = c.first_root-root.ensures sound (c.requires.of sound).formatted.header.first ∙ sym (first-root d.types m H.graph.header_code) in
    subst (MayBe m) (sym root) (next-may d.types m H.linked.typed refl [] tt)

pub returns-then-last-eq0-clause-value : goal.returns-then-last-eq0-clause-value
returns-then-last-eq0-clause-value g c = on_ok_weaker c.step.result
    (λ value sound.
    let d = c.args.dbd.now in
    let u = c.args.volume.now in
    let m : Links = links_of d.types u in
    let path = c.args.path.now in
    let H = held d u (c.requires.of sound).fit (c.requires.of sound) (c.requires.holds sound) in
    let none : path ≡ [] = no-path m path (c.requires.there sound) (sym c.tip_of-last.ensures ∙ c.if-last-eq0.true) in
    let root : c.first_root-root.result ≡ next_row d.types m path =
    c.first_root-root.ensures sound (c.requires.of sound).formatted.header.first ∙ sym (first-root d.types m H.graph.header_code) ∙ sym (ap (next_row d.types m) none) in
    value sound ∙ ap (moved d.types m path) root)
    c.step.ensures.value

pub look_ahead-requires-clause-there : goal.look_ahead-requires-clause-there
look_ahead-requires-clause-there g c sound =
    let m : Links = links_of c.args.dbd.now.types c.args.volume.now in
    let ne : c.tip_of-last.result ≢ 0 = λ z. (let f = c.if-last-eq0.false in f z) in
    subst (IsSegment m) (sym c.tip_of-last.ensures) (a-path m c.args.path.now (c.requires.there sound) (λ e. ne (c.tip_of-last.ensures ∙ e))).1

pub step_behind-requires-clause-of : goal.step_behind-requires-clause-of
step_behind-requires-clause-of g c = volume-kept c.args.dbd.now c.args.volume.now c.look_ahead.new.volume c.in_ok-ahead.ensures.read c.requires.of

pub step_behind-requires-clause-holds : goal.step_behind-requires-clause-holds
step_behind-requires-clause-holds g c now =
    let u = c.args.volume.now in
    let v = c.look_ahead.new.volume in
    let read = c.in_ok-ahead.ensures.read in
    let sound = sound-before u v read now in
    (after-read c.args.dbd.now u v read sound).forest (c.requires.holds sound)

pub step_behind-requires-clause-there : goal.step_behind-requires-clause-there
step_behind-requires-clause-there g c =
    let d = c.args.dbd.now in
    let none = c.step_ahead.ensures.none c.if-step_ahead.false in
    links-kept d (λ (m : Links). AreSegments m c.step_ahead.new.path) c.args.volume.now c.look_ahead.new.volume c.in_ok-ahead.ensures.read
    (λ sound. subst (AreSegments (links_of d.types c.args.volume.now)) (sym none.0) (c.requires.there sound))

-- what the last of the path was found to name ahead of it
named : (types : List SegmentType) (m : Links) (path : List ℕ) (last : ℕ) (ahead : Ahead) → last ≡ tip path → IsAhead types m last ahead → IsAhead types m (tip path) ahead
named types m path last ahead at is = subst (λ (a : ℕ). IsAhead types m a ahead) at is

pub step_behind-requires-clause-last : goal.step_behind-requires-clause-last
step_behind-requires-clause-last g c =
    let d = c.args.dbd.now in
    let u = c.args.volume.now in
    let path = c.args.path.now in
    let ahead = c.in_ok-ahead.ahead in
    let none = c.step_ahead.ensures.none c.if-step_ahead.false in
    let end : Ahead = record { below = 0; twin = 0; code = ahead.code } in
    links-kept d (λ (m : Links). IsAhead d.types m (tip c.step_ahead.new.path) end) u c.look_ahead.new.volume c.in_ok-ahead.ensures.read
    (λ sound.
    let m : Links = links_of d.types u in
    subst (λ (p : List ℕ). IsAhead d.types m (tip p) end) (sym none.0)
    (nothing-ahead d.types m (tip path) ahead (named d.types m path c.tip_of-last.result ahead c.tip_of-last.ensures (c.in_ok-ahead.ensures.ahead sound)) none.1 none.2))

pub returns-then-step_ahead-clause-value : goal.returns-then-step_ahead-clause-value
returns-then-step_ahead-clause-value g c sound =
    let d = c.args.dbd.now in
    let u = c.args.volume.now in
    let m : Links = links_of d.types u in
    let path = c.args.path.now in
    let some : tip path ≢ 0 = λ z. (let f = c.if-last-eq0.false in f (c.tip_of-last.ensures ∙ z)) in
    c.step_ahead.ensures.next c.if-step_ahead.true u (c.requires.of sound) (c.requires.holds sound) (c.requires.there sound) (omega (arith, some))
    (named d.types m path c.tip_of-last.result c.in_ok-ahead.ahead c.tip_of-last.ensures (c.in_ok-ahead.ensures.ahead sound))

pub returns-clause-read : goal.returns-clause-read
returns-clause-read g c = reads-join c.step_behind.result c.in_ok-ahead.ensures.read c.step_behind.ensures.read

pub returns-clause-value : goal.returns-clause-value
returns-clause-value g c = on_ok_weaker c.step_behind.result
    (λ value sound.
    let d = c.args.dbd.now in
    let u = c.args.volume.now in
    let none = c.step_ahead.ensures.none c.if-step_ahead.false in
    let same = after-read d u c.look_ahead.new.volume c.in_ok-ahead.ensures.read sound in
    value same.sound ∙ ap (λ (k : Links). next_on d.types k c.step_ahead.new.path) same.links ∙ ap (next_on d.types (links_of d.types u)) none.0)
    c.step_behind.ensures.value
