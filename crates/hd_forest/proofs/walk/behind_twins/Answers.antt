use Rattle.std.proofs.Common.{◌≡◌, ℕ, ◌-◌, ◌<◌, List, length, take, sym, ap, subst, ◌∙◌, arith, inl, inr}
use Rattle.hd_links.specs.Links.{Links, IsSegment}
use Rattle.hd_links.specs.Steps.{behind_span, first_some}
use Rattle.hd_links.proofs.Build.{zero_or}
use Rattle.hd_links.proofs.Counts.{segment_code}
use Rattle.hd_links.proofs.Types.{ordered}
use Rattle.hd_links.proofs.Ways.{some_zero, some_own}
use Rattle.hd_image.specs.Records.{links_of}
use Rattle.hd_image.proofs.Found.{records-link}
use Rattle.hd_volume.proofs.CallSteps.{reads-join, if-ok}
use Rattle.hd_forest.specs.Walks.{tip, parent_on, AreSegments}
use Rattle.hd_forest.specs.Children.{child_behind}
use Rattle.hd_forest.proofs.Reading.{after-read, links-kept, volume-kept}
use Rattle.hd_forest.proofs.Climbs.{a-path, behind-twins, behind-roots, take-segments}
use Rattle.hd_forest.proofs.walk.behind_twins.Goals as goal

pub returns-then-parent-eq0-clause-value : goal.returns-then-parent-eq0-clause-value
returns-then-parent-eq0-clause-value g c sound =
    let d = c.args.dbd.now in
    let u = c.args.volume.now in
    let m : Links = links_of d.types u in
    let path = c.args.path.now in
    let of = c.requires.of sound in
    let G = records-link d u of.fit of in
    let P = a-path m path (c.requires.there sound) (λ e. let one = c.requires.some in absurd (omega arith)) in
    sym (behind-roots d.types m path (c.requires.there sound) G.header_code (segment_code d.types (ordered d.block_size d.frspc d.types of.fit) (length u.image) m G (tip path) P.1) P.0
    (c.requires.twin sound) (sym c.parent_on-parent.ensures ∙ c.if-parent-eq0.true))

pub below_later-requires-clause-there : goal.below_later-requires-clause-there
below_later-requires-clause-there g c sound =
    let m : Links = links_of c.args.dbd.now.types c.args.volume.now in
    let path = c.args.path.now in
    let parent : c.parent_on-parent.result ≡ parent_on path = c.parent_on-parent.ensures in
    subst (IsSegment m) (sym parent)
    (a-path m (take (length path - 1) path) (take-segments m (length path - 1) path (c.requires.there sound)) (λ e. (let f = c.if-parent-eq0.false in f (parent ∙ e)))).1

-- what is behind the span, by what comes later below the parent
pub returns-then-later-ne0-clause-value : goal.returns-then-later-ne0-clause-value
returns-then-later-ne0-clause-value g c sound =
    let d = c.args.dbd.now in
    let m : Links = links_of d.types c.args.volume.now in
    let path = c.args.path.now in
    let P = a-path m path (c.requires.there sound) (λ e. let one = c.requires.some in absurd (omega arith)) in
    let later : ℕ = c.in_ok-later.later in
    let is : later ≡ child_behind d.types m (parent_on path) (m.code (tip path)) =
    c.in_ok-later.ensures.value sound ∙ ap (λ h. child_behind d.types m h c.args.code) c.parent_on-parent.ensures ∙ ap (child_behind d.types m (parent_on path)) (c.requires.last sound) in
    let rest : ℕ = behind_span d.types m (take (length path - 1) path) in
    let some : 0 < later = elim (zero_or later) [ inl z ↦ absurd (let f = c.if-later-ne0.true in f z) | inr p ↦ p ] in
    sym (behind-twins d.types m path P.0 (c.requires.twin sound) ∙ ap (λ x. first_some x rest) (sym is) ∙ some_own later rest some)

pub behind-requires-clause-of : goal.behind-requires-clause-of
behind-requires-clause-of g c = volume-kept c.args.dbd.now c.args.volume.now c.below_later.new.volume c.in_ok-later.ensures.read c.requires.of

pub behind-requires-clause-there : goal.behind-requires-clause-there
behind-requires-clause-there g c =
    let d = c.args.dbd.now in
    let path = c.args.path.now in
    let most : ℕ = c.saturating_sub.result in
    links-kept d (λ (m : Links). AreSegments m (take most c.addresses-addresses.result.now)) c.args.volume.now c.below_later.new.volume c.in_ok-later.ensures.read
    (λ sound. subst (λ (xs : List ℕ). AreSegments (links_of d.types c.args.volume.now) (take most xs)) (sym c.addresses-addresses.ensures.value)
    (take-segments (links_of d.types c.args.volume.now) most path (c.requires.there sound)))

pub returns-clause-read : goal.returns-clause-read
returns-clause-read g c = reads-join c.behind.result c.in_ok-later.ensures.read c.behind.ensures.read

pub returns-clause-value : goal.returns-clause-value
returns-clause-value g c = if-ok c.behind.result c.behind.ensures.value
    (λ r value sound.
    let d = c.args.dbd.now in
    let u = c.args.volume.now in
    let m : Links = links_of d.types u in
    let path = c.args.path.now in
    let same = after-read d u c.below_later.new.volume c.in_ok-later.ensures.read sound in
    let P = a-path m path (c.requires.there sound) (λ e. let one = c.requires.some in absurd (omega arith)) in
    let later : ℕ = c.in_ok-later.later in
    let is : later ≡ child_behind d.types m (parent_on path) (m.code (tip path)) =
    c.in_ok-later.ensures.value sound ∙ ap (λ h. child_behind d.types m h c.args.code) c.parent_on-parent.ensures ∙ ap (child_behind d.types m (parent_on path)) (c.requires.last sound) in
    let rest : ℕ = behind_span d.types m (take (length path - 1) path) in
    value same.sound
    ∙ ap (λ (k : Links). behind_span d.types k (take c.saturating_sub.result c.addresses-addresses.result.now)) same.links
    ∙ ap (λ (n : ℕ). behind_span d.types m (take n c.addresses-addresses.result.now)) c.saturating_sub.ensures
    ∙ ap (λ (xs : List ℕ). behind_span d.types m (take (length xs - 1) xs)) c.addresses-addresses.ensures.value
    ∙ sym (behind-twins d.types m path P.0 (c.requires.twin sound) ∙ ap (λ x. first_some x rest) (sym is) ∙ some_zero later rest c.if-later-ne0.false))
