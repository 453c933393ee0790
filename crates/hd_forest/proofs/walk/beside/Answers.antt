use Rattle.std.proofs.Common.{◌≡◌, ◌≢◌, ℕ, ◌<◌, length, sym, ap, subst, ◌∙◌, inl, inr}
use Rattle.hd_links.specs.Links.{Links, child_types}
use Rattle.hd_links.specs.Steps.{child_among, later_than}
use Rattle.hd_links.proofs.Build.{zero_or}
use Rattle.hd_links.proofs.Counts.{segment_code}
use Rattle.hd_links.proofs.Types.{ordered}
use Rattle.hd_links.proofs.Ways.{some_zero, some_own}
use Rattle.hd_image.specs.Records.{links_of}
use Rattle.hd_image.proofs.Found.{records-link}
use Rattle.hd_volume.proofs.CallSteps.{reads-join, if-ok}
use Rattle.hd_forest.proofs.Reading.{after-read, volume-kept}
use Rattle.hd_forest.proofs.Climbs.{none-later}
use Rattle.hd_forest.proofs.walk.beside.Goals as goal
use Rattle.hd_forest.proofs.walk.beside.Goals.{then-twin-ne0-via-then-twin-ne0, then-twin-ne0-via-else-twin-ne0+then-parent-eq0}

pub returns-then-twin-ne0-clause-value : goal.returns-then-twin-ne0-clause-value
returns-then-twin-ne0-clause-value g c sound =
    let d = c.args.dbd.now in
    let u = c.args.volume.now in
    let m : Links = links_of d.types u in
    let a : ℕ = c.args.address in
    let h : ℕ = c.args.parent in
    let twin : c.in_ok-twin.twin ≡ m.forward a = c.in_ok-twin.ensures.twin sound in
    elim c.then-twin-ne0.branch [
      | then-twin-ne0-via-then-twin-ne0 w ↦
          (let ne : c.in_ok-twin.twin ≢ 0 = λ e. (let f = w.if-twin-ne0.true in f e) in
          let some : 0 < m.forward a = subst (λ x. 0 < x) twin (elim (zero_or c.in_ok-twin.twin) [ inl z ↦ absurd (ne z) | inr p ↦ p ]) in
          twin ∙ sym (some_own (m.forward a) (child_among m h (later_than (m.code a) (child_types d.types (m.code h)))) some))
      | then-twin-ne0-via-else-twin-ne0+then-parent-eq0 w ↦
          (let G = records-link d u (c.requires.of sound).fit (c.requires.of sound) in
          let O = ordered d.block_size d.frspc d.types (c.requires.of sound).fit in
          twin ∙ sym (none-later d.types m h a w.if-parent-eq0.true G.header_code (segment_code d.types O (length u.image) m G a (c.requires.there sound))))
    ]

pub below_later-requires-clause-of : goal.below_later-requires-clause-of
below_later-requires-clause-of g c = volume-kept c.args.dbd.now c.args.volume.now c.twin_and_code.new.volume c.in_ok-twin.ensures.read c.requires.of

pub returns-clause-read : goal.returns-clause-read
returns-clause-read g c = reads-join c.below_later.result c.in_ok-twin.ensures.read c.below_later.ensures.read

pub returns-clause-value : goal.returns-clause-value
returns-clause-value g c = if-ok c.below_later.result c.below_later.ensures.value
    (λ r value sound.
    let d = c.args.dbd.now in
    let u = c.args.volume.now in
    let m : Links = links_of d.types u in
    let a : ℕ = c.args.address in
    let h : ℕ = c.args.parent in
    let same = after-read d u c.twin_and_code.new.volume c.in_ok-twin.ensures.read sound in
    let none : m.forward a ≡ 0 = sym (c.in_ok-twin.ensures.twin sound) ∙ c.if-twin-ne0.false in
    let rest : ℕ = child_among m h (later_than (m.code a) (child_types d.types (m.code h))) in
    value same.sound
    ∙ ap (λ (k : Links). child_among k h (later_than c.in_ok-twin.code (child_types d.types (k.code h)))) same.links
    ∙ ap (λ (x : ℕ). child_among m h (later_than x (child_types d.types (m.code h)))) (c.in_ok-twin.ensures.code sound)
    ∙ sym (some_zero (m.forward a) rest none))
