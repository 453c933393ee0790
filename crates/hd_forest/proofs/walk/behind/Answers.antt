use Rattle.std.proofs.Common.{◌≡◌, ◌≢◌, ℕ, ◌+◌, ◌-◌, ◌<◌, ◌≤◌, List, Ok, true, length, take, slice_index, sym, ap, ap₂, subst, ◌∙◌, refl, arith, inl, inr}
use Rattle.hd_dbd.specs.Types.{SegmentType}
use Rattle.hd_links.specs.Links.{Links, IsSegment}
use Rattle.hd_links.specs.Steps.{behind_span, first_some}
use Rattle.hd_links.proofs.Build.{zero_or}
use Rattle.hd_links.proofs.Ways.{some_zero, some_own}
use Rattle.hd_image.specs.Records.{links_of}
use Rattle.hd_forest.specs.Walks.{tip}
use Rattle.hd_volume.proofs.CallSteps.{reads-join, read-ok}
use Rattle.hd_forest.proofs.Reading.{after-read, links-kept}
use Rattle.hd_forest.proofs.Climbs.{beside_of, up, on-path, above-here}
use Rattle.hd_forest.proofs.walk.behind.Goals as goal

pub beside-requires-clause-there : goal.beside-requires-clause-there
beside-requires-clause-there g c =
    let d = c.args.dbd.now in
    let u = c.args.volume.now in
    let path = c.args.addresses.now in
    let k : ℕ = c.loop-level.level - 1 in
    let low = c.loop-level.invariant.low in
    let some = c.loop-level-test.true in
    let within : k < length path = omega arith in
    links-kept d (λ (m : Links). IsSegment m (slice_index path k)) u c.loop-level.volume c.loop-level.invariant.read
    (λ sound. on-path (links_of d.types u) path k (c.requires.there sound) within)

pub beside-requires-clause-above : goal.beside-requires-clause-above
beside-requires-clause-above g c =
    let d = c.args.dbd.now in
    let u = c.args.volume.now in
    let path = c.args.addresses.now in
    let k : ℕ = c.loop-level.level - 1 in
    links-kept d (λ (m : Links). m.here c.last_of-parent.result ≡ true) u c.loop-level.volume c.loop-level.invariant.read
    (λ sound.
    let m : Links = links_of d.types u in
    subst (λ x. m.here x ≡ true) (sym c.last_of-parent.ensures) (above-here m path k refl (c.requires.there sound)))

-- what was found beside the row of a level, or what follows the span of the one above
one-up : (types : List SegmentType) (m : Links) (path : List ℕ) (level found a h : ℕ) → 0 < level → level ≤ length path → a ≡ slice_index path (level - 1) → h ≡ tip (take (level - 1) path)
    → found ≡ beside_of types m h a → behind_span types m (take level path) ≡ first_some found (behind_span types m (take (level - 1) path))
one-up types m path level found a h some low at above is =
    ap (λ n. behind_span types m (take n path)) (let e : level ≡ level - 1 + 1 = omega arith in e)
    ∙ up types m path (level - 1) (omega arith)
    ∙ ap (λ x. first_some x (behind_span types m (take (level - 1) path))) (sym (is ∙ ap₂ (beside_of types m) above at))

pub returns-then-address-ne0-clause-value : goal.returns-then-address-ne0-clause-value
returns-then-address-ne0-clause-value g c sound =
    let d = c.args.dbd.now in
    let u = c.args.volume.now in
    let m : Links = links_of d.types u in
    let path = c.args.addresses.now in
    let inv = c.loop-level.invariant in
    let level : ℕ = c.loop-level.level in
    let same = after-read d u c.loop-level.volume inv.read sound in
    let found : ℕ = c.in_ok-address.address in
    let a : ℕ = slice_index path (level - 1) in
    let h : ℕ = c.last_of-parent.result in
    let is : found ≡ beside_of d.types m h a = c.in_ok-address.ensures.value same.sound ∙ ap (λ (k : Links). beside_of d.types k h a) same.links in
    let some : 0 < found = (let ne : found ≢ 0 = λ e. (let f = c.if-address-ne0.true in f e) in elim (zero_or found) [ inl z ↦ absurd (ne z) | inr p ↦ p ]) in
    sym (some_own found (behind_span d.types m (take (level - 1) path)) some)
    ∙ sym (one-up d.types m path level found a h c.loop-level-test.true inv.low refl c.last_of-parent.ensures is)
    ∙ inv.left sound

pub loop-level-preserved : goal.loop-level-preserved
loop-level-preserved g c =
    let d = c.args.dbd.now in
    let u = c.args.volume.now in
    let m : Links = links_of d.types u in
    let path = c.args.addresses.now in
    let inv = c.loop-level.invariant in
    let level : ℕ = c.loop-level.level in
    let found : ℕ = c.in_ok-address.address in
    let a : ℕ = slice_index path (level - 1) in
    let h : ℕ = c.last_of-parent.result in
    record {
      read = read-ok 0 (reads-join (Ok found) inv.read c.in_ok-address.ensures.read);
      low = (let low = inv.low in omega arith);
      left = λ sound.
          let same = after-read d u c.loop-level.volume inv.read sound in
          let is : found ≡ beside_of d.types m h a = c.in_ok-address.ensures.value same.sound ∙ ap (λ (k : Links). beside_of d.types k h a) same.links in
          sym (some_zero found (behind_span d.types m (take (level - 1) path)) c.if-address-ne0.false)
          ∙ sym (one-up d.types m path level found a h c.loop-level-test.true inv.low refl c.last_of-parent.ensures is)
          ∙ inv.left sound;
    }
