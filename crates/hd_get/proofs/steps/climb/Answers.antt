use Rattle.std.proofs.Common.{◌≡◌, ℕ, ◌-◌, ◌<◌, ◌++◌, ◌∷◌, List, [], length, take, sym, ap, ap₂, subst, ◌∙◌, arith, inl, inr}
use Rattle.std.proofs.lemmas.Bool.{false≢true, cases_lt}
use Rattle.hd_links.specs.Links.{IsSegment}
use Rattle.hd_links.specs.Steps.{address_at}
use Rattle.hd_image.specs.Records.{links_of}
use Rattle.hd_get.proofs.Grounds.{grounds, tip_is, tip_there}
use Rattle.hd_get.proofs.Climbs.{up_is, twin_none, twin_some}
use Rattle.hd_get.proofs.steps.climb.Goals as goal

pub next_twin-requires-clause-there : goal.next_twin-requires-clause-there
next_twin-requires-clause-there g c sound =
    let d = c.args.dbd.now in
    let u = c.args.volume.now in
    let T = c.requires.there sound in
    subst (IsSegment (links_of d.types u)) (sym c.tip_of.ensures)
    (tip_there d.types (links_of d.types u) T.0 (grounds d u T.0 (c.requires.of sound) T.2.holds) c.args.path.now T.1 T.2)

pub returns-then-twin-eq0-clause-value : goal.returns-then-twin-eq0-clause-value
returns-then-twin-eq0-clause-value g c f i at =
    let d = c.args.dbd.now in
    let u = c.args.volume.now in
    let m = links_of d.types u in
    let G = grounds d u f (c.requires.of at.sound) at.row.holds in
    let forward : m.forward (address_at f i) ≡ 0
    = ap m.forward (sym (tip_is d.types m f G c.args.path.now i at.row) ∙ sym c.tip_of.ensures) ∙ sym (c.in_ok-twin.ensures.value at.sound) ∙ c.if-twin-eq0.true in
    record {
      twin = λ e. absurd (false≢true e);
      up = λ e. (
        twin_none d.types m f G.addressed i at.row.within (G.steps i at.row.within) forward,
        c.up.ensures.value ∙ ap (λ (xs : List ℕ). take (length xs - 1) xs) at.row.is ∙ up_is d.types f i,
      );
    }

pub returns-clause-value : goal.returns-clause-value
returns-clause-value g c f i at =
    let d = c.args.dbd.now in
    let u = c.args.volume.now in
    let m = links_of d.types u in
    let G = grounds d u f (c.requires.of at.sound) at.row.holds in
    let is : c.in_ok-twin.twin ≡ m.forward (address_at f i)
    = c.in_ok-twin.ensures.value at.sound ∙ ap m.forward (c.tip_of.ensures ∙ tip_is d.types m f G c.args.path.now i at.row) in
    let some : 0 < c.in_ok-twin.twin = elim (cases_lt 0 c.in_ok-twin.twin) [
      | inl v ↦ v
      | inr v ↦ absurd (c.if-twin-eq0.false (let z : c.in_ok-twin.twin ≡ 0 = omega arith in z))
    ] in
    let T = twin_some d.types m f i at.row.within (G.steps i at.row.within) (subst (λ x. 0 < x) is some) in
    record {
      twin = λ e. (
        T.0,
        T.1,
        c.push.ensures c.up.ensures.few
            ∙ ap₂ (λ (xs : List ℕ) x. xs ++ x ∷ []) (c.up.ensures.value ∙ ap (λ (xs : List ℕ). take (length xs - 1) xs) at.row.is ∙ up_is d.types f i) is
            ∙ T.2,
      );
      up = λ e. absurd (false≢true (sym e));
    }
