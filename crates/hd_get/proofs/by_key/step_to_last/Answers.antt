use Rattle.std.proofs.Common.{◌≡◌, ℕ, ◌<◌, ◌++◌, ◌∷◌, List, [], true, refl, sym, ap, ap₂, subst, ◌∙◌, arith, inl, inr}
use Rattle.std.specs.List.{list_any}
use Rattle.std.proofs.lemmas.Bool.{cases_lt, and_parts}
use Rattle.hd_links.specs.Links.{IsSegment, is_last_kept}
use Rattle.hd_links.specs.Steps.{rows_of, address_at}
use Rattle.hd_image.specs.Records.{links_of}
use Rattle.hd_get.specs.Asking.{asks_last, goes_to_last}
use Rattle.hd_get.proofs.Grounds.{grounds, tip_is, tip_there, last_behind, short_path_by}
use Rattle.hd_get.proofs.LastChildren.{child_parts, last_some}
use Rattle.hd_get.proofs.Descents.{child_type_is, stayed, stepped_to_last}
use Rattle.hd_get.proofs.by_key.step_to_last.Goals as goal

pub returns-then-not-goes_to_last-clause-value : goal.returns-then-not-goes_to_last-clause-value
returns-then-not-goes_to_last-clause-value g c f i at way = stayed c.args.dbd.now.types (links_of c.args.dbd.now.types c.args.volume.now) f c.args.ssas.now i c.args.code c.args.path.now c.args.path.now at.row refl

pub last_child-requires-clause-there : goal.last_child-requires-clause-there
last_child-requires-clause-there g c sound =
    let d = c.args.dbd.now in
    let u = c.args.volume.now in
    let T = c.requires.there sound in
    (subst (IsSegment (links_of d.types u)) (sym c.tip_of.ensures)
    (tip_there d.types (links_of d.types u) T.0 (grounds d u T.0 (c.requires.of sound) T.2.holds) c.args.path.now T.1 T.2)).here

pub returns-then-child-eq0-clause-value : goal.returns-then-child-eq0-clause-value
returns-then-child-eq0-clause-value g c f i at way = stayed c.args.dbd.now.types (links_of c.args.dbd.now.types c.args.volume.now) f c.args.ssas.now i c.args.code c.args.path.now c.args.path.now at.row refl

pub returns-clause-value : goal.returns-clause-value
returns-clause-value g c f i at way =
    let d = c.args.dbd.now in
    let u = c.args.volume.now in
    let m = links_of d.types u in
    let of = c.requires.of at.sound in
    let G = grounds d u f of at.row.holds in
    let is : c.in_ok-child.child ≡ m.last_child (address_at f i) c.args.code
    = c.in_ok-child.ensures.value at.sound ∙ ap (λ a. m.last_child a c.args.code) (c.tip_of.ensures ∙ tip_is d.types m f G c.args.path.now i at.row) in
    let some : 0 < c.in_ok-child.child = elim (cases_lt 0 c.in_ok-child.child) [
      | inl v ↦ v
      | inr v ↦ absurd (c.if-child-eq0.false (let z : c.in_ok-child.child ≡ 0 = omega arith in z))
    ] in
    let goes : goes_to_last d.types c.args.ssas.now c.args.code ≡ true = sym c.goes_to_last.ensures ∙ c.if-not-goes_to_last.false in
    let kept = (and_parts (is_last_kept d.types c.args.code) (list_any (λ a. asks_last c.args.code a) c.args.ssas.now) goes).0 in
    let typed = child_type_is d u of f c.args.path.now i c.args.code at.row (c.requires.parent at.sound) in
    let L = last_some d.types m f G.addressed G.steps i c.args.code (m.last_child (address_at f i) c.args.code) at.row.within typed
    (last_behind d u f of at.row.holds i c.args.code at.row.within typed kept) (subst (λ x. 0 < x) is some) in
    let P = child_parts d.types (rows_of f) i c.args.code L.0 L.2 in
    stepped_to_last d u of f c.args.path.now i c.args.code at.row (c.requires.parent at.sound) c.args.ssas.now way c.requires.descend goes L.0 L.1 L.2 L.3 c.push.new.self
    (c.push.ensures (short_path_by d u f of c.args.path.now i at.row L.0 L.1 P.0) ∙ ap₂ (λ (xs : List ℕ) x. xs ++ x ∷ []) at.row.is is ∙ L.4)
