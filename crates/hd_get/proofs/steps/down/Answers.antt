use Rattle.std.proofs.Common.{◌≡◌, ℕ, ◌<◌, ◌++◌, ◌∷◌, List, [], sym, ap, ap₂, subst, ◌∙◌, arith, inl, inr}
use Rattle.std.proofs.lemmas.Bool.{cases_lt}
use Rattle.hd_links.specs.Links.{IsSegment}
use Rattle.hd_links.specs.Steps.{address_at}
use Rattle.hd_image.specs.Records.{links_of}
use Rattle.hd_forest.specs.Rows.{IsOnSomeRow}
use Rattle.hd_forest.proofs.Reading.{links-kept, volume-kept}
use Rattle.hd_get.proofs.Grounds.{grounds, tip_is, tip_there, short_path, told_before}
use Rattle.hd_index.proofs.CallLemmas.{on-ok-map}
use Rattle.hd_get.proofs.Climbs.{child_none, child_some}
use Rattle.hd_get.proofs.Turns.{turned_aside, turned_down}
use Rattle.hd_get.proofs.steps.down.Goals as goal

pub first_child-requires-clause-there : goal.first_child-requires-clause-there
first_child-requires-clause-there g c sound =
    let d = c.args.dbd.now in
    let u = c.args.volume.now in
    let T = c.requires.there sound in
    (subst (IsSegment (links_of d.types u)) (sym c.tip_of.ensures)
    (tip_there d.types (links_of d.types u) T.0 (grounds d u T.0 (c.requires.of sound) T.2.holds) c.args.path.now T.1 T.2)).here

pub across-requires-clause-of : goal.across-requires-clause-of
across-requires-clause-of g c = volume-kept c.args.dbd.now c.args.volume.now c.first_child.new.volume c.in_ok-child.ensures.read c.requires.of

pub across-requires-clause-there : goal.across-requires-clause-there
across-requires-clause-there g c =
    links-kept c.args.dbd.now (λ m. IsOnSomeRow c.args.dbd.now.types m c.args.path.now) c.args.volume.now c.first_child.new.volume c.in_ok-child.ensures.read c.requires.there

pub returns-then-child-eq0-clause-value : goal.returns-then-child-eq0-clause-value
returns-then-child-eq0-clause-value g c =
    on-ok-map c.across.result (λ goes f i at test admits end E inside up W.
    let d = c.args.dbd.now in
    let u = c.args.volume.now in
    let m = links_of d.types u in
    let G = grounds d u f (c.requires.of at.sound) at.row.holds in
    let none : m.first_child (address_at f i) c.args.code ≡ 0
    = ap (λ a. m.first_child a c.args.code) (sym (c.tip_of.ensures ∙ tip_is d.types m f G c.args.path.now i at.row)) ∙ sym (c.in_ok-child.ensures.value at.sound) ∙ c.if-child-eq0.true in
    turned_aside test admits d.types f c.args.parent i end E inside up c.args.code c.across.new.path W
    (child_none d.types m f G.addressed i c.args.code at.row.within (G.steps i at.row.within) W.child none)
    (goes f i (told_before d u c.first_child.new.volume c.in_ok-child.ensures.read f c.args.path.now i at))) c.across.ensures.value

pub returns-clause-value : goal.returns-clause-value
returns-clause-value g c f i at test admits end E inside up W =
    let d = c.args.dbd.now in
    let u = c.args.volume.now in
    let m = links_of d.types u in
    let G = grounds d u f (c.requires.of at.sound) at.row.holds in
    let is : c.in_ok-child.child ≡ m.first_child (address_at f i) c.args.code
    = c.in_ok-child.ensures.value at.sound ∙ ap (λ a. m.first_child a c.args.code) (c.tip_of.ensures ∙ tip_is d.types m f G c.args.path.now i at.row) in
    let some : 0 < c.in_ok-child.child = elim (cases_lt 0 c.in_ok-child.child) [
      | inl v ↦ v
      | inr v ↦ absurd (c.if-child-eq0.false (let z : c.in_ok-child.child ≡ 0 = omega arith in z))
    ] in
    let T = child_some d.types m f i c.args.code at.row.within (G.steps i at.row.within) W.child (subst (λ x. 0 < x) is some) in
    turned_down test admits d.types f c.args.parent i end E inside up c.args.code T.0 c.push.new.self W T.1
    (c.push.ensures (short_path d u f (c.requires.of at.sound) c.args.path.now i at.row T.0 c.args.code T.1)
    ∙ ap₂ (λ (xs : List ℕ) x. xs ++ x ∷ []) at.row.is is ∙ T.2)
