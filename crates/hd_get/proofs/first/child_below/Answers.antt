use Rattle.std.proofs.Common.{◌≡◌, ℕ, ◌<◌, ◌++◌, ◌∷◌, List, [], Some, None, sym, ap, ap₂, subst, ◌∙◌, arith, inl, inr}
use Rattle.std.specs.Prelude.{option_map, true}
use Rattle.std.proofs.lemmas.Bool.{cases_lt}
use Rattle.hd_dbd.specs.Paths.{row_at}
use Rattle.hd_links.specs.Links.{IsSegment, is_child_type}
use Rattle.hd_links.specs.Steps.{rows_of, address_at, path_at}
use Rattle.hd_image.specs.Records.{links_of}
use Rattle.hd_calls.specs.Gets.{first_child}
use Rattle.hd_position.specs.Kept.{Kept}
use Rattle.hd_get.proofs.Grounds.{grounds, tip_is, tip_there, short_path}
use Rattle.hd_get.proofs.Climbs.{child_none, child_some}
use Rattle.hd_get.proofs.KeptPaths.{up_to, up_none, kept_none}
use Rattle.hd_get.proofs.first.child_below.Goals as goal

pub returns-in_default-clause-value : goal.returns-in_default-clause-value
returns-in_default-clause-value g c f q r at on typed =
    let d = c.args.dbd.now in
    let v = c.args.volume.now in
    let k : Kept = c.args.position.now in
    let of = c.requires.of at.sound in
    let none = kept_none d v f k q of at.at c.args.level (up_none d v f k q of at.at c.args.level c.path_up_to.result c.path_up_to.ensures c.in_default.is) in
    let wrong : None ≡ Some r = sym none ∙ on in cc

pub first_child-requires-clause-there : goal.first_child-requires-clause-there
first_child-requires-clause-there g c sound =
    let d = c.args.dbd.now in
    let u = c.args.volume.now in
    let T = c.requires.there sound in
    let of = c.requires.of sound in
    let U = up_to d u T.0 c.args.position.now T.1 of T.2 c.args.level c.in-Some.path c.path_up_to.result c.path_up_to.ensures c.in-Some.is in
    (subst (IsSegment (links_of d.types u)) (sym c.tip_of.ensures) (tip_there d.types (links_of d.types u) T.0 (grounds d u T.0 of T.2.holds) c.in-Some.path U.0 U.1)).here

pub returns-then-child-eq0-clause-value : goal.returns-then-child-eq0-clause-value
returns-then-child-eq0-clause-value g c f q r at on typed =
    let d = c.args.dbd.now in
    let u = c.args.volume.now in
    let m = links_of d.types u in
    let of = c.requires.of at.sound in
    let G = grounds d u f of at.at.holds in
    let U = up_to d u f c.args.position.now q of at.at c.args.level c.in-Some.path c.path_up_to.result c.path_up_to.ensures c.in-Some.is in
    let one : Some r ≡ Some U.0 = sym on ∙ U.2 in
    let same : r ≡ U.0 = cc in
    let none : m.first_child (address_at f U.0) c.args.code ≡ 0
    = ap (λ a. m.first_child a c.args.code) (sym (c.tip_of.ensures ∙ tip_is d.types m f G c.in-Some.path U.0 U.1)) ∙ sym (c.in_ok-child.ensures.value at.sound) ∙ c.if-child-eq0.true in
    sym (ap (λ x. option_map (λ j. path_at d.types f j) (first_child d.types (rows_of f) c.args.code x)) same
    ∙ ap (option_map (λ j. path_at d.types f j))
    (child_none d.types m f G.addressed U.0 c.args.code U.1.within (G.steps U.0 U.1.within) (subst (λ x. is_child_type d.types (row_at (rows_of f) x).code c.args.code ≡ true) same typed) none))

pub returns-clause-value : goal.returns-clause-value
returns-clause-value g c f q r at on typed =
    let d = c.args.dbd.now in
    let u = c.args.volume.now in
    let m = links_of d.types u in
    let of = c.requires.of at.sound in
    let G = grounds d u f of at.at.holds in
    let U = up_to d u f c.args.position.now q of at.at c.args.level c.in-Some.path c.path_up_to.result c.path_up_to.ensures c.in-Some.is in
    let one : Some r ≡ Some U.0 = sym on ∙ U.2 in
    let same : r ≡ U.0 = cc in
    let is : c.in_ok-child.child ≡ m.first_child (address_at f U.0) c.args.code
    = c.in_ok-child.ensures.value at.sound ∙ ap (λ a. m.first_child a c.args.code) (c.tip_of.ensures ∙ tip_is d.types m f G c.in-Some.path U.0 U.1) in
    let some : 0 < c.in_ok-child.child = elim (cases_lt 0 c.in_ok-child.child) [
      | inl v ↦ v
      | inr v ↦ absurd (c.if-child-eq0.false (let z : c.in_ok-child.child ≡ 0 = omega arith in z))
    ] in
    let T = child_some d.types m f U.0 c.args.code U.1.within (G.steps U.0 U.1.within) (subst (λ x. is_child_type d.types (row_at (rows_of f) x).code c.args.code ≡ true) same typed) (subst (λ x. 0 < x) is some) in
    let made : c.push.new.self ≡ path_at d.types f T.0
    = c.push.ensures (short_path d u f of c.in-Some.path U.0 U.1 T.0 c.args.code T.1) ∙ ap₂ (λ (xs : List ℕ) x. xs ++ x ∷ []) U.1.is is ∙ T.2 in
    ap (λ (xs : List ℕ). Some xs) made
    ∙ sym (ap (λ x. option_map (λ j. path_at d.types f j) (first_child d.types (rows_of f) c.args.code x)) same ∙ ap (option_map (λ j. path_at d.types f j)) T.1)
