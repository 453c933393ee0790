use Rattle.std.proofs.Common.{◌≡◌, ◌≤◌, Option, None, ℕ, ◌<◌, ◌++◌, ◌∷◌, List, [], sym, ap, ap₂, subst, ◌∙◌, arith, inl, inr}
use Rattle.std.specs.Prelude.{unwrap_or}
use Rattle.std.proofs.lemmas.Bool.{cases_lt}
use Rattle.hd_dbd.specs.Paths.{end_of}
use Rattle.hd_calls.specs.Gets.{first_child}
use Rattle.hd_links.specs.Links.{IsSegment}
use Rattle.hd_links.specs.Steps.{rows_of, address_at}
use Rattle.hd_image.specs.Records.{links_of}
use Rattle.hd_forest.specs.Rows.{IsOnSomeRow}
use Rattle.hd_forest.proofs.Reading.{links-kept, volume-kept}
use Rattle.hd_get.proofs.Grounds.{grounds, tip_is, tip_there, last_behind, short_path_by, told_before}
use Rattle.hd_index.proofs.CallLemmas.{on-ok-map}
use Rattle.hd_get.proofs.LastChildren.{child_parts, last_none, last_some, turned_to_child}
use Rattle.hd_get.proofs.Turns.{turned_aside}
use Rattle.hd_get.specs.Searches.{child_or_end}
use Rattle.hd_get.proofs.steps.down_to_last.Goals as goal

pub last_child-requires-clause-there : goal.last_child-requires-clause-there
last_child-requires-clause-there g c sound =
    let d = c.args.dbd.now in
    let u = c.args.volume.now in
    let T = c.requires.there sound in
    (subst (IsSegment (links_of d.types u)) (sym c.tip_of.ensures)
    (tip_there d.types (links_of d.types u) T.0 (grounds d u T.0 (c.requires.of sound) T.2.holds) c.args.path.now T.1 T.2)).here

pub across-requires-clause-of : goal.across-requires-clause-of
across-requires-clause-of g c = volume-kept c.args.dbd.now c.args.volume.now c.last_child.new.volume c.in_ok-child.ensures.read c.requires.of

pub across-requires-clause-there : goal.across-requires-clause-there
across-requires-clause-there g c =
    links-kept c.args.dbd.now (λ m. IsOnSomeRow c.args.dbd.now.types m c.args.path.now) c.args.volume.now c.last_child.new.volume c.in_ok-child.ensures.read c.requires.there

pub returns-then-child-eq0-clause-value : goal.returns-then-child-eq0-clause-value
returns-then-child-eq0-clause-value g c =
    on-ok-map c.across.result (λ goes f i at test admits end E inside up W.
    let d = c.args.dbd.now in
    let u = c.args.volume.now in
    let m = links_of d.types u in
    let of = c.requires.of at.sound in
    let G = grounds d u f of at.row.holds in
    let is : c.in_ok-child.child ≡ m.last_child (address_at f i) c.args.code
    = c.in_ok-child.ensures.value at.sound ∙ ap (λ a. m.last_child a c.args.code) (c.tip_of.ensures ∙ tip_is d.types m f G c.args.path.now i at.row) in
    let none : first_child d.types (rows_of f) c.args.code i ≡ None
    = last_none d.types m f G.addressed G.steps i c.args.code (m.last_child (address_at f i) c.args.code) at.row.within W.down.child
    (last_behind d u f of at.row.holds i c.args.code at.row.within W.down.child W.kept) (sym is ∙ c.if-child-eq0.true) in
    let T = turned_aside test admits d.types f c.args.parent i end E inside up c.args.code c.across.new.path W.down none
    (goes f i (told_before d u c.last_child.new.volume c.in_ok-child.ensures.read f c.args.path.now i at)) in (
      T.0,
      λ k before.
          (let e : child_or_end d.types (rows_of f) i c.args.code ≡ end_of d.types (rows_of f) i = ap (λ (o : Option ℕ). unwrap_or o (end_of d.types (rows_of f) i)) none in
          let b : child_or_end d.types (rows_of f) i c.args.code ≤ T.0.number = T.1 in
          let inside_ : k < end_of d.types (rows_of f) i = before.inside in omega arith),
    )) c.across.ensures.value

pub returns-clause-value : goal.returns-clause-value
returns-clause-value g c f i at test admits end E inside up W =
    let d = c.args.dbd.now in
    let u = c.args.volume.now in
    let m = links_of d.types u in
    let of = c.requires.of at.sound in
    let G = grounds d u f of at.row.holds in
    let is : c.in_ok-child.child ≡ m.last_child (address_at f i) c.args.code
    = c.in_ok-child.ensures.value at.sound ∙ ap (λ a. m.last_child a c.args.code) (c.tip_of.ensures ∙ tip_is d.types m f G c.args.path.now i at.row) in
    let some : 0 < c.in_ok-child.child = elim (cases_lt 0 c.in_ok-child.child) [
      | inl v ↦ v
      | inr v ↦ absurd (c.if-child-eq0.false (let z : c.in_ok-child.child ≡ 0 = omega arith in z))
    ] in
    let L = last_some d.types m f G.addressed G.steps i c.args.code (m.last_child (address_at f i) c.args.code) at.row.within W.down.child
    (last_behind d u f of at.row.holds i c.args.code at.row.within W.down.child W.kept) (subst (λ x. 0 < x) is some) in
    let P = child_parts d.types (rows_of f) i c.args.code L.0 L.2 in
    let T = turned_to_child test admits d.types f c.args.parent i end E inside up W.down.admitted L.0 L.1 P.0 (W.last L.0 L.1 L.2) c.push.new.self
    (c.push.ensures (short_path_by d u f of c.args.path.now i at.row L.0 L.1 P.0) ∙ ap₂ (λ (xs : List ℕ) x. xs ++ x ∷ []) at.row.is is ∙ L.4) in
    (T.0, λ k before. (let b : k < L.0 = before.before L.0 L.1 L.2 L.3 in let e : T.0.number ≡ L.0 = T.1 in omega arith))
