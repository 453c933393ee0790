use Rattle.std.proofs.Common.{◌≡◌, ◌≢◌, ◌<◌, ℕ, List, [], ◌∷◌, ◌++◌, Bool, true, false, not, ◌&&◌, refl, sym, ap, ap₂, subst, ◌∙◌, eq-eqb, ne_eqb, arith, inl, inr}
use Rattle.std.specs.Prelude.{◌==◌, ◌⊎◌}
use Rattle.std.proofs.lemmas.Bool.{cond-false, cases_lt}
use Rattle.hd_volume.proofs.CallSteps.{if-ok}
use Rattle.hd_links.specs.Links.{Links, IsSegment}
use Rattle.hd_image.specs.Records.{links_of}
use Rattle.hd_image.specs.Pointing.{without_record}
use Rattle.hd_forest.specs.Walks.{tip, AreSegments, IsAhead}
use Rattle.hd_forest.specs.Spans.{below_on, extended, freed_last, IsStep}
use Rattle.hd_forest.proofs.Climbs.{tip-some}
use Rattle.hd_forest.proofs.Reading.{after-read, links-kept}
use Rattle.hd_forest.proofs.Freed.{recorded-after, recorded-read, went-down, freed-one}
use Rattle.hd_forest.proofs.unlink.free_next.Goals as goal

pub look_ahead-requires-clause-there : goal.look_ahead-requires-clause-there
look_ahead-requires-clause-there g c sound =
    let m : Links = links_of c.args.dbd.now.types c.args.volume.now in
    subst (IsSegment m) (sym c.tip_of.ensures) (tip-some m 0 c.args.path.now (c.requires.there sound) (c.requires.some sound))

-- a path with the row below it, which there is
with_below : (path : List ℕ) (a b : ℕ) → a ≡ b → a ≢ 0 → path ++ a ∷ [] ≡ extended path b
with_below path a b is some =
    ap (λ (x : ℕ). path ++ x ∷ []) is ∙ sym (ap (λ (xs : List ℕ). path ++ xs) (cond-false (b == 0) [] (b ∷ []) (ne_eqb b 0 (λ z. some (is ∙ z)))))

pub returns-then-ahead-ne0-clause-freed : goal.returns-then-ahead-ne0-clause-freed
returns-then-ahead-ne0-clause-freed g c sound =
    let d = c.args.dbd.now in
    let u = c.args.volume.now in
    let m : Links = links_of d.types u in
    let path = c.args.path.now in
    let child : ℕ = c.in_ok-ahead.ahead.below in
    let below : child ≡ below_on d.types m path = (c.in_ok-ahead.ensures.ahead sound).below ∙ ap (λ (a : ℕ). below_on d.types m (a ∷ [])) c.tip_of.ensures in
    let some : child ≢ 0 = λ e. (let f = c.if-ahead-ne0.true in f e) in
    let more : 0 < below_on d.types m path = elim (cases_lt 0 (below_on d.types m path)) [
      | inl w ↦ w
      | inr w ↦ absurd (some (below ∙ (let z : below_on d.types m path ≡ 0 = omega arith in z)))
    ] in
    let test : (c.args.down && not (below_on d.types m path == 0)) ≡ true
    = ap₂ (λ (x y : Bool). x && not y) c.if-down.true (ne_eqb (below_on d.types m path) 0 (λ z. some (below ∙ z))) in
    went-down d u c.look_ahead.new.volume m path c.push.new.self c.args.down test c.if-down.true
    (c.push.ensures (c.requires.deep sound c.if-down.true more) ∙ with_below path child (below_on d.types m path) below some)
    (recorded-read d u c.look_ahead.new.volume c.in_ok-ahead.ensures.read sound (c.requires.of sound))

pub free_last-requires-clause-there : goal.free_last-requires-clause-there
free_last-requires-clause-there g c = links-kept c.args.dbd.now (λ (m : Links). AreSegments m c.args.path.now) c.args.volume.now c.look_ahead.new.volume c.in_ok-ahead.ensures.read c.requires.there

pub free_last-requires-clause-ahead : goal.free_last-requires-clause-ahead
free_last-requires-clause-ahead g c =
    links-kept c.args.dbd.now (λ (m : Links). IsAhead c.args.dbd.now.types m (tip c.args.path.now) c.in_ok-ahead.ahead) c.args.volume.now c.look_ahead.new.volume c.in_ok-ahead.ensures.read
    (λ sound. subst (λ (a : ℕ). IsAhead c.args.dbd.now.types (links_of c.args.dbd.now.types c.args.volume.now) a c.in_ok-ahead.ahead) c.tip_of.ensures (c.in_ok-ahead.ensures.ahead sound))

-- nothing is gone down to where that is not asked for, or there is none
stays : (down : Bool) (child below : ℕ) → child ≡ below → ((down ≡ true) × (child ≡ 0)) ⊎ (down ≡ false) → (down && not (below == 0)) ≡ false
stays down child below is (inl both) = ap (λ (y : Bool). down && not y) (eq-eqb below 0 (sym is ∙ both.1)) ∙ none down
  where
    none : (b : Bool) → (b && false) ≡ false
    none true = refl
    none false = refl
stays down child below is (inr stay) = ap (λ (x : Bool). x && not (below == 0)) stay

pub returns-clause-freed : goal.returns-clause-freed
returns-clause-freed g c = if-ok c.free_last.result c.free_last.ensures.freed
    (λ more step sound.
    let d = c.args.dbd.now in
    let u = c.args.volume.now in
    let v = c.look_ahead.new.volume in
    let w = c.free_last.new.volume in
    let m : Links = links_of d.types u in
    let path = c.args.path.now in
    let down = c.args.down in
    let same = after-read d u v c.in_ok-ahead.ensures.read sound in
    let below : c.in_ok-ahead.ahead.below ≡ below_on d.types m path = (c.in_ok-ahead.ensures.ahead sound).below ∙ ap (λ (a : ℕ). below_on d.types m (a ∷ [])) c.tip_of.ensures in
    let test : (down && not (below_on d.types m path == 0)) ≡ false = stays down c.in_ok-ahead.ahead.below (below_on d.types m path) below c.else-down.either in
    let done : IsStep d v (freed_last d.types (record { path = path; down = more; records = m })) c.free_last.new.path more w =
    subst (λ (k : Links). IsStep d v (freed_last d.types (record { path = path; down = more; records = k })) c.free_last.new.path more w) same.links (step same.sound) in
    freed-one d u w m path c.free_last.new.path down more test
    (record { path_is = done.path_is; down_is = done.down_is; records = recorded-after d (without_record m (tip path)) u v w c.in_ok-ahead.ensures.read sound (same.volume (c.requires.of sound)) done.records }))
