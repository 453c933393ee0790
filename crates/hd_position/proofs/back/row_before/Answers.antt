use Rattle.std.proofs.Common.{◌≡◌, ◌+◌, ◌-◌, ◌<◌, ℕ, List, ◌∷◌, [], ◌++◌, length, take, ap, sym, subst, ◌∙◌, arith}
use Rattle.std.proofs.lemmas.List.{length-append}
use Rattle.hd_links.specs.Links.{Links}
use Rattle.hd_links.specs.Steps.{LeadsDown}
use Rattle.hd_image.specs.Records.{links_of}
use Rattle.hd_forest.proofs.Reading.{after-read, sound-before, links-kept, volume-kept}
use Rattle.hd_position.specs.Backs.{IsExtended, IsSiblingBefore}
use Rattle.hd_position.proofs.VolumeMoves.{held}
use Rattle.hd_position.proofs.Siblings.{down_there, some_there, parent_before, last_below, sibling_down}
use Rattle.hd_position.proofs.back.row_before.Goals as goal
use Rattle.hd_position.proofs.back.row_before.Goals.{then-sibling-ne0+in_ok-go_to_end, else-sibling-ne0}

pub sibling_before-requires-clause-holds : goal.sibling_before-requires-clause-holds
sibling_before-requires-clause-holds g c sound = (let T = c.requires.there sound in (T.0, T.2.holds))

pub sibling_before-requires-clause-there : goal.sibling_before-requires-clause-there
sibling_before-requires-clause-there g c sound =
    let d = c.args.dbd.now in
    let u = c.args.volume.now in
    let T = c.requires.there sound in
    let D = held d u T.0 (c.requires.of sound) T.2.holds in (
      some_there d.block_size d.frspc d.types (length u.image) (links_of d.types u) T.0 D c.args.path.now T.1 T.2,
      down_there d.block_size d.frspc d.types (length u.image) (links_of d.types u) T.0 D c.args.path.now T.1 T.2,
    )

pub go_to_end-requires-clause-of : goal.go_to_end-requires-clause-of
go_to_end-requires-clause-of g c = volume-kept c.args.dbd.now c.args.volume.now c.sibling_before.new.volume c.in_ok-sibling.ensures.read c.requires.of

pub go_to_end-requires-clause-holds : goal.go_to_end-requires-clause-holds
go_to_end-requires-clause-holds g c now =
    let d = c.args.dbd.now in
    let u = c.args.volume.now in
    let sound = sound-before u c.sibling_before.new.volume c.in_ok-sibling.ensures.read now in
    let T = c.requires.there sound in
    (after-read d u c.sibling_before.new.volume c.in_ok-sibling.ensures.read sound).forest (T.0, T.2.holds)

-- a list with one more has some
some_more : (xs : List ℕ) (x : ℕ) → 0 < length (xs ++ x ∷ [])
some_more xs x = (let e : length (xs ++ x ∷ []) ≡ length xs + 1 = length-append xs (x ∷ []) in omega arith)

pub go_to_end-requires-clause-there : goal.go_to_end-requires-clause-there
go_to_end-requires-clause-there g c =
    links-kept c.args.dbd.now (λ (m : Links). (0 < length c.push.new.self) × LeadsDown c.args.dbd.now.types m 0 c.push.new.self) c.args.volume.now c.sibling_before.new.volume c.in_ok-sibling.ensures.read (λ sound.
    let d = c.args.dbd.now in
    let u = c.args.volume.now in
    let m : Links = links_of d.types u in
    let path : List ℕ = c.args.path.now in
    let s : ℕ = c.in_ok-sibling.sibling in
    let T = c.requires.there sound in
    let D = held d u T.0 (c.requires.of sound) T.2.holds in
    let upper : c.up.new.self ≡ take (length path - 1) path = c.up.ensures.value ∙ ap (λ (xs : List ℕ). take (length xs - 1) xs) c.copy-before.ensures in
    let is : c.push.new.self ≡ take (length path - 1) path ++ s ∷ [] = c.push.ensures c.up.ensures.few ∙ ap (λ (xs : List ℕ). xs ++ s ∷ []) upper in
    subst (λ (p : List ℕ). (0 < length p) × LeadsDown d.types m 0 p) (sym is)
    (some_more (take (length path - 1) path) s, sibling_down d.block_size d.frspc d.types (length u.image) m T.0 D path T.1 T.2 s c.if-sibling-ne0.true (c.in_ok-sibling.ensures.value sound)))

pub returns-clause-value : goal.returns-clause-value
returns-clause-value g c sound f i on =
    let d = c.args.dbd.now in
    let u = c.args.volume.now in
    let m : Links = links_of d.types u in
    let path : List ℕ = c.args.path.now in
    let s : ℕ = c.in_ok-sibling.sibling in
    let D = held d u f (c.requires.of sound) on.holds in
    let S = c.in_ok-sibling.ensures.value sound in
    let upper : c.up.new.self ≡ take (length path - 1) path = c.up.ensures.value ∙ ap (λ (xs : List ℕ). take (length xs - 1) xs) c.copy-before.ensures in
    let same = after-read d u c.sibling_before.new.volume c.in_ok-sibling.ensures.read sound in
    elim c.if-sibling-ne0.branch [
      | then-sibling-ne0+in_ok-go_to_end w ↦
          (let pushed : w.push.new.self ≡ take (length path - 1) path ++ s ∷ [] = w.push.ensures c.up.ensures.few ∙ ap (λ (xs : List ℕ). xs ++ s ∷ []) upper in
          w.before-is
          ∙ last_below d.block_size d.frspc d.types (length u.image) m f D path i on s w.go_to_end.new.path w.if-sibling-ne0.true S
          (subst (λ (p : List ℕ). IsExtended d.types m p w.go_to_end.new.path) pushed (subst (λ (k : Links). IsExtended d.types k w.push.new.self w.go_to_end.new.path) same.links (w.in_ok-go_to_end.ensures.value same.sound))))
      | else-sibling-ne0 w ↦ w.before-is ∙ upper ∙ parent_before d.block_size d.frspc d.types (length u.image) m f D path i on (subst (IsSiblingBefore d.types m path) w.if-sibling-ne0.false S)
    ]
