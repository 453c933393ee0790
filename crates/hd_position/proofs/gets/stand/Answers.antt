use Rattle.std.proofs.Common.{ℕ, sym, subst, ◌∙◌, ap, ap₂}
use Rattle.hd_dbd.specs.Hierarchy.{level_of}
use Rattle.hd_dbd.specs.Positions.{Place}
use Rattle.hd_dbd.specs.Segment.{Segment}
use Rattle.hd_links.specs.Links.{IsSegment}
use Rattle.hd_calls.specs.Gets.{onto}
use Rattle.hd_links.specs.Steps.{tip_from, rows_of}
use Rattle.hd_image.specs.Records.{links_of}
use Rattle.hd_forest.proofs.Walking.{addressed, steps-found}
use Rattle.hd_position.specs.Kept.{StandsFor}
use Rattle.hd_position.proofs.Getting.{stands_onto}
use Rattle.hd_position.proofs.gets.stand.Goals as goal

pub code_at-requires-clause-there : goal.code_at-requires-clause-there
code_at-requires-clause-there g c sound =
    let d = c.args.dbd.now in
    let u = c.args.volume.now in
    let of = c.requires.of sound in
    let T = c.requires.there sound in
    subst (IsSegment (links_of d.types u)) (sym (c.tip_of.ensures ∙ ap (tip_from 0) T.2.is ∙ (steps-found d u T.0 of.fit of T.2.holds T.1 T.2.within).tip)) ((addressed d u T.0 of.fit of T.2.holds).there T.1 T.2.within)

pub returns-clause-value : goal.returns-clause-value
returns-clause-value g c sound f q i hold taken at on are =
    let d = c.args.dbd.now in
    let u = c.args.volume.now in
    let of = c.requires.of sound in
    let R = addressed d u f of.fit of at.holds in
    let there = (steps-found d u f of.fit of at.holds i on.within).tip in
    let code = c.in_ok-code.ensures.value sound ∙ ap (λ a. (links_of d.types u).code a) (c.tip_of.ensures ∙ ap (tip_from 0) on.is ∙ there) ∙ ap (λ (r : Segment). r.code) (R.same i on.within) in
    subst (λ k. StandsFor d.types f k (onto d.types (rows_of f) q c.args.kind hold taken i)) (sym c.stand_on.ensures)
    (stands_onto d.types (links_of d.types u) f R c.args.position.now q at.stands c.args.path i on c.args.kind c.args.held hold taken (c.requires.parent sound) are _
    (ap₂ (λ (l c : ℕ). let p : Place = record { level = l; code = c } in p) (c.level.ensures.level ∙ ap (level_of d.types) code) code))
