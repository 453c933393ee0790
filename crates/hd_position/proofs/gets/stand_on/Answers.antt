use Rattle.std.proofs.Common.{ℕ, sym, subst, ◌∙◌, ap, ap₂}
use Rattle.hd_dbd.specs.Hierarchy.{level_of}
use Rattle.hd_dbd.specs.Positions.{Place}
use Rattle.hd_dbd.specs.Segment.{Segment}
use Rattle.hd_calls.specs.Gets.{onto}
use Rattle.hd_links.specs.Steps.{tip_from, rows_of}
use Rattle.hd_image.specs.Records.{links_of}
use Rattle.hd_forest.proofs.Walking.{addressed, steps-found}
use Rattle.hd_position.specs.Kept.{StandsFor}
use Rattle.hd_position.proofs.Getting.{stands_onto}
use Rattle.hd_position.proofs.gets.stand_on.Goals as goal

pub returns : goal.returns
returns g c = record {
  value = λ sound f q i hold taken at on are.
      let d = c.args.dbd.now in
      let u = c.args.volume.now in
      let of = c.requires.of sound in
      let R = addressed d u f of.fit of at.holds in
      let there = (steps-found d u f of.fit of at.holds i on.within).tip in
      let code = c.requires.code sound ∙ ap (λ a. (links_of d.types u).code a) (ap (tip_from 0) on.is ∙ there) ∙ ap (λ (r : Segment). r.code) (R.same i on.within) in
      subst (λ k. StandsFor d.types f k (onto d.types (rows_of f) q c.args.kind hold taken i)) (sym c.stand_on.ensures)
      (stands_onto d.types (links_of d.types u) f R c.args.position.now q at.stands c.args.path i on c.args.kind c.args.held hold taken (c.requires.parent sound) are _
      (ap₂ (λ (l c : ℕ). let p : Place = record { level = l; code = c } in p) (c.level.ensures.level ∙ ap (level_of d.types) code) code));
}
