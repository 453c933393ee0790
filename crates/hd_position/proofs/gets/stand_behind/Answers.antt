use Rattle.std.proofs.Common.{ℕ, ◌-◌, List, [], ◌∷◌, ◌++◌, take, sym, subst, ◌∙◌, ap}
use Rattle.hd_dbd.specs.Hierarchy.{level_of}
use Rattle.hd_dbd.specs.Positions.{Place}
use Rattle.hd_dbd.specs.Segment.{Segment}
use Rattle.hd_calls.specs.Gets.{onto}
use Rattle.hd_links.specs.Steps.{tip_from, rows_of}
use Rattle.hd_links.proofs.Ways.{tip_end}
use Rattle.hd_image.specs.Records.{links_of}
use Rattle.hd_forest.specs.Onward.{onward}
use Rattle.hd_forest.proofs.Walking.{addressed, steps-found}
use Rattle.hd_position.specs.Kept.{Kept, StandsFor}
use Rattle.hd_position.specs.Behind.{own_level, standing_alone}
use Rattle.hd_position.proofs.Getting.{stands_onto}
use Rattle.hd_position.proofs.gets.stand_behind.Goals as goal

pub returns : goal.returns
returns g c = record {
  path =
      let old : Kept = c.args.position.now in
      ap (λ (k : Kept). k.path) c.stand_behind.ensures ∙ ap (λ (l : ℕ). take (l - 1) old.path ++ c.args.address ∷ []) c.level.ensures.level;
  value = λ sound f q i hold taken at on are.
      let d = c.args.dbd.now in
      let u = c.args.volume.now in
      let old : Kept = c.args.position.now in
      let path : List ℕ = onward d.types old.path c.args.address c.args.code in
      let of = c.requires.of sound in
      let R = addressed d u f of.fit of at.holds in
      let there = (steps-found d u f of.fit of at.holds i on.within).tip in
      let end = tip_end 0 (take (level_of d.types c.args.code - 1) old.path) c.args.address in
      let code = c.requires.code sound ∙ ap (λ a. (links_of d.types u).code a) (sym end ∙ ap (tip_from 0) on.is ∙ there) ∙ ap (λ (r : Segment). r.code) (R.same i on.within) in
      let place : Place = record { level = level_of d.types c.args.code; code = c.args.code } in
      let stands : StandsFor d.types f (standing_alone c.args.kind old path place c.args.hold) (onto d.types (rows_of f) q c.args.kind hold taken i)
      = stands_onto d.types (links_of d.types u) f R old q at.stands path i on c.args.kind (own_level c.args.hold path) hold taken (c.requires.parent sound) are place
      (ap (λ (c : ℕ). let p : Place = record { level = level_of d.types c; code = c } in p) code) in
      let named = ap (λ (l : ℕ). let p : Place = record { level = l; code = c.args.code } in standing_alone c.args.kind old (take (l - 1) old.path ++ c.args.address ∷ []) p c.args.hold) c.level.ensures.level in
      subst (λ k. StandsFor d.types f k (onto d.types (rows_of f) q c.args.kind hold taken i)) (sym (c.stand_behind.ensures ∙ named)) stands;
}
