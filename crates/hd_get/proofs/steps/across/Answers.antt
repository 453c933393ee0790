use Rattle.std.proofs.Common.{◌≡◌, ℕ, ◌<◌, ◌≤◌, List, length, Bool, IsTrue, Ok, sym, subst, ◌∙◌, arith}
use Rattle.hd_dbd.specs.Hierarchy.{Database}
use Rattle.hd_dbd.specs.Forest.{Forest}
use Rattle.hd_volume.specs.Volumes.{VolumeState}
use Rattle.hd_volume.specs.Calls.{IsRead}
use Rattle.hd_volume.proofs.CallSteps.{read-ok, read-none, reads-join}
use Rattle.hd_links.specs.Links.{Links}
use Rattle.hd_links.specs.Placed.{Placed}
use Rattle.hd_links.specs.Steps.{rows_of}
use Rattle.hd_image.specs.Records.{links_of}
use Rattle.hd_forest.specs.Rows.{IsOnRow, IsOnSomeRow}
use Rattle.hd_forest.proofs.Reading.{after-read, links-kept, volume-kept}
use Rattle.hd_get.specs.Searches.{IsPathOf, IsClimbed, GoesAcross}
use Rattle.hd_get.proofs.Grounds.{grounds, tip_is}
use Rattle.hd_get.proofs.Climbs.{climb_begins, climb_goes_on, climb_crosses, climb_ends, empty_is, full_path, parent_there}
use Rattle.hd_get.proofs.steps.across.Goals as goal
use Rattle.hd_get.proofs.steps.across.Goals.{then-loop-path-test+else-tip_of-parent, else-loop-path-test}

pub loop-path-init : goal.loop-path-init
loop-path-init g c = record {
  read = read-none c.args.volume.now 0;
  there = λ some. c.requires.there;
  climbed = λ f i at. climb_begins c.args.dbd.now.types (links_of c.args.dbd.now.types c.args.volume.now) f
      (grounds c.args.dbd.now c.args.volume.now f (c.requires.of at.sound) at.row.holds).addressed c.args.parent i at.row.within c.args.path.now at.row.is;
}

pub climb-requires-clause-of : goal.climb-requires-clause-of
climb-requires-clause-of g c = volume-kept c.args.dbd.now c.args.volume.now c.loop-path.volume c.loop-path.invariant.read c.requires.of

pub climb-requires-clause-there : goal.climb-requires-clause-there
climb-requires-clause-there g c =
    links-kept c.args.dbd.now (λ (m : Links). IsOnSomeRow c.args.dbd.now.types m c.loop-path.path) c.args.volume.now c.loop-path.volume c.loop-path.invariant.read
    (c.loop-path.invariant.there (full_path c.loop-path.path c.addresses.result.now c.is_empty.result c.addresses.ensures.value c.is_empty.ensures c.loop-path-test.true))

pub returns-then-branch-clause-read : goal.returns-then-branch-clause-read
returns-then-branch-clause-read g c = read-ok tt (reads-join (Ok c.in_ok-climb.field-0) c.loop-path.invariant.read c.in_ok-climb.ensures.read)

-- what a step up, or across, did to the path of row k
climbed : (d : Database) (u v : VolumeState) (f : Forest Placed) (k : ℕ) (path new : List ℕ) (r : Bool) → IsRead {T = ℕ} u (Ok 0) v → IsTrue u.is_sound → IsOnRow d.types (links_of d.types u) f path k
    → ((f : Forest Placed) (i : ℕ) → IsPathOf d v f path i → IsClimbed d.types f i r new) → IsClimbed d.types f k r new
climbed d u v f k path new r read sound on value =
    let same = after-read d u v read sound in
    value f k (record { sound = same.sound; row = subst (λ (m : Links). IsOnRow d.types m f path k) (sym same.links) on })

pub returns-then-branch-clause-value : goal.returns-then-branch-clause-value
returns-then-branch-clause-value g c f i at =
    let d = c.args.dbd.now in
    let u = c.args.volume.now in
    let m = links_of d.types u in
    let G = grounds d u f (c.requires.of at.sound) at.row.holds in
    let H = c.loop-path.invariant.climbed f i at in
    let R = H.row (full_path c.loop-path.path c.addresses.result.now c.is_empty.result c.addresses.ensures.value c.is_empty.ensures c.loop-path-test.true) in
    let low : R.0 ≤ i = R.1 in
    let l : i < length (rows_of f) = at.row.within in
    let on : IsOnRow d.types m f c.loop-path.path R.0 = record { holds = at.row.holds; within = omega arith; is = R.2 } in
    let C = climbed d u c.loop-path.volume f R.0 c.loop-path.path c.climb.new.path c.in_ok-climb.field-0 c.loop-path.invariant.read at.sound on c.in_ok-climb.ensures.value in
    let T = C.twin c.if-branch.true in
    climb_crosses d.types m f G.addressed c.args.parent i l R.0 T.0 c.climb.new.path low
    (λ e. c.if-tip_of-parent.true (c.tip_of.ensures ∙ tip_is d.types m f G c.loop-path.path R.0 on ∙ e)) R.3 R.4 T.1 T.2

pub loop-path-preserved : goal.loop-path-preserved
loop-path-preserved g c = record {
  read = read-ok 0 (reads-join (Ok c.in_ok-climb.field-0) c.loop-path.invariant.read c.in_ok-climb.ensures.read);
  there = λ some sound.
      let d = c.args.dbd.now in
      let u = c.args.volume.now in
      let T = c.loop-path.invariant.there (full_path c.loop-path.path c.addresses.result.now c.is_empty.result c.addresses.ensures.value c.is_empty.ensures c.loop-path-test.true) sound in
      let C = climbed d u c.loop-path.volume T.0 T.1 c.loop-path.path c.climb.new.path c.in_ok-climb.field-0 c.loop-path.invariant.read sound T.2 c.in_ok-climb.ensures.value in
      parent_there d.types (links_of d.types u) T.0 T.1 T.2.holds T.2.within c.climb.new.path (C.up c.if-branch.false).1 some;
  climbed = λ f i at.
      let d = c.args.dbd.now in
      let u = c.args.volume.now in
      let m = links_of d.types u in
      let G = grounds d u f (c.requires.of at.sound) at.row.holds in
      let H = c.loop-path.invariant.climbed f i at in
      let R = H.row (full_path c.loop-path.path c.addresses.result.now c.is_empty.result c.addresses.ensures.value c.is_empty.ensures c.loop-path-test.true) in
      let low : R.0 ≤ i = R.1 in
      let l : i < length (rows_of f) = at.row.within in
      let on : IsOnRow d.types m f c.loop-path.path R.0 = record { holds = at.row.holds; within = omega arith; is = R.2 } in
      let C = climbed d u c.loop-path.volume f R.0 c.loop-path.path c.climb.new.path c.in_ok-climb.field-0 c.loop-path.invariant.read at.sound on c.in_ok-climb.ensures.value in
      let U = C.up c.if-branch.false in
      climb_goes_on d.types m f G.addressed c.args.parent i l R.0 c.climb.new.path low
      (λ e. c.if-tip_of-parent.true (c.tip_of.ensures ∙ tip_is d.types m f G c.loop-path.path R.0 on ∙ e)) R.3 R.4 U.0 U.1;
}

pub returns-clause-value : goal.returns-clause-value
returns-clause-value g c f i at =
    let d = c.args.dbd.now in
    let u = c.args.volume.now in
    let m = links_of d.types u in
    let G = grounds d u f (c.requires.of at.sound) at.row.holds in
    let H = c.loop-path.invariant.climbed f i at in
    let l : i < length (rows_of f) = at.row.within in
    subst (GoesAcross d.types f c.args.parent i) (sym c.clear.ensures)
    (climb_ends d.types m f G.addressed c.args.parent i l c.loop-path.path H
    (λ some k low e. elim c.loop-path-test.branch [
      | then-loop-path-test+else-tip_of-parent w ↦
          (let on : IsOnRow d.types m f c.loop-path.path k = record { holds = at.row.holds; within = omega arith; is = e } in
          sym (tip_is d.types m f G c.loop-path.path k on) ∙ sym w.tip_of.ensures ∙ w.if-tip_of-parent.false)
      | else-loop-path-test w ↦ absurd (let z : length c.loop-path.path ≡ 0 = empty_is c.loop-path.path c.addresses.result.now c.is_empty.result c.addresses.ensures.value c.is_empty.ensures w.loop-path-test.false in omega arith)
    ]))
