use Rattle.std.proofs.Common.{◌≡◌, ℕ, ◌+◌, ◌<◌, ◌≤◌, List, length, Ok, None, sym, subst, arith}
use Rattle.hd_links.specs.Links.{Links, IsSegment}
use Rattle.hd_image.specs.Records.{links_of}
use Rattle.hd_forest.specs.Walks.{tip}
use Rattle.hd_forest.proofs.Reading.{after-read, sound-before, links-kept, volume-kept}
use Rattle.hd_volume.proofs.CallSteps.{read-none, read-ok, reads-join}
use Rattle.hd_position.specs.Backs.{IsLastOrNone}
use Rattle.hd_position.proofs.VolumeMoves.{held}
use Rattle.hd_position.proofs.Siblings.{IsOnTheWay, starts, tip_there, few_levels, on_way_some, arrives, room, goes_on}
use Rattle.hd_position.proofs.back.go_to_end.Goals as goal

pub loop-init : goal.loop-init
loop-init g c = record {
  read = read-none c.args.volume.now 0;
  way = λ sound.
      let d = c.args.dbd.now in
      let u = c.args.volume.now in
      let F = c.requires.holds sound in
      starts d.block_size d.frspc d.types (length u.image) (links_of d.types u) F.0 (held d u F.0 (c.requires.of sound) F.1) c.args.path.now (c.requires.there sound).1;
}

pub last_child_before-requires-clause-of : goal.last_child_before-requires-clause-of
last_child_before-requires-clause-of g c = volume-kept c.args.dbd.now c.args.volume.now c.loop.volume c.loop.invariant.read c.requires.of

pub last_child_before-requires-clause-holds : goal.last_child_before-requires-clause-holds
last_child_before-requires-clause-holds g c now =
    let d = c.args.dbd.now in
    let u = c.args.volume.now in
    let sound = sound-before u c.loop.volume c.loop.invariant.read now in
    (after-read d u c.loop.volume c.loop.invariant.read sound).forest (c.requires.holds sound)

pub last_child_before-requires-clause-there : goal.last_child_before-requires-clause-there
last_child_before-requires-clause-there g c =
    links-kept c.args.dbd.now (λ (m : Links). IsSegment m c.tip_of.result) c.args.volume.now c.loop.volume c.loop.invariant.read (λ sound.
    let d = c.args.dbd.now in
    let u = c.args.volume.now in
    let m : Links = links_of d.types u in
    let F = c.requires.holds sound in
    let D = held d u F.0 (c.requires.of sound) F.1 in
    let W = c.loop.invariant.way sound in
    subst (IsSegment m) (sym c.tip_of.ensures)
    (tip_there d.block_size d.frspc d.types (length u.image) m F.0 D c.loop.path
    (on_way_some d.block_size d.frspc d.types (length u.image) m F.0 D c.args.path.now c.loop.path c.loop.counter (c.requires.there sound).0 W) W.down))

pub returns-then-child-eq0-clause-read : goal.returns-then-child-eq0-clause-read
returns-then-child-eq0-clause-read g c = read-ok tt (reads-join (Ok c.in_ok-child.child) c.loop.invariant.read c.in_ok-child.ensures.read)

pub returns-then-child-eq0-clause-value : goal.returns-then-child-eq0-clause-value
returns-then-child-eq0-clause-value g c sound =
    let d = c.args.dbd.now in
    let u = c.args.volume.now in
    let m : Links = links_of d.types u in
    let F = c.requires.holds sound in
    let D = held d u F.0 (c.requires.of sound) F.1 in
    let same = after-read d u c.loop.volume c.loop.invariant.read sound in
    arrives d.block_size d.frspc d.types (length u.image) m F.0 D c.args.path.now c.loop.path c.loop.counter (c.requires.there sound).0 (c.loop.invariant.way sound)
    (subst (λ r. IsLastOrNone d.types m (tip c.loop.path) None r) c.if-child-eq0.true
    (subst (λ h. IsLastOrNone d.types m h None c.in_ok-child.child) c.tip_of.ensures
    (subst (λ (k : Links). IsLastOrNone d.types k c.tip_of.result None c.in_ok-child.child) same.links (c.in_ok-child.ensures.value same.sound))))

pub loop-preserved : goal.loop-preserved
loop-preserved g c = record {
  read = read-ok 0 (reads-join (Ok c.in_ok-child.child) c.loop.invariant.read c.in_ok-child.ensures.read);
  way = λ sound.
      let d = c.args.dbd.now in
      let u = c.args.volume.now in
      let m : Links = links_of d.types u in
      let F = c.requires.holds sound in
      let D = held d u F.0 (c.requires.of sound) F.1 in
      let same = after-read d u c.loop.volume c.loop.invariant.read sound in
      let W = c.loop.invariant.way sound in
      let some = (c.requires.there sound).0 in
      let last = subst (λ h. IsLastOrNone d.types m h None c.in_ok-child.child) c.tip_of.ensures
      (subst (λ (k : Links). IsLastOrNone d.types k c.tip_of.result None c.in_ok-child.child) same.links (c.in_ok-child.ensures.value same.sound)) in
      subst (λ (p : List ℕ). IsOnTheWay d.types m c.args.path.now p (c.loop.counter + 1))
      (sym (c.push.ensures (room d.block_size d.frspc d.types (length u.image) m F.0 D c.args.path.now c.loop.path c.loop.counter some W c.in_ok-child.child c.if-child-eq0.false last)))
      (goes_on d.block_size d.frspc d.types (length u.image) m F.0 D c.args.path.now c.loop.path c.loop.counter some W c.in_ok-child.child c.if-child-eq0.false last);
}

pub returns-clause-value : goal.returns-clause-value
returns-clause-value g c sound =
    let d = c.args.dbd.now in
    let u = c.args.volume.now in
    let m : Links = links_of d.types u in
    let F = c.requires.holds sound in
    let D = held d u F.0 (c.requires.of sound) F.1 in
    let W = c.loop.invariant.way sound in
    let some : 0 < length c.args.path.now = (c.requires.there sound).0 in
    let long : length c.loop.path ≡ length c.args.path.now + c.loop.counter = W.long in
    let few : length c.loop.path ≤ 15 = few_levels d.block_size d.frspc d.types (length u.image) m F.0 D c.loop.path
    (on_way_some d.block_size d.frspc d.types (length u.image) m F.0 D c.args.path.now c.loop.path c.loop.counter some W) W.down in
    let over = c.loop-test.false in
    absurd (omega arith)
