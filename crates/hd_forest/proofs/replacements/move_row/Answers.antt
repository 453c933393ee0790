use Rattle.std.proofs.Common.{◌≡◌, ℕ, length, IsTrue, IfErr, Result, Err, Ok, sym, ap, subst, ◌∙◌}
use Rattle.std.proofs.lemmas.Result.{err_from_is_err_and}
use Rattle.hd_dbd.specs.declared.answer.Refused.{Refused}
use Rattle.hd_dbd.specs.declared.answer.Refused.TheVariants.{Memory}
use Rattle.hd_dbd.specs.Hierarchy.{Database}
use Rattle.hd_dbd.specs.Segment.{Segment}
use Rattle.hd_dbd.specs.Prefixes.{size_with}
use Rattle.hd_volume.specs.Volumes.{VolumeState}
use Rattle.hd_volume.specs.Rooms.{HasHole, HasFreeBlock}
use Rattle.hd_volume.specs.Calls.{IsCall}
use Rattle.hd_volume.proofs.JoinLemmas.{calls-join}
use Rattle.hd_volume.proofs.CallSteps.{call-ok, reads-join}
use Rattle.hd_links.specs.Links.{Links, IsSegment}
use Rattle.hd_image.specs.Records.{links_of}
use Rattle.hd_forest.specs.Walks.{tip, parent_on}
use Rattle.hd_forest.specs.Sets.{named, IsTwinPlace, IsRecorded}
use Rattle.hd_forest.specs.Replacing.{IsSegmentSet}
use Rattle.hd_forest.proofs.Reading.{after-read, sound-before, volume-kept, links-kept}
use Rattle.hd_forest.proofs.Keeping.{keeps-same, free-seen}
use Rattle.hd_forest.proofs.Naming.{sound-as}
use Rattle.hd_forest.proofs.RowsSet.{outgrown, MayMove, may-move-after, before-there, behind-there, move-done, row-set-read}
use Rattle.hd_forest.proofs.replacements.move_row.Goals as goal

pub next_twin-requires-clause-of : goal.next_twin-requires-clause-of
next_twin-requires-clause-of g c = volume-kept c.args.dbd.now c.args.volume.now c.prev_twin.new.volume c.in_ok-before.ensures.read c.requires.of

pub next_twin-requires-clause-there : goal.next_twin-requires-clause-there
next_twin-requires-clause-there g c =
    let d = c.args.dbd.now in
    let u = c.args.volume.now in
    links-kept d (λ (m : Links). IsSegment m c.tip_of-address.result) u c.prev_twin.new.volume c.in_ok-before.ensures.read
    (λ sound. subst (λ (a : ℕ). IsSegment (links_of d.types u) a) (sym c.tip_of-address.ensures) (c.requires.can sound).there)

pub set_segment-requires-clause-of : goal.set_segment-requires-clause-of
set_segment-requires-clause-of g c =
    volume-kept c.args.dbd.now c.args.volume.now c.next_twin.new.volume (reads-join (Ok c.in_ok-behind.behind) c.in_ok-before.ensures.read c.in_ok-behind.ensures.read) c.requires.of

pub set_segment-requires-clause-there : goal.set_segment-requires-clause-there
set_segment-requires-clause-there g c =
    let d = c.args.dbd.now in
    let u = c.args.volume.now in
    links-kept d (λ (m : Links). IsSegment m c.tip_of-address.result) u c.next_twin.new.volume (reads-join (Ok c.in_ok-behind.behind) c.in_ok-before.ensures.read c.in_ok-behind.ensures.read)
    (λ sound. subst (λ (a : ℕ). IsSegment (links_of d.types u) a) (sym c.tip_of-address.ensures) (c.requires.can sound).there)

pub set_segment-requires-clause-typed : goal.set_segment-requires-clause-typed
set_segment-requires-clause-typed g c =
    let d = c.args.dbd.now in
    let u = c.args.volume.now in
    links-kept d (λ (m : Links). m.code c.tip_of-address.result ≡ c.args.code) u c.next_twin.new.volume (reads-join (Ok c.in_ok-behind.behind) c.in_ok-before.ensures.read c.in_ok-behind.ensures.read)
    (λ sound. ap (links_of d.types u).code c.tip_of-address.ensures ∙ c.requires.typed sound)

pub returns-in_err-to-clause-call : goal.returns-in_err-to-clause-call
returns-in_err-to-clause-call g c =
    let p = err_from_is_err_and c.from_residual-in_err-to.result c.from_residual-in_err-to.ensures.1 in
    subst (λ (r : Result ℕ Refused). IsCall c.args.volume.now r c.set_segment.new.volume) (sym (p.1 ∙ ap Err p.2))
    (calls-join (Err c.in_err-to.field-0.0) (reads-join (Ok c.in_ok-behind.behind) c.in_ok-before.ensures.read c.in_ok-behind.ensures.read).call c.in_err-to.ensures.call)

pub returns-in_err-to-clause-no_free : goal.returns-in_err-to-clause-no_free
returns-in_err-to-clause-no_free g c =
    let d = c.args.dbd.now in
    let u : VolumeState = c.args.volume.now in
    let v : VolumeState = c.next_twin.new.volume in
    let two = reads-join (Ok c.in_ok-behind.behind) c.in_ok-before.ensures.read c.in_ok-behind.ensures.read in
    let p = err_from_is_err_and c.from_residual-in_err-to.result c.from_residual-in_err-to.ensures.1 in
    subst (λ (r : Result ℕ Refused). IfErr r (λ e. e ≡ Memory → IsTrue u.is_sound → HasFreeBlock u → ⊥)) (sym (p.1 ∙ ap Err p.2))
    (λ memory sound free.
    let same = after-read d u v two sound in
    c.in_err-to.ensures.no_free memory same.sound (free-seen u v same.image two.call.size free))

pub returns-in_err-to-clause-no_hole : goal.returns-in_err-to-clause-no_hole
returns-in_err-to-clause-no_hole g c =
    let d = c.args.dbd.now in
    let u : VolumeState = c.args.volume.now in
    let v : VolumeState = c.next_twin.new.volume in
    let two = reads-join (Ok c.in_ok-behind.behind) c.in_ok-before.ensures.read c.in_ok-behind.ensures.read in
    let p = err_from_is_err_and c.from_residual-in_err-to.result c.from_residual-in_err-to.ensures.1 in
    subst (λ (r : Result ℕ Refused). IfErr r (λ e. e ≡ Memory → IsTrue u.is_sound → HasHole u (size_with d.types c.args.code (length c.args.bytes.now)) → ⊥)) (sym (p.1 ∙ ap Err p.2))
    (λ memory sound hole.
    let same = after-read d u v two sound in
    c.in_err-to.ensures.no_hole memory same.sound ((keeps-same u v same.image two.call.size two.call.sizes).holes _ hole))

pub name_leaf-requires-clause-before : goal.name_leaf-requires-clause-before
name_leaf-requires-clause-before g c now =
    let d : Database = c.args.dbd.now in
    let u : VolumeState = c.args.volume.now in
    let v : VolumeState = c.next_twin.new.volume in
    let w : VolumeState = c.set_segment.new.volume in
    let path = c.args.path.now in
    let row : Segment = record { code = c.args.code; bytes = c.args.bytes.now } in
    let y : ℕ = c.in_ok-before.before in
    let two = reads-join (Ok c.in_ok-behind.behind) c.in_ok-before.ensures.read c.in_ok-behind.ensures.read in
    let there = sound-as v.is_sound w.is_sound c.in_ok-to.ensures.call.sound now in
    let sound = sound-before u v two there in
    let of = c.requires.of sound in
    let can = c.requires.can sound in
    let may : MayMove d u path row y = record {
      of = of;
      forest = c.requires.holds sound;
      down = c.requires.there sound;
      typed = c.requires.typed sound;
      replace = can;
      unlink = c.in_ok-before.ensures.value sound;
      low = outgrown d u (tip path) (size_with d.types c.args.code (length c.args.bytes.now)) of.fit of can.there (c.requires.outgrows sound);
    } in
    let set = subst (λ (a : ℕ). IsSegmentSet d v a row c.in_ok-to.to w) c.tip_of-address.ensures (c.in_ok-to.ensures.set there) in
    subst (λ (h : ℕ). IsTwinPlace d.types (links_of d.types w) h c.args.code y) (sym c.parent_on-parent.ensures)
    (before-there d v w path row y c.in_ok-to.to (may-move-after d u v path row y two sound may) set)

pub name_leaf-requires-clause-behind : goal.name_leaf-requires-clause-behind
name_leaf-requires-clause-behind g c now =
    let d : Database = c.args.dbd.now in
    let u : VolumeState = c.args.volume.now in
    let v : VolumeState = c.next_twin.new.volume in
    let w : VolumeState = c.set_segment.new.volume in
    let path = c.args.path.now in
    let row : Segment = record { code = c.args.code; bytes = c.args.bytes.now } in
    let y : ℕ = c.in_ok-before.before in
    let two = reads-join (Ok c.in_ok-behind.behind) c.in_ok-before.ensures.read c.in_ok-behind.ensures.read in
    let there = sound-as v.is_sound w.is_sound c.in_ok-to.ensures.call.sound now in
    let sound = sound-before u v two there in
    let of = c.requires.of sound in
    let can = c.requires.can sound in
    let may : MayMove d u path row y = record {
      of = of;
      forest = c.requires.holds sound;
      down = c.requires.there sound;
      typed = c.requires.typed sound;
      replace = can;
      unlink = c.in_ok-before.ensures.value sound;
      low = outgrown d u (tip path) (size_with d.types c.args.code (length c.args.bytes.now)) of.fit of can.there (c.requires.outgrows sound);
    } in
    let set = subst (λ (a : ℕ). IsSegmentSet d v a row c.in_ok-to.to w) c.tip_of-address.ensures (c.in_ok-to.ensures.set there) in
    let one = after-read d u c.prev_twin.new.volume c.in_ok-before.ensures.read sound in
    let same = after-read d u v two sound in
    let behind : (links_of d.types v).forward (tip path) ≡ c.in_ok-behind.behind =
    sym (c.in_ok-behind.ensures.value one.sound ∙ ap (λ (m : Links). m.forward c.tip_of-address.result) (one.links ∙ sym same.links) ∙ ap (links_of d.types v).forward c.tip_of-address.ensures) in
    subst (λ (h : ℕ). IsTwinPlace d.types (links_of d.types w) h c.args.code c.in_ok-behind.behind) (sym c.parent_on-parent.ensures)
    (subst (λ (x : ℕ). IsTwinPlace d.types (links_of d.types w) (parent_on path) c.args.code x) behind
    (behind-there d v w path row y c.in_ok-to.to (may-move-after d u v path row y two sound may) set))

pub returns-clause-call : goal.returns-clause-call
returns-clause-call g c =
    calls-join (Ok c.in_ok-to.to) (reads-join (Ok c.in_ok-behind.behind) c.in_ok-before.ensures.read c.in_ok-behind.ensures.read).call
    (calls-join (Ok c.in_ok-to.to) c.in_ok-to.ensures.call (call-ok c.in_ok-to.to c.in_ok-name_leaf.ensures.call))

pub returns-clause-set : goal.returns-clause-set
returns-clause-set g c sound =
    let d : Database = c.args.dbd.now in
    let u : VolumeState = c.args.volume.now in
    let v : VolumeState = c.next_twin.new.volume in
    let w : VolumeState = c.set_segment.new.volume in
    let x : VolumeState = c.name_leaf.new.volume in
    let path = c.args.path.now in
    let row : Segment = record { code = c.args.code; bytes = c.args.bytes.now } in
    let y : ℕ = c.in_ok-before.before in
    let to : ℕ = c.in_ok-to.to in
    let two = reads-join (Ok c.in_ok-behind.behind) c.in_ok-before.ensures.read c.in_ok-behind.ensures.read in
    let of = c.requires.of sound in
    let can = c.requires.can sound in
    let may : MayMove d u path row y = record {
      of = of;
      forest = c.requires.holds sound;
      down = c.requires.there sound;
      typed = c.requires.typed sound;
      replace = can;
      unlink = c.in_ok-before.ensures.value sound;
      low = outgrown d u (tip path) (size_with d.types c.args.code (length c.args.bytes.now)) of.fit of can.there (c.requires.outgrows sound);
    } in
    let one = after-read d u c.prev_twin.new.volume c.in_ok-before.ensures.read sound in
    let same = after-read d u v two sound in
    let set = subst (λ (a : ℕ). IsSegmentSet d v a row to w) c.tip_of-address.ensures (c.in_ok-to.ensures.set same.sound) in
    let behind : c.in_ok-behind.behind ≡ (links_of d.types v).forward (tip path) =
    c.in_ok-behind.ensures.value one.sound ∙ ap (λ (m : Links). m.forward c.tip_of-address.result) (one.links ∙ sym same.links) ∙ ap (links_of d.types v).forward c.tip_of-address.ensures in
    let now = sound-as w.is_sound v.is_sound (sym c.in_ok-to.ensures.call.sound) same.sound in
    let done : IsRecorded d w (named (links_of d.types w) (parent_on path) c.args.code y ((links_of d.types v).forward (tip path)) to) x =
    subst (λ (h : ℕ). IsRecorded d w (named (links_of d.types w) h c.args.code y ((links_of d.types v).forward (tip path)) to) x) c.parent_on-parent.ensures
    (subst (λ (b : ℕ). IsRecorded d w (named (links_of d.types w) c.parent_on-parent.result c.args.code y b to) x) behind (c.in_ok-name_leaf.ensures.named now)) in
    row-set-read d u v x path row to two sound (same.volume of) (move-done d v w path row y to (may-move-after d u v path row y two sound may) set x done)
