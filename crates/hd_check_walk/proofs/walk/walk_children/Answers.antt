use Rattle.std.proofs.Common.{◌≡◌, ◌<◌, inl, ℕ, ◌+◌, List, Bool, IsTrue, Result, Ok, Err, length, slice_index_or, true, false, refl, sym, ap, subst, ◌∙◌, arith}
use Rattle.std.proofs.lemmas.Result.{err_from_is_err_and}
use Rattle.hd_dbd.specs.Types.{SegmentType}
use Rattle.hd_dbd.specs.Hierarchy.{Database}
use Rattle.hd_dbd.specs.declared.answer.Refused.{Refused}
use Rattle.hd_volume.specs.Volumes.{VolumeState}
use Rattle.hd_volume.specs.Calls.{IsRead}
use Rattle.hd_volume.proofs.CallSteps.{read-none, read-ok, reads-join}
use Rattle.hd_links.specs.Links.{Links, is_child_type}
use Rattle.hd_links.specs.Pointers.{IsReached}
use Rattle.hd_image.specs.Records.{links_of}
use Rattle.hd_image.proofs.OneImage.{links-same, volume-same}
use Rattle.hd_check_blocks.specs.declared.places.Place.{Place}
use Rattle.hd_check_blocks.specs.Places.{place_at}
use Rattle.hd_check_blocks.proofs.PlaceLemmas.{places-same}
use Rattle.hd_check_pointers.specs.Keys.{IsLastKey}
use Rattle.hd_check_walk.specs.Notes.{IsChildNumber, AreNamedFor, AreNoted}
use Rattle.hd_check_walk.specs.Walks.{IsWalkedSoFar}
use Rattle.hd_check_walk.proofs.Chains.{stays-join}
use Rattle.hd_check_walk.proofs.Steps.{stands, coded}
use Rattle.hd_check_walk.proofs.Children.{IsTypeWalked, types-listed, hand-typed, hand-numbered, walked-more, all-walked, hand-walked}
use Rattle.hd_check_walk.proofs.walk.walk_children.Goals as goal

pub loop-child-init : goal.loop-child-init
loop-child-init g c = record {
  index = refl;
  read = read-none c.args.volume.now 0;
  as_many = c.requires.as_many;
  known = c.requires.known;
  kept = λ sound i known. refl;
  types = λ sound u among. inl among;
  walked = λ sound in_hand walked. walked;
}

pub walk_type-requires-clause-of : goal.walk_type-requires-clause-of
walk_type-requires-clause-of g c = λ now.
    let i = c.loop-child.invariant in
    let sound : IsTrue c.args.volume.now.is_sound = rw (← i.read.call.sound) now in
    volume-same c.args.dbd.now c.args.volume.now c.loop-child.volume (i.read.image now) i.read.call.size i.read.call.sizes (c.requires.of sound)

pub walk_type-requires-clause-places : goal.walk_type-requires-clause-places
walk_type-requires-clause-places g c = λ now.
    let i = c.loop-child.invariant in
    let types : List SegmentType = c.args.dbd.now.types in
    let sound : IsTrue c.args.volume.now.is_sound = rw (← i.read.call.sound) now in
    places-same types c.args.volume.now c.loop-child.volume c.args.places.now (links-same types c.args.volume.now c.loop-child.volume (i.read.image now) i.read.call.size i.read.call.sizes) (c.requires.places sound)

pub walk_type-requires-clause-known : goal.walk_type-requires-clause-known
walk_type-requires-clause-known g c = λ now.
    let i = c.loop-child.invariant in
    let types : List SegmentType = c.args.dbd.now.types in
    let sound : IsTrue c.args.volume.now.is_sound = rw (← i.read.call.sound) now in
    subst (λ (m : Links). IsLastKey types m c.loop-child.last) (sym (links-same types c.args.volume.now c.loop-child.volume (i.read.image now) i.read.call.size i.read.call.sizes)) (i.known sound)

pub walk_type-requires-clause-noted : goal.walk_type-requires-clause-noted
walk_type-requires-clause-noted g c = λ now.
    let i = c.loop-child.invariant in
    let types : List SegmentType = c.args.dbd.now.types in
    let sound : IsTrue c.args.volume.now.is_sound = rw (← i.read.call.sound) now in
    subst (λ (m : Links). AreNoted types m c.args.places.now c.args.notes.now) (sym (links-same types c.args.volume.now c.loop-child.volume (i.read.image now) i.read.call.size i.read.call.sizes)) (c.requires.noted sound)

pub walk_type-requires-clause-children : goal.walk_type-requires-clause-children
walk_type-requires-clause-children g c = λ now.
    let i = c.loop-child.invariant in
    let types : List SegmentType = c.args.dbd.now.types in
    let n : ℕ = c.args.number in
    let sound : IsTrue c.args.volume.now.is_sound = rw (← i.read.call.sound) now in
    subst (λ (m : Links). AreNamedFor types m c.args.notes.now c.args.named.now n (place_at c.args.places.now n).address)
    (sym (links-same types c.args.volume.now c.loop-child.volume (i.read.image now) i.read.call.size i.read.call.sizes)) (c.requires.children sound n)

pub walk_type-requires-clause-child : goal.walk_type-requires-clause-child
walk_type-requires-clause-child g c = λ now.
    let i = c.loop-child.invariant in
    let d : Database = c.args.dbd.now in
    let v : VolumeState = c.args.volume.now in
    let w : VolumeState = c.loop-child.volume in
    let ps : List Place = c.args.places.now in
    let n : ℕ = c.args.number in
    let a : ℕ = (place_at ps n).address in
    let ts : List ℕ = c.children_of-child-items.result.now in
    let k : ℕ = c.loop-child.child-index in
    let sound : IsTrue v.is_sound = rw (← i.read.call.sound) now in
    let same = links-same d.types v w (i.read.image now) i.read.call.size i.read.call.sizes in
    let test = c.if-number-places.false in
    let within : n < length ps = omega arith in
    let list = types-listed d v a (place_at ps n).code ts (c.requires.of sound) (stands d.types v ps (c.requires.places sound) n within) (coded d.types v ps (c.requires.places sound) n within)
    c.children_of-child-items.ensures in
    subst (λ (m : Links). IsChildNumber d.types m a c.loop-child.index (slice_index_or ts k 0)) (sym same)
    (hand-numbered d.types (links_of d.types v) a ts k c.loop-child.index c.loop-child-test.true list i.index)

pub walk_type-requires-clause-there : goal.walk_type-requires-clause-there
walk_type-requires-clause-there g c = λ now.
    let i = c.loop-child.invariant in
    let types : List SegmentType = c.args.dbd.now.types in
    let ps : List Place = c.args.places.now in
    let n : ℕ = c.args.number in
    let sound : IsTrue c.args.volume.now.is_sound = rw (← i.read.call.sound) now in
    let test = c.if-number-places.false in
    let within : n < length ps = omega arith in
    let are = places-same types c.args.volume.now c.loop-child.volume ps (links-same types c.args.volume.now c.loop-child.volume (i.read.image now) i.read.call.size i.read.call.sizes) (c.requires.places sound) in
    (stands types c.loop-child.volume ps are n within, coded types c.loop-child.volume ps are n within)

pub walk_type-requires-clause-typed : goal.walk_type-requires-clause-typed
walk_type-requires-clause-typed g c = λ now.
    let i = c.loop-child.invariant in
    let d : Database = c.args.dbd.now in
    let v : VolumeState = c.args.volume.now in
    let w : VolumeState = c.loop-child.volume in
    let ps : List Place = c.args.places.now in
    let n : ℕ = c.args.number in
    let ts : List ℕ = c.children_of-child-items.result.now in
    let sound : IsTrue v.is_sound = rw (← i.read.call.sound) now in
    let same = links-same d.types v w (i.read.image now) i.read.call.size i.read.call.sizes in
    let test = c.if-number-places.false in
    let within : n < length ps = omega arith in
    let list = types-listed d v (place_at ps n).address (place_at ps n).code ts (c.requires.of sound) (stands d.types v ps (c.requires.places sound) n within) (coded d.types v ps (c.requires.places sound) n within)
    c.children_of-child-items.ensures in
    subst (λ (m : Links). is_child_type d.types (m.code (place_at ps n).address) (slice_index_or ts c.loop-child.child-index 0) ≡ true) (sym same)
    (hand-typed d.types (links_of d.types v) (place_at ps n).address ts c.loop-child.child-index c.loop-child-test.true list)

pub walk_type-requires-clause-reached : goal.walk_type-requires-clause-reached
walk_type-requires-clause-reached g c = λ now.
    let i = c.loop-child.invariant in
    let types : List SegmentType = c.args.dbd.now.types in
    let sound : IsTrue c.args.volume.now.is_sound = rw (← i.read.call.sound) now in
    subst (λ (m : Links). (n : ℕ) × IsReached types m n (place_at c.args.places.now c.args.number).address)
    (sym (links-same types c.args.volume.now c.loop-child.volume (i.read.image now) i.read.call.size i.read.call.sizes)) (c.requires.reached sound)

pub returns-in_err-walk_type-clause-read : goal.returns-in_err-walk_type-clause-read
returns-in_err-walk_type-clause-read g c =
    let p = err_from_is_err_and c.from_residual.result c.from_residual.ensures.1 in
    subst (λ (r : Result Bool Refused). IsRead {T = Bool} c.args.volume.now r c.walk_type.new.volume) (sym (p.1 ∙ ap Err p.2))
    (reads-join (Err c.in_err-walk_type.field-0.0) c.loop-child.invariant.read c.in_err-walk_type.ensures.read)

pub returns-then-not-branch-clause-read : goal.returns-then-not-branch-clause-read
returns-then-not-branch-clause-read g c = read-ok false (reads-join (Ok c.in_ok-walk_type.field-0) c.loop-child.invariant.read c.in_ok-walk_type.ensures.read)

pub loop-child-preserved : goal.loop-child-preserved
loop-child-preserved g c =
    let types : List SegmentType = c.args.dbd.now.types in
    let v : VolumeState = c.args.volume.now in
    let w : VolumeState = c.loop-child.volume in
    let m : Links = links_of types v in
    let ps : List Place = c.args.places.now in
    let i = c.loop-child.invariant in
    let xs : List ℕ = c.loop-child.holders.items in
    let ys : List ℕ = c.walk_type.new.holders.items in
    let ts : List ℕ = c.children_of-child-items.result.now in
    let k : ℕ = c.loop-child.child-index in
    let a : ℕ = (place_at ps c.args.number).address in
    let right = c.if-not-branch.false in
    record {
      index = ap (λ (j : ℕ). j + 1) i.index;
      read = read-ok 0 (reads-join (Ok c.in_ok-walk_type.field-0) i.read c.in_ok-walk_type.ensures.read);
      as_many = c.in_ok-walk_type.ensures.as_many;
      known = λ sound.
          (let now : IsTrue w.is_sound = rw i.read.call.sound sound in
          let same = links-same types v w (i.read.image now) i.read.call.size i.read.call.sizes in
          subst (λ (l : Links). IsLastKey types l c.walk_type.new.last) same (c.in_ok-walk_type.ensures.known now right));
      kept = λ sound.
          (let now : IsTrue w.is_sound = rw i.read.call.sound sound in
          stays-join c.args.holders.now.items xs ys (i.kept sound) (c.in_ok-walk_type.ensures.kept now right));
      types = λ sound.
          (let now : IsTrue w.is_sound = rw i.read.call.sound sound in
          let same = links-same types v w (i.read.image now) i.read.call.size i.read.call.sizes in
          let hand : IsTypeWalked types m ps ys a (slice_index_or ts k 0) = subst (λ (l : Links). IsTypeWalked types l ps ys a (slice_index_or ts k 0)) same
          (c.in_ok-walk_type.ensures.first now right, c.in_ok-walk_type.ensures.last now right) in
          walked-more types m ps xs ys a ts k c.loop-child-test.true (c.in_ok-walk_type.ensures.kept now right) hand (i.types sound));
      walked = λ sound in_hand walked.
          (let now : IsTrue w.is_sound = rw i.read.call.sound sound in
          let same = links-same types v w (i.read.image now) i.read.call.size i.read.call.sizes in
          let step_on : (in_hand : ℕ) → IsWalkedSoFar types m ps 0 in_hand c.loop-child.waiting.items xs → IsWalkedSoFar types m ps 0 in_hand c.walk_type.new.waiting.items ys =
          subst (λ (l : Links). (in_hand : ℕ) → IsWalkedSoFar types l ps 0 in_hand c.loop-child.waiting.items xs → IsWalkedSoFar types l ps 0 in_hand c.walk_type.new.waiting.items ys) same (c.in_ok-walk_type.ensures.walked now right) in
          step_on in_hand (i.walked sound in_hand walked));
    }

pub returns-clause-known : goal.returns-clause-known
returns-clause-known g c = λ sound yes_is. c.loop-child.invariant.known sound

pub returns-clause-kept : goal.returns-clause-kept
returns-clause-kept g c = λ sound yes_is. c.loop-child.invariant.kept sound

pub returns-clause-walked : goal.returns-clause-walked
returns-clause-walked g c = λ sound yes_is walked.
    let d : Database = c.args.dbd.now in
    let v : VolumeState = c.args.volume.now in
    let ps : List Place = c.args.places.now in
    let n : ℕ = c.args.number in
    let i = c.loop-child.invariant in
    let ts : List ℕ = c.children_of-child-items.result.now in
    let test = c.if-number-places.false in
    let within : n < length ps = omega arith in
    let list = types-listed d v (place_at ps n).address (place_at ps n).code ts (c.requires.of sound) (stands d.types v ps (c.requires.places sound) n within) (coded d.types v ps (c.requires.places sound) n within)
    c.children_of-child-items.ensures in
    hand-walked d.types (links_of d.types v) ps c.loop-child.holders.items c.loop-child.waiting.items n (length ps)
    (all-walked d.types (links_of d.types v) ps c.loop-child.holders.items c.loop-child.holders.items (place_at ps n).address ts c.loop-child.child-index c.loop-child-test.false list (i.types sound))
    (i.walked sound n walked)
