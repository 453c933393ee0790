use Rattle.std.proofs.Common.{◌≡◌, ◌≢◌, ◌+◌, ◌++◌, ◌∷◌, [], ℕ, List, IsTrue, Ok, false, length, sym, ap, subst, ◌∙◌, rules}
use Rattle.std.proofs.lemmas.List.{length-append}
use Rattle.hd_dbd.specs.Types.{SegmentType}
use Rattle.hd_volume.specs.Volumes.{VolumeState}
use Rattle.hd_volume.proofs.CallSteps.{read-none, read-ok, reads-join}
use Rattle.hd_links.specs.Links.{Links, IsSegment}
use Rattle.hd_image.specs.Records.{links_of}
use Rattle.hd_image.proofs.OneImage.{links-same, volume-same}
use Rattle.hd_check_blocks.specs.declared.places.Place.{Place}
use Rattle.hd_check_blocks.specs.Places.{place_at}
use Rattle.hd_check_walk.specs.declared.notes.Note.{Note}
use Rattle.hd_check_walk.specs.declared.notes.Named.{Named}
use Rattle.hd_check_walk.specs.declared.notes.TheConstants.{CHILDLESS}
use Rattle.hd_check_walk.specs.Notes.{IsNoted, HasChildrenAt, AreNoted, AreChildrenNoted}
use Rattle.hd_check_walk.proofs.Chains.{when-some}
use Rattle.hd_check_walk.proofs.Noted.{noted-more, children-noted-more, none-noted, no-children-noted, read-memory}
use Rattle.hd_check_walk.proofs.Steps.{stands, coded}
use Rattle.hd_check_walk.proofs.notes.note_segments.Goals as goal

pub note_segment-requires-clause-of : goal.note_segment-requires-clause-of
note_segment-requires-clause-of g c = λ now.
    let i = c.loop-place.invariant in
    let sound : IsTrue c.args.volume.now.is_sound = rw (← i.read.call.sound) now in
    volume-same c.args.dbd.now c.args.volume.now c.loop-place.volume (i.read.image now) i.read.call.size i.read.call.sizes (c.requires.of sound)

pub note_segment-requires-clause-there : goal.note_segment-requires-clause-there
note_segment-requires-clause-there g c = λ now.
    let types : List SegmentType = c.args.dbd.now.types in
    let v : VolumeState = c.args.volume.now in
    let w : VolumeState = c.loop-place.volume in
    let i = c.loop-place.invariant in
    let ps : List Place = c.args.places.now in
    let n : ℕ = c.loop-place.place-index in
    let sound : IsTrue v.is_sound = rw (← i.read.call.sound) now in
    let same = links-same types v w (i.read.image now) i.read.call.size i.read.call.sizes in
    subst (λ (m : Links). IsSegment m (place_at ps n).address × (m.code (place_at ps n).address ≡ (place_at ps n).code)) (sym same)
    (stands types v ps (c.requires.places sound) n c.loop-place-test.true, coded types v ps (c.requires.places sound) n c.loop-place-test.true)

pub loop-place-init : goal.loop-place-init
loop-place-init g c =
    let types : List SegmentType = c.args.dbd.now.types in
    let m : Links = links_of types c.args.volume.now in
    let none : c.reserve.new.self.items ≡ [] = search rules in
    record {
      read = read-none c.args.volume.now 0;
      as_many = ap length none;
      noted = λ sound. none-noted types m c.args.places.now c.reserve.new.self.items none;
      children = λ sound. no-children-noted types m c.args.places.now c.reserve.new.self.items c.args.named.now.items none;
    }

pub returns-in_default-clause-read : goal.returns-in_default-clause-read
returns-in_default-clause-read g c = read-ok false (reads-join (Ok c.in_ok-note.field-0) c.loop-place.invariant.read c.in_ok-note.ensures.read)

pub loop-place-preserved : goal.loop-place-preserved
loop-place-preserved g c =
    let types : List SegmentType = c.args.dbd.now.types in
    let v : VolumeState = c.args.volume.now in
    let w : VolumeState = c.loop-place.volume in
    let m : Links = links_of types v in
    let ps : List Place = c.args.places.now in
    let i = c.loop-place.invariant in
    let n : ℕ = c.loop-place.place-index in
    let a : ℕ = (place_at ps n).address in
    let ns : List Note = c.loop-place.notes.items in
    let xs : List Named = c.loop-place.named.items in
    let ys : List Named = c.note_segment.new.named.items in
    let note : Note = c.in-Some.note in
    let pushed : c.push.new.self.items ≡ ns ++ note ∷ [] = search rules in
    let long = length-append ns (note ∷ []) in
    record {
      read = read-ok 0 (reads-join (Ok c.in_ok-note.field-0) i.read c.in_ok-note.ensures.read);
      as_many = ap length pushed ∙ long ∙ ap (λ (k : ℕ). k + 1) i.as_many;
      noted = λ sound.
          (let now : IsTrue w.is_sound = rw i.read.call.sound sound in
          let same = links-same types v w (i.read.image now) i.read.call.size i.read.call.sizes in
          let own : IsNoted types m note a = subst (λ (l : Links). IsNoted types l note a) same (when-some _ c.in_ok-note.field-0 note c.in-Some.is (c.in_ok-note.ensures.noted now)) in
          subst (λ (l : List Note). AreNoted types m ps l) (sym pushed)
          (noted-more types m ps ns note (subst (λ (k : ℕ). IsNoted types m note (place_at ps k).address) (sym i.as_many) own) (i.noted sound)));
      children = λ sound.
          (let now : IsTrue w.is_sound = rw i.read.call.sound sound in
          let same = links-same types v w (i.read.image now) i.read.call.size i.read.call.sizes in
          let own : note.children ≢ CHILDLESS → HasChildrenAt types m ys note.children a = subst (λ (l : Links). note.children ≢ CHILDLESS → HasChildrenAt types l ys note.children a) same
          (when-some _ c.in_ok-note.field-0 note c.in-Some.is (c.in_ok-note.ensures.children now)) in
          subst (λ (l : List Note). AreChildrenNoted types m ps l ys) (sym pushed)
          (children-noted-more types m ps ns note xs ys c.in_ok-note.ensures.stays
          (subst (λ (k : ℕ). note.children ≢ CHILDLESS → HasChildrenAt types m ys note.children (place_at ps k).address) (sym i.as_many) own) (i.children sound)));
    }

pub returns-then-is_err-clause-read : goal.returns-then-is_err-clause-read
returns-then-is_err-clause-read g c = read-memory (reads-join (Ok c.in_ok-note.field-0) c.loop-place.invariant.read c.in_ok-note.ensures.read)
