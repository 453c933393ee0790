use Rattle.std.proofs.Common.{◌≡◌, ◌<◌, ◌+◌, ◌++◌, [], ℕ, List, Ok, IsTrue, length, true, refl, sym, ap, subst, ◌∙◌, arith}
use Rattle.hd_dbd.specs.Types.{SegmentType}
use Rattle.hd_dbd.specs.Hierarchy.{Database}
use Rattle.hd_volume.specs.Volumes.{VolumeState}
use Rattle.hd_volume.proofs.CallSteps.{read-none, read-ok, reads-join}
use Rattle.hd_links.specs.Links.{Links, IsSegment}
use Rattle.hd_image.specs.Records.{links_of}
use Rattle.hd_image.proofs.OneImage.{links-same, volume-same}
use Rattle.hd_check_blocks.specs.declared.fault.Fault.{Fault}
use Rattle.hd_check_blocks.specs.declared.places.Place.{Place}
use Rattle.hd_check_blocks.specs.Places.{place_at}
use Rattle.hd_check_blocks.proofs.Lookups.{among}
use Rattle.hd_check_blocks.proofs.Listing.{AreStandingAmong, IsSeen, seen-more, seen-all}
use Rattle.hd_check_blocks.proofs.PlaceLemmas.{places-same}
use Rattle.hd_check_pointers.specs.Listed.{record_faults}
use Rattle.hd_check_pointers.proofs.RecordLists.{record-standing, header-seen, third-here}
use Rattle.hd_check_pointers.proofs.records.records_faults.Goals as goal

pub loop-place-init : goal.loop-place-init
loop-place-init g c = record {
  read = read-none c.args.volume.now 0;
  listed = λ sound.
      (let d : Database = c.args.dbd.now in
      let v : VolumeState = c.args.volume.now in
      let ps : List Place = c.args.places.now in
      let first = (c.requires.of sound).formatted.header.first in
      let listed : c.list_roots.new.faults.items ≡ record_faults d.types (links_of d.types v) 0 =
      c.in_ok-list_roots.ensures.faults d v (c.requires.places sound) (c.first_root-first.ensures sound first) (c.last_root.ensures sound first)
      ∙ ap (λ (l : List Fault). l ++ record_faults d.types (links_of d.types v) 0) c.new-faults.ensures.items in
      header-seen d v 3 ps c.list_roots.new.faults.items (subst (AreStandingAmong d v 3 (λ k a. a ≡ 0)) (sym listed) (record-standing d v 0 refl)));
}

pub list_record-requires-clause-there : goal.list_record-requires-clause-there
list_record-requires-clause-there g c = λ now.
    let v : VolumeState = c.args.volume.now in
    let w : VolumeState = c.loop-place.volume in
    let i = c.loop-place.invariant in
    let types : List SegmentType = c.args.dbd.now.types in
    let sound : IsTrue v.is_sound = rw (← i.read.call.sound) now in
    let same = links-same types v w (i.read.image now) i.read.call.size i.read.call.sizes in
    let at = (c.requires.places sound).there (place_at c.args.places.now c.loop-place.place-index) (among c.args.places.now c.loop-place.place-index c.loop-place-test.true) in
    subst (λ (m : Links). IsSegment m (place_at c.args.places.now c.loop-place.place-index).address) (sym same) at.0

pub list_record-requires-clause-of : goal.list_record-requires-clause-of
list_record-requires-clause-of g c = λ now.
    let i = c.loop-place.invariant in
    let sound : IsTrue c.args.volume.now.is_sound = rw (← i.read.call.sound) now in
    volume-same c.args.dbd.now c.args.volume.now c.loop-place.volume (i.read.image now) i.read.call.size i.read.call.sizes (c.requires.of sound)

pub loop-place-preserved : goal.loop-place-preserved
loop-place-preserved g c =
    let d : Database = c.args.dbd.now in
    let types : List SegmentType = d.types in
    let v : VolumeState = c.args.volume.now in
    let w : VolumeState = c.loop-place.volume in
    let i = c.loop-place.invariant in
    let ps : List Place = c.args.places.now in
    let n : ℕ = c.loop-place.place-index in
    let a : ℕ = (place_at ps n).address in
    let items : List Fault = c.loop-place.faults.items in
    record {
      read = read-ok 0 (reads-join (Ok c.in_ok-list_record.field-0) i.read c.in_ok-list_record.ensures.read);
      listed = λ sound.
          (let now : IsTrue w.is_sound = rw i.read.call.sound sound in
          let same = links-same types v w (i.read.image now) i.read.call.size i.read.call.sizes in
          let places = c.requires.places sound in
          let within : n < length ps = c.loop-place-test.true in
          let at = places.there (place_at ps n) (among ps n within) in
          let more : c.list_record.new.faults.items ≡ items ++ record_faults types (links_of types v) a =
          c.in_ok-list_record.ensures.faults now (places-same types v w ps same places) ∙ ap (λ (m : Links). items ++ record_faults types m a) same in
          subst (AreStandingAmong d v 3 (λ k b. IsSeen ps (n + 1) b)) (sym more)
          (seen-more d v 3 ps places n items (record_faults types (links_of types v) a) within (i.listed sound) (record-standing d v a at.0.here)));
    }

pub returns-clause-faults : goal.returns-clause-faults
returns-clause-faults g c = λ sound.
    seen-all c.args.dbd.now c.args.volume.now 3 c.args.places.now (c.requires.places sound) c.loop-place.place-index c.loop-place.faults.items (let end = c.loop-place-test.false in omega arith)
    (third-here c.args.dbd.now c.args.volume.now) (c.loop-place.invariant.listed sound)
