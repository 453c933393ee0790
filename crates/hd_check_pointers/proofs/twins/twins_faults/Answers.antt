use Rattle.std.proofs.Common.{◌≡◌, ◌<◌, ◌+◌, ◌++◌, [], ℕ, List, Ok, IsTrue, length, sym, ap, subst, ◌∙◌, arith}
use Rattle.hd_dbd.specs.Types.{SegmentType}
use Rattle.hd_dbd.specs.Hierarchy.{Database}
use Rattle.hd_volume.specs.Volumes.{VolumeState}
use Rattle.hd_volume.proofs.CallSteps.{read-none, read-ok, reads-join}
use Rattle.hd_links.specs.Links.{Links}
use Rattle.hd_links.specs.Pointers.{Precedes}
use Rattle.hd_image.specs.Records.{links_of}
use Rattle.hd_image.specs.declared.line.Line.TheVariants.{WrongBackward, WrongLast}
use Rattle.hd_image.proofs.OneImage.{links-same}
use Rattle.hd_check_blocks.specs.declared.fault.Fault.{Fault}
use Rattle.hd_check_blocks.specs.declared.places.Place.{Place}
use Rattle.hd_check_blocks.specs.Listing.{faults_of}
use Rattle.hd_check_blocks.proofs.Listing.{AreStandingAmong, IsSeen, seen-more, seen-all}
use Rattle.hd_check_pointers.specs.Tables.{place_at, naming_at, AreForwards, AreOwners}
use Rattle.hd_check_pointers.specs.Listed.{fault_with, AreTwinsListed}
use Rattle.hd_check_pointers.proofs.PlaceNumbers.{matched-same}
use Rattle.hd_check_pointers.proofs.RecordLists.{header-seen}
use Rattle.hd_check_pointers.proofs.TwinFaults.{there}
use Rattle.hd_check_pointers.proofs.TwinLists.{twins-standing, header-standing}
use Rattle.hd_check_pointers.proofs.twins.twins_faults.Goals as goal

pub loop-number-init : goal.loop-number-init
loop-number-init g c = record {
  read = read-none c.args.volume.now 0;
  listed = λ sound.
      (let d : Database = c.args.dbd.now in
      let v : VolumeState = c.args.volume.now in
      let M = c.requires.matched sound in
      let first = M.volume.formatted.header.first in
      let roots = c.last_root_fault-roots.ensures in
      let listed : c.list_fault.new.faults.items ≡ faults_of c.last_root_fault-roots.result =
      c.in_ok-list_fault.ensures.faults ∙ ap (λ (l : List Fault). l ++ faults_of c.last_root_fault-roots.result) c.new-faults.ensures.items in
      header-seen d v 5 c.args.places.now c.list_fault.new.faults.items
      (subst (AreStandingAmong d v 5 (λ k a. a ≡ 0)) (sym listed)
      (header-standing d v c.last_root_fault-roots.result
      (roots.none d v M (c.requires.forwards sound) (c.requires.owners sound) (c.first_root.ensures sound first) (c.last_root.ensures sound first))
      (roots.some d v M (c.requires.forwards sound) (c.requires.owners sound) (c.first_root.ensures sound first) (c.last_root.ensures sound first)))));
}

pub list_twin_links-requires-clause-matched : goal.list_twin_links-requires-clause-matched
list_twin_links-requires-clause-matched g c = λ now.
    let i = c.loop-number.invariant in
    let sound : IsTrue c.args.volume.now.is_sound = rw (← i.read.call.sound) now in
    matched-same c.args.dbd.now c.args.volume.now c.loop-number.volume c.args.places.now (i.read.image now) i.read.call.size i.read.call.sizes (c.requires.matched sound)

pub list_twin_links-requires-clause-owners : goal.list_twin_links-requires-clause-owners
list_twin_links-requires-clause-owners g c = λ now.
    let i = c.loop-number.invariant in
    let types : List SegmentType = c.args.dbd.now.types in
    let sound : IsTrue c.args.volume.now.is_sound = rw (← i.read.call.sound) now in
    let same = links-same types c.args.volume.now c.loop-number.volume (i.read.image now) i.read.call.size i.read.call.sizes in
    subst (λ (m : Links). AreOwners types m c.args.places.now c.args.owners.now) (sym same) (c.requires.owners sound)

pub list_twin_links-requires-clause-precedes : goal.list_twin_links-requires-clause-precedes
list_twin_links-requires-clause-precedes g c = λ now.
    let i = c.loop-number.invariant in
    let types : List SegmentType = c.args.dbd.now.types in
    let sound : IsTrue c.args.volume.now.is_sound = rw (← i.read.call.sound) now in
    let same = links-same types c.args.volume.now c.loop-number.volume (i.read.image now) i.read.call.size i.read.call.sizes in
    let n : ℕ = c.loop-number.number in
    let test = c.loop-number-test.true in
    let least = c.min-number-end.ensures in
    let within : n < length c.args.places.now = omega arith in
    subst (λ (m : Links). Precedes types m (naming_at c.args.namings.now n).holder (place_at c.args.places.now n).address) (sym same) ((c.requires.predecessors sound).holder n within)

pub list_twin_links-requires-clause-forwards : goal.list_twin_links-requires-clause-forwards
list_twin_links-requires-clause-forwards g c = λ now.
    let i = c.loop-number.invariant in
    let types : List SegmentType = c.args.dbd.now.types in
    let sound : IsTrue c.args.volume.now.is_sound = rw (← i.read.call.sound) now in
    let same = links-same types c.args.volume.now c.loop-number.volume (i.read.image now) i.read.call.size i.read.call.sizes in
    subst (λ (m : Links). AreForwards m c.args.places.now c.args.forwards.now) (sym same) (c.requires.forwards sound)

pub loop-number-preserved : goal.loop-number-preserved
loop-number-preserved g c =
    let d : Database = c.args.dbd.now in
    let types : List SegmentType = d.types in
    let v : VolumeState = c.args.volume.now in
    let w : VolumeState = c.loop-number.volume in
    let i = c.loop-number.invariant in
    let ps : List Place = c.args.places.now in
    let n : ℕ = c.loop-number.number in
    let a : ℕ = (place_at ps n).address in
    let items : List Fault = c.loop-number.faults.items in
    record {
      read = read-ok 0 (reads-join (Ok c.in_ok-list_twin_links.field-0) i.read c.in_ok-list_twin_links.ensures.read);
      listed = λ sound.
          (let now : IsTrue w.is_sound = rw i.read.call.sound sound in
          let same = links-same types v w (i.read.image now) i.read.call.size i.read.call.sizes in
          let test = c.loop-number-test.true in
          let least = c.min-number-end.ensures in
          let within : n < length ps = omega arith in
          let t : AreTwinsListed types (links_of types v) a items c.list_twin_links.new.faults.items =
          subst (λ (m : Links). AreTwinsListed types m a items c.list_twin_links.new.faults.items) same (c.in_ok-list_twin_links.ensures.faults now) in
          subst (AreStandingAmong d v 5 (λ k b. IsSeen ps (n + 1) b)) (sym t.new_is)
          (seen-more d v 5 ps (c.requires.matched sound).stand n items (faults_of (fault_with WrongBackward a t.backward) ++ faults_of (fault_with WrongLast a t.last)) within (i.listed sound)
          (twins-standing d v a t.backward t.last t.backward_none t.backward_some t.last_none t.last_some)));
    }

pub returns-clause-faults : goal.returns-clause-faults
returns-clause-faults g c = λ sound.
    let end = c.loop-number-test.false in
    let least = c.min-number-end.ensures in
    let many = (c.requires.predecessors sound).as_many in
    seen-all c.args.dbd.now c.args.volume.now 5 c.args.places.now (c.requires.matched sound).stand c.loop-number.number c.loop-number.faults.items (omega arith)
    (there c.args.dbd.now c.args.volume.now) (c.loop-number.invariant.listed sound)
